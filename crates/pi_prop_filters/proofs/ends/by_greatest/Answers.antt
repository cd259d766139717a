use Rattle.std.proofs.Common.{List, ℤ, subst}
use Rattle.std.specs.List.Sorted.{IsPermutation}
use Rattle.pi_prop_filters.proofs.EndLemmas.{sorted_by_greatest}
use Rattle.pi_prop_filters.proofs.ends.by_greatest.Goals as goal

pub returns-clause-same : goal.returns-clause-same
returns-clause-same g c = subst (λ (x : List (ℤ × ℤ)). IsPermutation x c.sort_unstable.new.self.items) c.in_ok-sorted.ensures.all c.sort_unstable.ensures.permutation

pub returns-clause-sorted : goal.returns-clause-sorted
returns-clause-sorted g c = sorted_by_greatest c.sort_unstable.new.self.items c.sort_unstable.ensures.sorted
