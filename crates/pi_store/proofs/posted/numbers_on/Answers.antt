use Rattle.std.proofs.Common.{ℕ, sym, subst}
use Rattle.std.proofs.lemmas.List.Sorted.{Contains-permutation, IsNonDecreasingBy-from_sort}
use Rattle.pi_store_blocks.specs.Node.{IsListed}
use Rattle.pi_store.proofs.posted.numbers_on.Goals as goal

pub returns-clause-ascend : goal.returns-clause-ascend
returns-clause-ascend c = IsNonDecreasingBy-from_sort (λ n. n) c.sort_unstable.new.self.items c.sort_unstable.ensures.sorted

pub returns-clause-all : goal.returns-clause-all
returns-clause-all c = λ k on.
    Contains-permutation c.in_ok-numbers.numbers.items c.sort_unstable.new.self.items k c.sort_unstable.ensures.permutation
    ((c.in_ok-numbers.ensures k).1 (subst (λ (e : ℕ). IsListed c.args.words.now.region e k) (sym c.list_end.ensures) on))
