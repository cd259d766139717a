-- There are as many terms as entries.
use Rattle.std.specs.Prelude.{length, List, ℤ, ℕ}
use Rattle.std.proofs.Common.{sym, ◌∙◌, ap}
use Rattle.pi_prop_made.proofs.KeptLemmas.{length-terms_of}
use Rattle.pi_prop_made.proofs.terms.Terms.len.Goals as goal

pub returns-clause-count : goal.returns-clause-count
returns-clause-count c = c.len.ensures.len ∙ (sym (length-terms_of c.self.inside.negated c.self.inside.entries.entries) ∙ ap (λ (ts : List (ℤ × ℕ)). length ts) c.self.view_is)
