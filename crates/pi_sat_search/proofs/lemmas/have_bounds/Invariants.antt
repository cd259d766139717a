use Rattle.std.proofs.Common.{ℕ, ◌<◌, get_or}
use Rattle.std.specs.Prelude.{IsTrue}
use Rattle.pi_constraints.specs.Domain.{has_value}
use Rattle.pi_sat_spec.specs.declared.literal.Literal.{Literal}
use Rattle.pi_sat_spec.specs.Domains.{domain_of}
use Rattle.pi_sat_search.proofs.lemmas.have_bounds.Given as goal

abbrev pub invariant-loop-literal : goal.invariant-loop-literal
invariant-loop-literal l = (k : ℕ) (other : Literal) → k < l.literal-index → IsTrue (has_value (domain_of l.domains (get_or l.lemma k other).var) (get_or l.lemma k other).bound)
