use Rattle.std.specs.Prelude.{◌≡◌, false}
use Rattle.pi_prop_spec.specs.Limits.{are_narrow}
use Rattle.pi_prop_made.specs.Kept.{terms_of}
use Rattle.pi_prop_made.proofs.terms.Terms.are_narrow.Given as goal

abbrev pub invariant-loop-coefficient : goal.invariant-loop-coefficient
invariant-loop-coefficient l = are_narrow (terms_of false l.coefficient-iterator) ≡ are_narrow l.self
