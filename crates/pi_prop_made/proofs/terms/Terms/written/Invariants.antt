use Rattle.std.specs.Prelude.{◌≡◌, ◌++◌, true}
use Rattle.pi_prop_spec.specs.Steps.{have_128_bits}
use Rattle.pi_prop_made.specs.Kept.{terms_of}
use Rattle.pi_prop_made.proofs.terms.Terms.written.Given as goal

abbrev pub invariant-loop-variable : goal.invariant-loop-variable
invariant-loop-variable l = (l.written ++ terms_of l.self-inside.negated l.variable-iterator ≡ terms_of l.self-inside.negated l.self-inside.entries.entries) × (have_128_bits (terms_of l.self-inside.negated l.variable-iterator) ≡ true)
