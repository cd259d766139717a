use Rattle.std.specs.Prelude.{◌≡◌, [], true}
use Rattle.pi_prop_spec.specs.Steps.{have_128_bits}
use Rattle.pi_prop_made.specs.Kept.{terms_of}
use Rattle.pi_prop_made.proofs.AddLemmas.{SoFar}
use Rattle.pi_prop_made.proofs.terms.Terms.times.Given as goal

abbrev pub invariant-loop-variable : goal.invariant-loop-variable
invariant-loop-variable l = SoFar l.fn.factor l.self-inside.negated [] l.product l.self-inside.entries.entries l.variable-iterator × (have_128_bits (terms_of l.self-inside.negated l.variable-iterator) ≡ true)
