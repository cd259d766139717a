use Rattle.pi_prop_made.specs.Changes.{factor_of}
use Rattle.pi_prop_made.proofs.AddLemmas.{SoFar}
use Rattle.pi_prop_made.proofs.terms.Terms.add_all.Given as goal

abbrev pub invariant-loop-variable : goal.invariant-loop-variable
invariant-loop-variable l = SoFar (factor_of l.negated) l.other-inside.negated l.fn.self l.self l.other-inside.entries.entries l.variable-iterator
