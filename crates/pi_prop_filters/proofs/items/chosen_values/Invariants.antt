use Rattle.pi_prop_filters.specs.Choices.{AreValues}
use Rattle.pi_prop_filters.proofs.items.chosen_values.Given as goal

abbrev pub invariant-loop-i : goal.invariant-loop-i
invariant-loop-i g l = AreValues l.count l.i (g.P.Places.domains l.places) l.spans.items
