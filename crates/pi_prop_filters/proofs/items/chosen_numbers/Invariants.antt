use Rattle.pi_prop_filters.specs.Choices.{AreNumbers}
use Rattle.pi_prop_filters.proofs.items.chosen_numbers.Given as goal

abbrev pub invariant-loop-i : goal.invariant-loop-i
invariant-loop-i g l = AreNumbers l.count l.i (g.P.Places.domains l.places) l.spans.items
