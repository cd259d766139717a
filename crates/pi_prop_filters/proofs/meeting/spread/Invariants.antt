use Rattle.pi_prop_filters.specs.Variables.{AreSpread}
use Rattle.pi_prop_filters.proofs.meeting.spread.Given as goal

abbrev pub invariant-loop-k : goal.invariant-loop-k
invariant-loop-k g l = AreSpread l.k l.roots (g.P.Places.domains l.initial.places) (g.P.Places.domains l.places)
