use Rattle.pi_prop_filters.specs.Variables.{AreGathered}
use Rattle.pi_prop_filters.proofs.meeting.gather.Given as goal

abbrev pub invariant-loop-k : goal.invariant-loop-k
invariant-loop-k g l = AreGathered l.k l.roots (g.P.Places.domains l.initial.places) (g.P.Places.domains l.places)
