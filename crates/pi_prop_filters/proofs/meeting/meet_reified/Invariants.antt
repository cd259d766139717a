use Rattle.std.proofs.Common.{◌≡◌, ◌∷◌, take}
use Rattle.pi_prop_spec.specs.Places.{sum_places}
use Rattle.pi_prop_filters.proofs.meeting.meet_reified.Given as goal

abbrev pub invariant-loop-i : goal.invariant-loop-i
invariant-loop-i g l = l.all.items ≡ l.fn.truth ∷ sum_places (take l.i l.terms)
