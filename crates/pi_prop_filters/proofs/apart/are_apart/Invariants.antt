use Rattle.pi_prop_filters.specs.Variables.{AreApartBelow}
use Rattle.pi_prop_filters.proofs.apart.are_apart.Given as goal

abbrev pub invariant-loop-i : goal.invariant-loop-i
invariant-loop-i l = AreApartBelow l.items l.i l.next
