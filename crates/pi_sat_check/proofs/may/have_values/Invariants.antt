use Rattle.std.proofs.Common.{ℕ, ◌<◌, get_or}
use Rattle.pi_constraints.specs.declared.constraint.Item.{Item}
use Rattle.pi_sat_check.specs.May.{HasValues}
use Rattle.pi_sat_check.proofs.may.have_values.Given as goal

abbrev pub invariant-loop-i : goal.invariant-loop-i
invariant-loop-i l = (k : ℕ) (other : Item) → k < l.i → HasValues l.domains (get_or l.items k other)
