use Rattle.std.proofs.Common.{◌≡◌, drop}
use Rattle.pi_syntax.specs.ExpLists.{exps_of}
use Rattle.pi_rewrite_spec.specs.Values.{are_flat_as}
use Rattle.pi_rewrite_slots.specs.ReadAs.{readings_of}
use Rattle.pi_rewrite_slots.proofs.flat.+flatness.Given as goal

-- those that are left decide it
abbrev pub invariant-are_flat-loop-i : goal.invariant-are_flat-loop-i
invariant-are_flat-loop-i l = are_flat_as (drop l.i (readings_of l.readings)) (exps_of (drop l.i l.exps)) ≡ are_flat_as (readings_of l.readings) (exps_of l.exps)
