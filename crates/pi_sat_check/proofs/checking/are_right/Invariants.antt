use Rattle.std.proofs.Common.{◌≡◌, ℕ, ◌<◌, take, Some}
use Rattle.std.specs.Prelude.{slice_get}
use Rattle.pi_sat_spec.specs.declared.entry.SatEntry.{SatEntry}
use Rattle.pi_sat_spec.specs.Logs.{IsRightEntry}
use Rattle.pi_sat_check.proofs.checking.are_right.Given as goal

abbrev pub invariant-loop-i : goal.invariant-loop-i
invariant-loop-i l = (k : ℕ) (e : SatEntry) → k < l.i → slice_get l.entries k ≡ Some e → IsRightEntry l.domains l.constraints (take k l.entries) e
