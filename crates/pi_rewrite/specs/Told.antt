-- Which part the answer of lowering tells of as one that isn't built.
use Rattle.std.specs.Prelude.{ℕ, Option, None, Some, Result, Ok, Err}
use Rattle.pi_rewrite.specs.declared.lower_fault.LowerFault.{LowerFault}
use Rattle.pi_rewrite.specs.declared.lower_fault.LowerFault.TheVariants as fault

abbrev pub part_told : {T : Type 0} → Result T LowerFault → Option ℕ
part_told (Ok made) = None
part_told (Err (fault.NotBuilt number)) = Some number
part_told (Err fault.Memory) = None
