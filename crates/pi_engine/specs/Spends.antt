-- What a call of a machine does to its budget.
use Rattle.std.specs.Prelude.{◌≡◌, ◌≤◌}
use Rattle.pi_meaning.specs.declared.happening.Budget.{Budget}
use Rattle.pi_meaning.specs.declared.happening.Mode.{Mode}
use Rattle.pi_meaning.specs.Machine.Budget.{IsInner, IsWithin}

-- It counts Ticks and runs of propagators, and never past what it may use. A Top machine counts its Ticks against the steps, and an Inner one as work.
pub record Spends (mode : Mode) (old new : Budget) : Type 0 where
  pub ticks : old.ticks ≤ new.ticks
  pub goals : old.work.goals ≤ new.work.goals
  pub runs : old.work.runs ≤ new.work.runs
  pub expansions : new.work.expansions ≡ old.work.expansions
  pub steps : new.steps ≡ old.steps
  pub limit : new.limit ≡ old.limit
  pub top : mode ≡ Mode.Top → new.work.goals ≡ old.work.goals
  pub inner : IsInner mode → new.ticks ≡ old.ticks
  pub within : IsWithin old → IsWithin new
