-- Budgets: what a run may still use.
use Rattle.std.specs.Prelude.{◌≡◌, ◌+◌, ◌≤◌, ⊤}
use Rattle.pi_meaning.specs.declared.happening.Budget.{Budget}
use Rattle.pi_meaning.specs.declared.happening.Mode.{Mode}

-- neither the Ticks nor the work of all kinds are more than they may be
pub record IsWithin (budget : Budget) : Type 0 where
  pub ticks : budget.ticks ≤ budget.steps
  pub work : budget.work.goals + budget.work.runs + budget.work.expansions ≤ budget.limit

-- all steps are used; the work is all that it may be (where they are within their bounds, both are equations)
abbrev pub AreStepsUsed : Budget → Type 0
AreStepsUsed b = b.steps ≤ b.ticks

abbrev pub IsWorkUsed : Budget → Type 0
IsWorkUsed b = b.limit ≤ b.work.goals + b.work.runs + b.work.expansions

-- the mode of the body of a planner call
abbrev pub IsInner : Mode → Type 0
IsInner Mode.Top = ⊥
IsInner (Mode.Inner rest) = ⊤

-- What a run does to its budget: it counts, and never past what it may use. The counter that a machine doesn't use stands
-- still: a Top machine does no work so far, and an Inner one counts no Ticks against the steps.
pub record Counts (mode : Mode) (old new : Budget) : Type 0 where
  pub ticks : old.ticks ≤ new.ticks
  pub goals : old.work.goals ≤ new.work.goals
  pub runs : new.work.runs ≡ old.work.runs
  pub expansions : new.work.expansions ≡ old.work.expansions
  pub steps : new.steps ≡ old.steps
  pub limit : new.limit ≡ old.limit
  pub top : mode ≡ Mode.Top → new.work ≡ old.work
  pub inner : IsInner mode → new.ticks ≡ old.ticks
  pub within : IsWithin old → IsWithin new
