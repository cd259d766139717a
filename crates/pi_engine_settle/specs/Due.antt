-- What a goal leaves, and which constraints are due after it. (Own.)
use Rattle.std.specs.Prelude.{◌≡◌, ◌≢◌, ℕ, ◌<◌, ◌≤◌, List, [], ◌++◌, length, AllPairs, Contains, Option, Some, None, slice_get}
use Rattle.pi_terms.specs.Tree.{Tree}
use Rattle.pi_terms.specs.Places.{held}
use Rattle.pi_constraints.specs.declared.constraint.Constraint.{Constraint}
use Rattle.pi_constraints.specs.State.{State, bindings, next}
use Rattle.pi_constraints.specs.Store.{StoreView, IsGood, IsPostedOn, HasChanged}
use Rattle.pi_settling.specs.Load.{count_due}
use Rattle.pi_settling.specs.Run.{ChangesNothing}
use Rattle.pi_queue.specs.Waiting.{AreAdded}
use Rattle.pi_engine_settle.specs.declared.since.Since.{Since}

-- the constraints that are due after it, each once: the filter of every other one changes nothing
pub record IsDueFor (before s : State) (due : List ℕ) : Type 0 where
  pub different : AllPairs (λ i j. i ≢ j) due
  pub posted : (i : ℕ) → Contains due i → i < length s.constraints
  pub others : (i : ℕ) (c : Constraint) → slice_get s.constraints i ≡ Some c → (Contains due i → ⊥) → ChangesNothing s c
  pub count : length due ≡ count_due before s 0 s.constraints

-- where a goal began: nothing is remembered where no constraint was posted
abbrev pub SinceIs : {M : Type 0} → StoreView M → State → Option (Since M) → Type 0
SinceIs v before None = before.constraints ≡ []
SinceIs v before (Some x) = IsGood v x.mark × ((v.at_mark x.mark).state ≡ before) × (x.constraints ≡ length before.constraints)

-- ---- which they are

-- it is posted on a variable that changed
abbrev pub IsOnChanged : State → State → ℕ → Type 0
IsOnChanged before s i = (n : ℕ) × HasChanged before s n × IsPostedOn s n i

-- none was posted where nothing is remembered
abbrev pub IsOnChangedSince : {M : Type 0} → Option (Since M) → State → State → ℕ → Type 0
IsOnChangedSince None before s i = ⊥
IsOnChangedSince (Some x) before s i = IsOnChanged before s i

-- a number from one on, below another
abbrev pub IsFrom : ℕ → ℕ → ℕ → Type 0
IsFrom first end i = (first ≤ i) × (i < end)

-- those on variables that changed were added, and so many constraints were posted before
pub record AreOnChanged {M : Type 0} (since : Option (Since M)) (before s : State) (first : ℕ) (old new : List ℕ) : Type 0 where
  pub many : first ≡ length before.constraints
  pub added : AreAdded (IsOnChangedSince since before s) old new
