-- A propagation: the constraints that are due run one after the other, the one that waits longest first. A run makes constraints due of which a variable lost a
-- value, each once however often it becomes due. (Own; how propagation goes isn't said in A User's Guide to Picat, 'Constraints'.)
use Rattle.std.specs.Prelude.{◌≡◌, ◌≢◌, ◌↔◌, ℕ, suc, ◌+◌, ◌<◌, List, ◌∷◌, ◌++◌, length, AllPairs, Contains, Some, slice_get}
use Rattle.pi_constraints.specs.declared.constraint.Constraint.{Constraint}
use Rattle.pi_core.specs.declared.log.Work.{Work}
use Rattle.pi_constraints.specs.State.{State, IsState}
use Rattle.pi_settling.specs.SettlingLaws.{MaySettle}
use Rattle.pi_settling.specs.Run.{HasVariable, LosesValue, IsRun, ChangesNothing}

-- a run woke a constraint: one of its variables, taken through the bindings, lost a value
abbrev pub IsWoken : State → State → ℕ → Type 0
IsWoken s r i = (n : ℕ) × LosesValue s r n × HasVariable s i n

-- those that a run made due, each once: the constraints that it woke and that weren't due any more
pub record AreMadeDue (s r : State) (due fresh : List ℕ) : Type 0 where
  pub different : AllPairs (λ i j. i ≢ j) fresh
  pub has : (i : ℕ) → Contains fresh i ↔ (IsWoken s r i × (Contains due i → ⊥))

-- so many runs lead from a state, where these constraints are due, to a state and the constraints that are due there
pub data Runs (s : State) (due : List ℕ) : ℕ → State → List ℕ → Type 0 where
  no_run : Runs s due 0 s due
  one_more : (k : ℕ) (r q : State) (i : ℕ) (rest fresh : List ℕ) (c : Constraint) → Runs s due k r (i ∷ rest) → slice_get r.constraints i ≡ Some c → IsRun r c q →
      AreMadeDue r q rest fresh → Runs s due (suc k) q (rest ++ fresh)

-- What a propagation asks of where it begins: each item of a posted constraint comes to a variable with a domain or to an integer that a domain can have;
-- those that are due are different and were posted; and the filter of every other constraint changes nothing.
pub record MayPropagate (s : State) (due : List ℕ) : Type 0 where
  pub state : IsState s
  pub settles : MaySettle s
  pub different : AllPairs (λ i j. i ≢ j) due
  pub posted : (i : ℕ) → Contains due i → i < length s.constraints
  pub others : (i : ℕ) (c : Constraint) → slice_get s.constraints i ≡ Some c → (Contains due i → ⊥) → ChangesNothing s c

-- the work of a query
abbrev pub work_of : Work → ℕ
work_of w = w.goals + w.runs + w.expansions

-- so many runs more
pub record HasRun (k : ℕ) (old new : Work) : Type 0 where
  pub goals : new.goals ≡ old.goals
  pub runs : new.runs ≡ old.runs + k
  pub expansions : new.expansions ≡ old.expansions
