-- Plans (A User's Guide to Picat, 'Planning'; rests and exhausted numbers are own). A rest is what is left of the limit of a
-- planner call. All is said of what the bodies of a planner call come to at a state with a rest, wherever that is known from.
use Rattle.std.specs.Prelude.{ℕ, ◌+◌, ◌-◌, ◌<◌, ◌≤◌, Bool, true, false, List, [], ◌∷◌}
use Rattle.pi_terms.specs.Tree.{Tree, atom}
use Rattle.pi_terms.specs.ListNames.{nil}
use Rattle.pi_terms.specs.ListCopies.{list_cell}

-- at a state with a rest: `final` has an answer; `action` has an answer without a fault, with this action, this cost and this
-- state that follows; both are done, `final` without an answer and `action` without an answer that has a fault
pub record Bodies : Type 1 where
  pub Final : Tree → ℕ → Type 0
  pub Gives : Tree → ℕ → Tree → ℕ → Tree → Type 0
  pub Done : Tree → ℕ → Type 0

-- a step from a state with a rest: an action, its cost, which is within the rest, and the state that follows
pub record Step (b : Bodies) (s : Tree) (r : ℕ) (a : Tree) (c : ℕ) (t : Tree) : Type 0 where
  pub given : b.Gives s r a c t
  pub within : c ≤ r

-- the actions of a plan that is valid from a state with a rest, and its cost: none where the state is final, or a first
-- one and then a plan that is valid from the state that follows, with what is left
pub data Valid (b : Bodies) : Tree → ℕ → List Tree → ℕ → Type 0 where
  at_goal : {s : Tree} {r : ℕ} → b.Final s r → Valid b s r [] 0
  then_plan : {s : Tree} {r : ℕ} {a : Tree} {c : ℕ} {t : Tree} {plan : List Tree} {cost : ℕ} →
      Step b s r a c t → Valid b t (r - c) plan cost → Valid b s r (a ∷ plan) (c + cost)

-- the states with their rests that are reached from a start under a limit: the start with the limit, and what follows from one
-- that is reached and isn't final
pub data Reached (b : Bodies) (start : Tree) (limit : ℕ) : Tree → ℕ → Type 0 where
  at_start : Reached b start limit start limit
  then_step : {s : Tree} {r : ℕ} {a : Tree} {c : ℕ} {t : Tree} →
      Reached b start limit s r → (b.Final s r → ⊥) → Step b s r a c t → Reached b start limit t (r - c)

-- a number is exhausted: no plan is valid from the start with it, and the bodies are done at all that is reached under it
pub record Exhausted (b : Bodies) (start : Tree) (m : ℕ) : Type 0 where
  pub none : (plan : List Tree) (cost : ℕ) → Valid b start m plan cost → ⊥
  pub done : (s : Tree) (r : ℕ) → Reached b start m s r → b.Done s r

-- each smaller number is exhausted
abbrev pub AllBelow : Bodies → Tree → ℕ → Type 0
AllBelow b start m = (n : ℕ) → n < m → Exhausted b start n

-- a best plan is valid under a number up to the limit, and each smaller number is exhausted
pub record IsBest (b : Bodies) (start : Tree) (limit : ℕ) (plan : List Tree) (cost : ℕ) (m : ℕ) : Type 0 where
  pub within : m ≤ limit
  pub valid : Valid b start m plan cost
  pub least : AllBelow b start m

-- what a planner call wants: a best plan or any, the state to start from, the limit
pub record Wanted : Type 0 where
  pub best : Bool
  pub start : Tree
  pub limit : ℕ

-- a plan that a call may answer, with its cost
abbrev pub FoundAs : Bool → Bodies → Tree → ℕ → List Tree → ℕ → Type 0
FoundAs false b start limit plan cost = Valid b start limit plan cost
FoundAs true b start limit plan cost = (m : ℕ) × IsBest b start limit plan cost m

abbrev pub IsFound : Bodies → Wanted → List Tree → ℕ → Type 0
IsFound b w plan cost = FoundAs w.best b w.start w.limit plan cost

-- a call may answer that there is no plan
abbrev pub NoneAs : Bool → Bodies → Tree → ℕ → Type 0
NoneAs false b start limit = Exhausted b start limit
NoneAs true b start limit = (m : ℕ) → m ≤ limit → Exhausted b start m

abbrev pub HasNoPlan : Bodies → Wanted → Type 0
HasNoPlan b w = NoneAs w.best b w.start w.limit

-- a plan as a term: the list of its actions
unfoldable pub plan_term : List Tree → Tree
plan_term [] = atom nil
plan_term (a ∷ plan) = list_cell a (plan_term plan)
