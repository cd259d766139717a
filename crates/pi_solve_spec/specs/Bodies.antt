-- The bodies of planner calls: what `final(S)` and `action(S,NextS,Action,Cost)` of a program do, at each depth. They are a parameter, so that what is said of
-- plans serves the meaning over names and the core meaning. (A User's Guide to Picat, 'Planning'.)
use Rattle.std.specs.Prelude.{◌≡◌, ◌≢◌, ℕ, List, [], ◌∷◌, Option, Some, None, pos, negsuc, Contains}
use Rattle.pi_terms.specs.Tree.{Tree, var, int, atom, comp}
use Rattle.pi_terms.specs.Variables.{variables}
use Rattle.pi_traces.specs.Trace.{Trace, End, answers, end_of}
use Rattle.pi_constraints.specs.State.{State}
use Rattle.pi_meaning.specs.Shared.View.{View}

-- an answer of `action`: the values of its three last arguments, with all bindings replaced. (Where one is past the limit of copies, the trace has that exception in
-- the answer's place, as a query has.)
pub record Offer : Type 0 where
  pub state : Tree
  pub action : Tree
  pub cost : Tree

-- what a program's bodies do with a state, at a depth. Each is a strict place: what waits is run before an answer counts.
pub record Bodies : Type 0 where
  pub final : View → Tree → ℕ → Trace State
  pub action : View → Tree → ℕ → Trace Offer

-- ---- what a trace comes to that more depth only adds to

-- it gives this answer
abbrev pub Gives : {A : Type 0} → (ℕ → Trace A) → A → Type 0
Gives t x = (d : ℕ) × Contains (answers (t d)) x

-- it has an answer
abbrev pub HasAnswer : {A : Type 0} → (ℕ → Trace A) → Type 0
HasAnswer t = (d : ℕ) × (answers (t d) ≢ [])

-- it ends so
abbrev pub EndsIn : {A : Type 0} → (ℕ → Trace A) → End → Type 0
EndsIn t e = (d : ℕ) × (end_of (t d) ≡ e)

-- it ends so without an answer
abbrev pub FailsIn : {A : Type 0} → (ℕ → Trace A) → End → Type 0
FailsIn t e = (d : ℕ) × (end_of (t d) ≡ e) × (answers (t d) ≡ [])

-- ---- faults

abbrev pub if_none : List ℕ → Option Tree → Tree → Option Tree
if_none [] other t = other
if_none (n ∷ ns) other t = Some t

-- a term that holds a variable, or else another fault
abbrev pub if_ground : Tree → Option Tree → Option Tree
if_ground t other = if_none (variables t) other t

-- a cost that is no integer from 0
abbrev pub cost_fault : Tree → Option Tree
cost_fault (var n) = Some (var n)
cost_fault (int (pos n)) = None
cost_fault (int (negsuc n)) = Some (int (negsuc n))
cost_fault (atom name) = Some (atom name)
cost_fault (comp name ts) = Some (comp name ts)

-- the first faulty one of state, action and cost
abbrev pub fault : Offer → Option Tree
fault o = if_ground o.state (if_ground o.action (cost_fault o.cost))

abbrev pub fault_or : Option Tree → Option Tree → Option Tree
fault_or None other = other
fault_or (Some t) other = Some t

-- that of the first answer that has one
unfoldable pub first_fault : List Offer → Option Tree
first_fault [] = None
first_fault (o ∷ offers) = fault_or (fault o) (first_fault offers)
