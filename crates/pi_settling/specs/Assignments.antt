-- Assignments of variables that extend to a solution of all that is posted, and the first of them. `sat_solve` binds its variables to that one. (Own.)
use Rattle.std.specs.Prelude.{◌≡◌, ◌⊎◌, ℕ, ◌+◌, ℤ, ◌<ℤ◌, List, [], ◌∷◌, map, All, AllPairs, Contains}
use Rattle.pi_terms.specs.Tree.{int}
use Rattle.pi_constraints.specs.declared.constraint.Item.{Item}
use Rattle.pi_prop_spec.specs.Solutions.{value_of}
use Rattle.pi_traces.specs.Trace.{Trace, end, note, ans, Tick, Load, Out, done}
use Rattle.pi_constraints.specs.State.{State, with_binding}
use Rattle.pi_settling.specs.Roots.{root_item}
use Rattle.pi_settling.specs.Settled.{loaded, IsSettled}
use Rattle.pi_settling.specs.Solves.{Solves}
use Rattle.pi_settling.specs.Confined.{confined}
use Rattle.pi_settling.specs.SearchLoad.{search_load}

-- the items have these values in some solution
pub record Extends (s : State) (items : List Item) (values : List ℤ) : Type 0 where
  pub assignment : ℕ → ℤ
  pub solves : Solves s assignment
  pub are : map (value_of assignment) items ≡ values

-- lists of values in ascending order, from the left
unfoldable pub ComesBefore : List ℤ → List ℤ → Type 0
ComesBefore [] js = ⊥
ComesBefore (i ∷ is) [] = ⊥
ComesBefore (i ∷ is) (j ∷ js) = (i <ℤ j) ⊎ ((i ≡ j) × ComesBefore is js)

-- the first assignment that extends to a solution
pub record IsFirst (s : State) (items : List Item) (values : List ℤ) : Type 0 where
  pub extends : Extends s items values
  pub none_before : (others : List ℤ) → Extends s items others → ComesBefore others values → ⊥

-- all assignments that extend to a solution, one after the other by an order
pub record AreAllBy (R : List ℤ → List ℤ → Type 0) (s : State) (items : List Item) (lists : List (List ℤ)) : Type 0 where
  pub sound : All (Extends s items) lists
  pub complete : (values : List ℤ) → Extends s items values → Contains lists values
  pub in_order : AllPairs R lists

-- in ascending order, and so each once
abbrev pub AreAll : State → List Item → List (List ℤ) → Type 0
AreAll s items lists = AreAllBy ComesBefore s items lists

-- ---- `sat_solve`

-- the variables among the items bound to their values
abbrev pub bound_to : State → Item → ℤ → State
bound_to s (Item.Var n) i = with_binding s n (int i)
bound_to s (Item.Int j) i = s

unfoldable pub all_bound : State → List Item → List ℤ → State
all_bound s [] values = s
all_bound s (x ∷ items) [] = s
all_bound s (x ∷ items) (i ∷ values) = all_bound (bound_to s (root_item s x) i) items values

-- more in the load of a goal that was settled, which then has one in any case
abbrev pub with_load : {A : Type 0} → ℕ → Trace A → Trace A
with_load more (end e) = loaded more (end e)
with_load more (note Tick t) = loaded more (note Tick t)
with_load more (note (Load k) t) = loaded (more + k) t
with_load more (note (Out text) t) = loaded more (note (Out text) t)
with_load more (ans x t) = loaded more (ans x t)

-- What the goal comes to that began in a state: the variables are confined, bound to the first assignment and settled from where the goal began; or there is no answer, exactly
-- where there is none.
abbrev pub IsSatSolved : State → List Item → Trace State → Type 0
IsSatSolved s items t =
    ((values : List ℤ) × (u : Trace State) × IsFirst (confined s items) items values × IsSettled s (all_bound (confined s items) items values) u × (t ≡ with_load (search_load s items) u))
    ⊎ (((values : List ℤ) → Extends (confined s items) items values → ⊥) × (t ≡ with_load (search_load s items) done))
