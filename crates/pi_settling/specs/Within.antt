-- `X :: D` and `X notin D`: the right side is judged first, then the left one, which is a variable, an integer, or a list or an array of these, nested at any depth. Each item in turn keeps
-- the values of its domain that D has, or those that D lacks. Nothing is posted. (A User's Guide to Picat, 'Constraints'; exceptions are own.)
use Rattle.std.specs.Prelude.{ℕ, Bool, true, false, not, cond, List, [], ◌∷◌, Option, Some, None, option_and_then, Ok, Err, codes}
use Rattle.pi_terms.specs.Tree.{Tree}
use Rattle.pi_terms.specs.Places.{held}
use Rattle.pi_constraints.specs.declared.domain.Span.{Span}
use Rattle.pi_constraints.specs.declared.constraint.Item.{Item}
use Rattle.pi_constraints.specs.Domain.{has_value, common}
use Rattle.pi_constraints.specs.State.{State, bindings}
use Rattle.pi_effects.specs.Effect.{Effect, Raises, succeeds_in}
use Rattle.pi_effects.specs.Exception.{type_error}
use Rattle.pi_effects.specs.Answer.{Answer}
use Rattle.pi_settling.specs.Roots.{root_item, given}
use Rattle.pi_settling.specs.Asked.{Flat, flat, no_item, flat_items}
use Rattle.pi_settling.specs.Choices.{narrowed_to}
use Rattle.pi_settling.specs.Values.{all_but}
use Rattle.pi_settling.specs.RightSide.{side_domain}

-- a variable that is bound stays as it is
abbrev pub unless_bound : State → Option Tree → Option State → Option State
unless_bound s None o = o
unless_bound s (Some t) o = Some s

-- a variable keeps the values that a domain has: with none there is no answer, with one it is bound to it. A variable without a domain has all values before.
abbrev pub kept_in : List Span → State → ℕ → Option State
kept_in d s n = unless_bound s (held (bindings s) n) (narrowed_to s n (common (given s (Item.Var n)) d))

abbrev pub only_where : Bool → State → Option State
only_where b s = cond b (Some s) None

-- an item whose bindings are followed is in the domain, or isn't
abbrev pub item_in : List Span → State → Item → Option State
item_in d s (Item.Var n) = kept_in d s n
item_in d s (Item.Int i) = only_where (has_value d i) s

abbrev pub item_not_in : List Span → State → Item → Option State
item_not_in d s (Item.Var n) = kept_in (all_but d) s n
item_not_in d s (Item.Int i) = only_where (not (has_value d i)) s

-- the items from the left, each in the state that those before it left
unfoldable pub each_item : (State → Item → Option State) → List Item → State → Option State
each_item f [] s = Some s
each_item f (x ∷ xs) s = option_and_then (each_item f xs) (f s (root_item s x))

abbrev pub left_side : State → Flat → (State → Item → Option State) → Effect
left_side s (no_item t) f = Raises (type_error (codes "integer") t s)
left_side s (flat xs) f = succeeds_in (each_item f xs s)

abbrev pub by_domain : State → Tree → Answer (List Span) → (List Span → State → Item → Option State) → Effect
by_domain s t (Err ball) f = Raises ball
by_domain s t (Ok d) f = left_side s (flat_items (bindings s) t) (f d)

-- T :: U
abbrev pub within_goal : State → Tree → Tree → Effect
within_goal s t u = by_domain s t (side_domain true s u) item_in

-- T notin U
abbrev pub notin_goal : State → Tree → Tree → Effect
notin_goal s t u = by_domain s t (side_domain false s u) item_not_in
