-- What items are left one after the other, each by a Ref of its term, and whether each is left a value. (Own.)
use Rattle.std.specs.Prelude.{◌≡◌, ℕ, Bool, true, false, not, List, Option, Some, None}
use Rattle.std.specs.List.{AllZip}
use Rattle.pi_terms.specs.Tree.{Tree, var, int}
use Rattle.pi_constraints.specs.declared.constraint.Item.{Item}
use Rattle.pi_constraints.specs.declared.domain.Span.{Span}
use Rattle.pi_constraints.specs.declared.store.Ref.{Ref}
use Rattle.pi_constraints.specs.Domain.{has_value}
use Rattle.pi_constraints.specs.State.{State, bindings, followed}
use Rattle.pi_constraints.specs.Store.{StoreView, IsTerm}
use Rattle.pi_settling.specs.Within.{kept_in, only_where}

-- the term that an item is
abbrev pub item_term : Item → Tree
item_term (Item.Var n) = var n
item_term (Item.Int i) = int i

-- Refs of these items, in their order
abbrev pub AreRefsOf : {M : Type 0} → StoreView M → List Ref → List Item → Type 0
AreRefsOf v rs xs = AllZip (λ r x. IsTerm v r (item_term x)) rs xs

-- something is so, where it is wanted, and else it isn't
abbrev pub as_wanted : Bool → Bool → Bool
as_wanted true b = b
as_wanted false b = not b

-- an item whose bindings are followed: a variable is left what `kept` has; an integer is tested by d
abbrev pub item_kept : Bool → List Span → List Span → State → Item → Option State
item_kept wanted d kept s (Item.Var n) = kept_in kept s n
item_kept wanted d kept s (Item.Int i) = only_where (as_wanted wanted (has_value d i)) s

-- the state that is left, where each item is left a value
abbrev pub IsLeft : Bool → State → Option State → Type 0
IsLeft true r o = o ≡ Some r
IsLeft false r o = o ≡ None

-- a Ref leads to this unbound variable
pub record LeadsToVariable {M : Type 0} (v : StoreView M) (r : Ref) (n : ℕ) : Type 0 where
  pub term : Tree
  pub is : IsTerm v r term
  pub root : followed (bindings v.now.state) term ≡ var n
