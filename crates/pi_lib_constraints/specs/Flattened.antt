-- The integers and variables that stand in a term at any depth, as a walk finds them. (Own.)
use Rattle.std.specs.Prelude.{◌≡◌, List, [], ◌∷◌, Some, None, codes, Result, Ok, Err, Vec, ⊤}
use Rattle.std.specs.declared.alloc.Global.{Global}
use Rattle.pi_terms.specs.Tree.{Tree}
use Rattle.pi_constraints.specs.declared.constraint.Item.{Item}
use Rattle.pi_constraints.specs.declared.store.Ref.{Ref}
use Rattle.pi_constraints.specs.State.{bindings}
use Rattle.pi_constraints.specs.Store.{StoreView}
use Rattle.pi_effects.specs.Balls.{IsBall}
use Rattle.pi_effects.specs.Exception.{type_error}
use Rattle.pi_effects.specs.Items.{collection_items}
use Rattle.pi_effects.specs.declared.fault.Fault.{Fault}
use Rattle.pi_effects.specs.declared.fault.Kind.{Kind}
use Rattle.pi_effects.specs.declared.fault.Stop.{Stop}
use Rattle.pi_settling.specs.Asked.{Flat, flat, no_item, joined, flat_all, flat_items}
use Rattle.pi_unify.specs.Terms.{IsGiven, term_of}
use Rattle.pi_lib_constraints.specs.Kept.{AreRefsOf}

-- the items of a term by their Refs, or the first term that is none
abbrev pub ShowsFlat : {M : Type 0} → StoreView M → Result (Vec Ref Global) Stop → Flat → Type 0
ShowsFlat v (Ok found) f = (xs : List Item) × (f ≡ flat xs) × AreRefsOf v found.items xs
ShowsFlat v (Err (Stop.Raised fault)) f = (t : Tree) × (f ≡ no_item t) × IsBall v fault (type_error (codes "integer") t v.now.state)
ShowsFlat v (Err Stop.Memory) f = ⊤

-- ---- what is left to be looked at: the last Ref is the next

unfoldable pub AreGiven : {M : Type 0} → StoreView M → List Ref → Type 0
AreGiven v [] = ⊤
AreGiven v (r ∷ rs) = IsGiven v r × AreGiven v rs

abbrev pub flat_at : {M : Type 0} → StoreView M → Ref → Flat
flat_at v r = flat_items (bindings v.now.state) (term_of v r)

unfoldable pub flat_left : {M : Type 0} → StoreView M → List Ref → Flat
flat_left v [] = flat []
flat_left v (r ∷ rs) = joined (flat_left v rs) (flat_at v r)

-- these were found, and these are left
pub record IsFlattened {M : Type 0} (v : StoreView M) (found left : List Ref) (whole : Flat) : Type 0 where
  pub items : List Item
  pub are : AreRefsOf v found items
  pub given : AreGiven v left
  pub goes : whole ≡ joined (flat items) (flat_left v left)

-- a step: one more was found, or what stands in the term is left; or it is none
abbrev pub ShowsStep : {M : Type 0} → StoreView M → Ref → List Ref → List Ref → List Ref → List Ref → Result (Unit {0}) Stop → Type 0
ShowsStep v at found left now next (Ok done) =
    (whole : Flat) (items : List Item) → AreRefsOf v found items → whole ≡ joined (flat items) (joined (flat_at v at) (flat_left v left)) → IsFlattened v now next whole
ShowsStep v at found left now next (Err (Stop.Raised fault)) = (t : Tree) × (flat_at v at ≡ no_item t) × IsBall v fault (type_error (codes "integer") t v.now.state)
ShowsStep v at found left now next (Err Stop.Memory) = ⊤

-- what stands in a list or an array is left; any other term is none
pub record AreLeft {M : Type 0} (v : StoreView M) (at : Ref) (left next : List Ref) : Type 0 where
  pub items : List Tree
  pub are : collection_items (bindings v.now.state) (term_of v at) ≡ Some items
  pub given : AreGiven v next
  pub flat : flat_left v next ≡ joined (flat_all (flat_items (bindings v.now.state)) items) (flat_left v left)

abbrev pub ShowsLeft : {M : Type 0} → StoreView M → Ref → List Ref → List Ref → Result (Unit {0}) Stop → Type 0
ShowsLeft v at left next (Ok done) = AreLeft v at left next
ShowsLeft v at left next (Err (Stop.Raised fault)) = (collection_items (bindings v.now.state) (term_of v at) ≡ None) × (fault ≡ Fault.WrongKind Kind.Integer at)
ShowsLeft v at left next (Err Stop.Memory) = ⊤
