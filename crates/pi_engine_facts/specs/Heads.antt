-- What putting the head of a fact into a store comes to.
use Rattle.std.specs.Prelude.{◌≡◌, ◌<◌, ℕ, List, [], ◌∷◌, map, Option, Some, None, option_map, ⊤}
use Rattle.pi_terms.specs.Tree.{var}
use Rattle.pi_terms.specs.Places.{Places}
use Rattle.pi_constraints.specs.State.{IsState, next}
use Rattle.pi_constraints.specs.Store.{StoreView, IsTerm, AreTerms}
use Rattle.pi_constraints.specs.Evaluation.{Evaluated, EvaluatedAll}
use Rattle.pi_constraints.specs.declared.store.Ref.{Ref}
use Rattle.std.specs.declared.vec.Vec.{Vec}
use Rattle.std.specs.declared.alloc.Global.{Global}

-- the slots of a fact, each empty or with the number of its variable
abbrev pub made_places : List (Option ℕ) → Places
made_places slots = map (option_map var) slots

abbrev pub IsMade : ℕ → Option ℕ → Type 0
IsMade n None = ⊤
IsMade n (Some m) = m < n

-- the variables of slots are among the first so many
unfoldable pub AreMade : ℕ → List (Option ℕ) → Type 0
AreMade n [] = ⊤
AreMade n (o ∷ slots) = IsMade n o × AreMade n slots

-- a store has this term, state and slots
pub record Puts {M : Type 0} (w : StoreView M) (x : Evaluated) (r : Ref) (slots : List (Option ℕ)) : Type 0 where
  pub term : IsTerm w r x.tree
  pub state : w.now.state ≡ x.state
  pub sound : IsState w.now.state
  pub slots_are : made_places slots ≡ x.slots
  pub made : AreMade (next w.now.state) slots

pub record PutsAll {M : Type 0} (w : StoreView M) (x : EvaluatedAll) (rs : List Ref) (slots : List (Option ℕ)) : Type 0 where
  pub terms : AreTerms w rs x.trees
  pub state : w.now.state ≡ x.state
  pub sound : IsState w.now.state
  pub slots_are : made_places slots ≡ x.slots
  pub made : AreMade (next w.now.state) slots

-- a head's term that is put, or that there is none
abbrev pub PutsHead : {M : Type 0} → StoreView M → Option Evaluated → Option Ref → List (Option ℕ) → Type 0
PutsHead w (Some x) (Some r) slots = Puts w x r slots
PutsHead w (Some x) None slots = ⊥
PutsHead w None (Some r) slots = ⊥
PutsHead w None None slots = ⊤

-- the same of the terms of all patterns
abbrev pub PutsHeads : {M : Type 0} → StoreView M → Option EvaluatedAll → Option (Vec Ref Global) → List (Option ℕ) → Type 0
PutsHeads w (Some x) (Some rs) slots = PutsAll w x rs.items slots
PutsHeads w (Some x) None slots = ⊥
PutsHeads w None (Some rs) slots = ⊥
PutsHeads w None None slots = ⊤
