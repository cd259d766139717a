-- Terms that hold no unbound variable, and those that are left to be looked at, as the loop of `is_closed` keeps them. (Own.)
use Rattle.std.specs.Prelude.{◌≡◌, Bool, true, false, ◌&&◌, List, [], ◌∷◌, ⊤}
use Rattle.pi_constraints.specs.State.{bindings}
use Rattle.pi_constraints.specs.Store.{StoreView}
use Rattle.pi_constraints.specs.declared.store.Ref.{Ref}
use Rattle.pi_unify.specs.Terms.{IsGiven, term_of}
use Rattle.pi_effects.specs.Kinds.{holds_no_variable}

unfoldable pub AreGiven : {M : Type 0} → StoreView M → List Ref → Type 0
AreGiven v [] = ⊤
AreGiven v (r ∷ rs) = IsGiven v r × AreGiven v rs

-- no unbound variable is in the value of a Ref, nor in those of several
abbrev pub is_closed : {M : Type 0} → StoreView M → Ref → Bool
is_closed v r = holds_no_variable (bindings v.now.state) (term_of v r)

unfoldable pub are_closed : {M : Type 0} → StoreView M → List Ref → Bool
are_closed v [] = true
are_closed v (r ∷ rs) = is_closed v r && are_closed v rs

-- what is left says of a term what the term says
pub record Leaves {M : Type 0} (v : StoreView M) (at : Ref) (old new : List Ref) : Type 0 where
  pub given : AreGiven v new
  pub closed : are_closed v new ≡ (are_closed v old && is_closed v at)

-- the term was looked at: it is an unbound variable, or what is in it is left
abbrev pub IsLookedAt : {M : Type 0} → StoreView M → Ref → List Ref → List Ref → Bool → Type 0
IsLookedAt v at old new true = Leaves v at old new
IsLookedAt v at old new false = is_closed v at ≡ false
