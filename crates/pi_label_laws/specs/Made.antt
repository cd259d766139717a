-- Variables whose values the posted constraints make out of those of others, as the reading of a constraint posts it of its new variables. (Own.)
use Rattle.std.specs.Prelude.{◌≡◌, ◌≢◌, ℕ, ◌<◌, ℤ, List, [], Contains}
use Rattle.pi_constraints.specs.declared.constraint.Rel.{Rel}
use Rattle.pi_constraints.specs.declared.constraint.Item.{Item}
use Rattle.pi_constraints.specs.declared.constraint.Constraint.{Constraint}
use Rattle.pi_constraints.specs.Constraint.{SumHasVariable}
use Rattle.pi_constraints.specs.State.{State, IsState}
use Rattle.pi_prop_spec.specs.Places.{places_of}
use Rattle.pi_prop_spec.specs.Solutions.{value_of, Holds}
use Rattle.pi_settling.specs.Roots.{root_item}
use Rattle.pi_settling.specs.Stable.{IsStable}
use Rattle.pi_settling.specs.SettlingLaws.{MaySettle}

-- where a variable stands in a constraint that makes its value: in a sum, or alone as the product, the absolute value or the truth
pub data IsMadeIn (n : ℕ) : Constraint → Type 0 where
  in_sum : (rel : Rel) (terms : List (ℤ × ℕ)) (constant : ℤ) → IsMadeIn n (Constraint.Linear rel terms constant)
  as_product : (x y : Item) → x ≢ Item.Var n → y ≢ Item.Var n → IsMadeIn n (Constraint.Product (Item.Var n) x y)
  as_absolute : (x : Item) → x ≢ Item.Var n → IsMadeIn n (Constraint.Absolute (Item.Var n) x)
  as_truth : (rel : Rel) (terms : List (ℤ × ℕ)) (constant : ℤ) → (SumHasVariable terms n → ⊥) → IsMadeIn n (Constraint.Reified (Item.Var n) rel terms constant)

-- two assignments give all places of these constraints but those of a variable the same values
abbrev pub AgreeBeside : ℕ → List Constraint → (ℕ → ℤ) → (ℕ → ℤ) → Type 0
AgreeBeside n cs a b = (c : Constraint) (y : Item) → Contains cs c → Contains (places_of c) y → y ≢ Item.Var n → value_of a y ≡ value_of b y

-- these constraints make a variable's value: whatever values all other places have, they hold for one value of it at most
pub record Makes (n : ℕ) (cs : List Constraint) : Type 0 where
  pub places : (c : Constraint) → Contains cs c → IsMadeIn n c
  pub one : (a b : ℕ → ℤ) → ((c : Constraint) → Contains cs c → Holds c a) → ((c : Constraint) → Contains cs c → Holds c b) → AgreeBeside n cs a b → a n ≡ b n

-- an unbound variable of the call, or one whose value is made by constraints that are posted out of integers and variables of lower ranks
pub data IsKnown (s : State) (items : List Item) (rank : ℕ → ℕ) (n : ℕ) : Type 0 where
  of_call : (x : Item) → Contains items x → root_item s x ≡ Item.Var n → IsKnown s items rank n
  by_reading : (m : ℕ) (cs : List Constraint) → ((c : Constraint) → Contains cs c → Contains s.constraints c) → Makes m cs → root_item s (Item.Var m) ≡ Item.Var n →
      ((c : Constraint) (y : Item) (k : ℕ) → Contains cs c → Contains (places_of c) y → y ≢ Item.Var m → root_item s y ≡ Item.Var k → rank k < rank n) → IsKnown s items rank n

-- each unbound variable of a posted constraint is one of these
abbrev pub AreKnown : State → List Item → (ℕ → ℕ) → Type 0
AreKnown s items rank = (c : Constraint) (y : Item) (n : ℕ) → Contains s.constraints c → Contains (places_of c) y → root_item s y ≡ Item.Var n → IsKnown s items rank n

-- a stable state without agents, in which each unbound variable of a posted constraint is one of the call or made by a reading
pub record MayLabel (s : State) (items : List Item) : Type 0 where
  pub state : IsState s
  pub settles : MaySettle s
  pub stable : IsStable s s
  pub agents : s.agents ≡ []
  pub waiting : s.waiting ≡ []
  pub rank : ℕ → ℕ
  pub known : AreKnown s items rank
