-- What the bodies of a planner call come to by what a planner was given. An entry stands for its state with its rest where the
-- search is by rests, and else for its state with every rest.
use Rattle.std.specs.Prelude.{◌≡◌, ℕ, pos, Bool, true, false, List, Contains}
use Rattle.pi_terms.specs.Tree.{Tree, int}
use Rattle.pi_terms.specs.Variables.{IsGround}
use Rattle.pi_plan.specs.declared.given.Successor.{Successor}
use Rattle.pi_plan.specs.declared.given.GivenState.{GivenState}
use Rattle.pi_plan.specs.Plan.{Bodies}

-- an entry stands for a state with a rest
pub record StandsFor (by_rest : Bool) (e : GivenState) (s : Tree) (r : ℕ) : Type 0 where
  pub state : e.state ≡ s
  pub rest : by_rest ≡ true → e.rest ≡ pos r

-- an answer of `action` has no fault: its state and action are ground and its cost is this integer from 0
pub record IsFaultless (n : Successor) (c : ℕ) : Type 0 where
  pub state : IsGround n.state
  pub action : IsGround n.action
  pub cost : n.cost ≡ int (pos c)

-- an entry that stands for it says that `final` has an answer
pub record GivenFinal (given : List GivenState) (by_rest : Bool) (s : Tree) (r : ℕ) : Type 0 where
  pub entry : GivenState
  pub among : Contains given entry
  pub stands : StandsFor by_rest entry s r
  pub is_final : entry.is_final ≡ true

-- an entry that stands for it has this answer of `action`
pub record GivenStep (given : List GivenState) (by_rest : Bool) (s : Tree) (r : ℕ) (a : Tree) (c : ℕ) (t : Tree) : Type 0 where
  pub entry : GivenState
  pub among : Contains given entry
  pub stands : StandsFor by_rest entry s r
  pub successor : Successor
  pub offered : Contains entry.successors successor
  pub faultless : IsFaultless successor c
  pub action : successor.action ≡ a
  pub state : successor.state ≡ t

-- an entry stands for it
pub record IsGiven (given : List GivenState) (by_rest : Bool) (s : Tree) (r : ℕ) : Type 0 where
  pub entry : GivenState
  pub among : Contains given entry
  pub stands : StandsFor by_rest entry s r

-- an entry stands for it, and none that does is final or has an answer of `action` with a fault
pub record GivenDone (given : List GivenState) (by_rest : Bool) (s : Tree) (r : ℕ) : Type 0 where
  pub is_given : IsGiven given by_rest s r
  pub not_final : (e : GivenState) → Contains given e → StandsFor by_rest e s r → e.is_final ≡ false
  pub faultless : (e : GivenState) → Contains given e → StandsFor by_rest e s r → (n : Successor) → Contains e.successors n → (c : ℕ) × IsFaultless n c

abbrev pub over : List GivenState → Bool → Bodies
over given by_rest = record {
  Final = λ s r. GivenFinal given by_rest s r;
  Gives = λ s r a c t. GivenStep given by_rest s r a c t;
  Done = λ s r. GivenDone given by_rest s r;
}
