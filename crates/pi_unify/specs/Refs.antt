-- Refs of a store: what a caller may hand to a call that walks terms.
use Rattle.std.specs.Prelude.{◌≡◌, ℕ, ◌<◌, pos, unwrap_or}
use Rattle.pi_terms.specs.Tree.{Tree, var, int, Trees, args, drop_trees}
use Rattle.pi_constraints.specs.State.{next, bindings, followed, SpeaksBelow, IsState}
use Rattle.pi_constraints.specs.Store.{StoreView, IsTerm}
use Rattle.pi_constraints.specs.declared.store.Ref.{Ref}
use Rattle.pi_unify.specs.declared.variables.Variable.{Variable}

-- the term of a Ref, and an integer for a number that names no term
abbrev pub term_of : {M : Type 0} → StoreView M → Ref → Tree
term_of v r = unwrap_or (v.now.terms r.number) (int (pos 0))

-- a Ref that the store gave and that no `undo` has taken back since: it names a term, of variables that were made
pub record IsRef {M : Type 0} (v : StoreView M) (r : Ref) : Type 0 where
  pub is : IsTerm v r (term_of v r)
  pub below : SpeaksBelow (next v.now.state) (term_of v r)

-- the term with the bindings at its root followed
abbrev pub root_of : {M : Type 0} → StoreView M → Ref → Tree
root_of v r = followed (bindings v.now.state) (term_of v r)

-- its arguments from one on, counted from 0
abbrev pub args_from : {M : Type 0} → StoreView M → Ref → ℕ → Trees
args_from v r k = drop_trees k (args (root_of v r))

-- a Ref of an unbound variable with its number
pub record IsVariable {M : Type 0} (v : StoreView M) (x : Variable) : Type 0 where
  pub at : IsRef v x.at
  pub root : root_of v x.at ≡ var x.number

-- a term that is no variable
abbrev pub IsNoVariable : Tree → Type 0
IsNoVariable t = (n : ℕ) → t ≡ var n → ⊥

-- What is handed over is sound: two terms, two variables with the lower one first, a variable and a term that is none

pub record AreTerms {M : Type 0} (v : StoreView M) (a b : Ref) : Type 0 where
  pub state : IsState v.now.state
  pub left : IsRef v a
  pub right : IsRef v b

pub record AreVariables {M : Type 0} (v : StoreView M) (x y : Variable) : Type 0 where
  pub state : IsState v.now.state
  pub low : IsVariable v x
  pub high : IsVariable v y
  pub less : x.number < y.number

pub record IsAssigned {M : Type 0} (v : StoreView M) (x : Variable) (r : Ref) : Type 0 where
  pub state : IsState v.now.state
  pub variable : IsVariable v x
  pub term : IsRef v r
  pub other : IsNoVariable (root_of v r)
