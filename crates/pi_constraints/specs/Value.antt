-- The value of a term under the bindings of a state: the term with the tree of each bound variable in its place, and so
-- on throughout. A variable may be bound to a term that holds variables of any numbers, so the bindings alone do not say
-- that this ends. It ends after as many rounds as there are variables, where no term holds itself.
use Rattle.std.specs.Prelude.{◌≡◌, ℕ, zero, suc, ◌<◌, ◌==◌, cond, ◌++◌, ◌∷◌, [], Some, None, length, slice_set, unwrap_or}
use Rattle.pi_terms.specs.Tree.{Tree, var}
use Rattle.pi_terms.specs.Places.{Places, held}
use Rattle.pi_terms.specs.Variables.{IsGround, Occurs}
use Rattle.pi_terms.specs.Substitution.{instance}

-- what each variable that was made is bound to; None for one that is not bound
abbrev pub Bindings : Type 0
Bindings = Places

-- each bound variable replaced once
abbrev pub replaced_once : Bindings → Tree → Tree
replaced_once b t = instance (λ n. unwrap_or (held b n) (var n)) t

unfoldable pub rounds : ℕ → Bindings → Tree → Tree
rounds zero b t = t
rounds (suc k) b t = rounds k b (replaced_once b t)

unfoldable pub value : Bindings → Tree → Tree
value b t = rounds (length b) b t

-- an assignment of terms to variables gives each bound variable what it gives the variable's term
abbrev pub Solves : (ℕ → Tree) → Bindings → Type 0
Solves s b = (n : ℕ) (u : Tree) → held b n ≡ Some u → s n ≡ instance s u

-- no term holds itself: the variables have ranks, and each is bound to a term of variables of lower ranks alone
pub record IsAcyclic (b : Bindings) : Type 0 where
  pub rank : ℕ → ℕ
  pub falls : (n m : ℕ) (u : Tree) → held b n ≡ Some u → Occurs m u → rank m < rank n

-- a term in place of one variable
abbrev pub only_at : ℕ → Tree → ℕ → Tree
only_at n u m = cond (m == n) u (var m)

-- a variable of the state is bound to a term, where it was not bound, and does not occur in the term's value
pub record MayBind (b : Bindings) (n : ℕ) (u : Tree) : Type 0 where
  pub acyclic : IsAcyclic b
  pub made : n < length b
  pub unbound : held b n ≡ None
  pub apart : Occurs n (value b u) → ⊥

abbrev pub ValueGoesByVariables : Type 0
ValueGoesByVariables = (b : Bindings) (t : Tree) → value b t ≡ instance (λ n. value b (var n)) t

abbrev pub UnboundIsItsOwnValue : Type 0
UnboundIsItsOwnValue = (b : Bindings) (n : ℕ) → held b n ≡ None → value b (var n) ≡ var n

abbrev pub BoundHasValueOfItsTerm : Type 0
BoundHasValueOfItsTerm = (b : Bindings) (n : ℕ) (u : Tree) → IsAcyclic b → held b n ≡ Some u → value b (var n) ≡ value b u

-- no bound variable is left in a value
abbrev pub ValueHasNoneBound : Type 0
ValueHasNoneBound = (b : Bindings) (t : Tree) (n : ℕ) → IsAcyclic b → Occurs n (value b t) → held b n ≡ None

abbrev pub GroundIsItsOwnValue : Type 0
GroundIsItsOwnValue = (b : Bindings) (t : Tree) → IsGround t → value b t ≡ t

-- the values are an assignment for the bindings, and the most general one: each other is an instance of it
abbrev pub ValuesSolve : Type 0
ValuesSolve = (b : Bindings) → IsAcyclic b → Solves (λ n. value b (var n)) b

abbrev pub ValueHasSameInstances : Type 0
ValueHasSameInstances = (b : Bindings) (s : ℕ → Tree) (t : Tree) → Solves s b → instance s (value b t) ≡ instance s t

abbrev pub BindingStaysAcyclic : Type 0
BindingStaysAcyclic = (b : Bindings) (n : ℕ) (u : Tree) → MayBind b n u → IsAcyclic (slice_set b n (Some u))

-- a new binding puts the term's value in place of the variable, in the values before
abbrev pub BindingReplaces : Type 0
BindingReplaces = (b : Bindings) (n : ℕ) (u t : Tree) → MayBind b n u → value (slice_set b n (Some u)) t ≡ instance (only_at n (value b u)) (value b t)

abbrev pub NewVariableChangesNoValue : Type 0
NewVariableChangesNoValue = (b : Bindings) (t : Tree) → IsAcyclic b → value (b ++ None ∷ []) t ≡ value b t

abbrev pub NewVariableStaysAcyclic : Type 0
NewVariableStaysAcyclic = (b : Bindings) → IsAcyclic b → IsAcyclic (b ++ None ∷ [])
