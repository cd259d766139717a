-- States that have new variables.
use Rattle.std.proofs.Common.{◌≡◌, ℕ, zero, suc, ◌≤◌, List, [], ◌∷◌, ◌++◌, None, length, get_or, refl, sym, ◌∙◌, ap, subst, arith}
use Rattle.std.proofs.lemmas.List.{length-append, length-map, map-append}
use Rattle.pi_terms.specs.Tree.{Tree, var}
use Rattle.pi_terms.specs.Places.{Places, held}
use Rattle.pi_constraints.specs.State.{State, Variable, bindings, binding, free, next, with_new}
use Rattle.pi_constraints.specs.Value.{IsAcyclic, value}
use Rattle.pi_constraints.proofs.StateLemmas.{variable}
use Rattle.pi_constraints.proofs.ValueLemmas.{unbound_is_its_own_value}
use Rattle.pi_constraints.proofs.BindingLemmas.{new_variable_changes_no_value, new_variable_stays_acyclic}

-- a later state has more variables, and those that it had are as they were; so it gives each term the value that it had
pub record IsLaterState (s r : State) : Type 0 where
  pub acyclic : IsAcyclic (bindings r)
  pub values : (t : Tree) → value (bindings r) t ≡ value (bindings s) t
  pub variables : (n : ℕ) → variable r n ≡ variable s n
  pub more : next s ≤ next r

pub later-same-state : (s : State) → IsAcyclic (bindings s) → IsLaterState s s
later-same-state s acyclic = record { acyclic = acyclic; values = λ t. refl; variables = λ n. refl; more = omega arith }

pub bindings-new : (s : State) → bindings (with_new s) ≡ bindings s ++ None ∷ []
bindings-new s = map-append binding s.variables (free ∷ [])

pub new-next : (s : State) → next (with_new s) ≡ suc (next s)
new-next s = length-append s.variables (free ∷ []) ∙ omega arith

free-more : (vs : List Variable) (n : ℕ) → get_or (vs ++ free ∷ []) n free ≡ get_or vs n free
free-more [] zero = refl
free-more [] (suc n) = refl
free-more (v ∷ vs) zero = refl
free-more (v ∷ vs) (suc n) = free-more vs n

-- a new variable has neither binding nor domain, as a number past the last
pub new-variable : (s : State) (n : ℕ) → variable (with_new s) n ≡ variable s n
new-variable s n = free-more s.variables n

pub later-new : (s r : State) → IsLaterState s r → IsLaterState s (with_new r)
later-new s r later =
    record {
      acyclic = subst IsAcyclic (sym (bindings-new r)) (new_variable_stays_acyclic (bindings r) later.acyclic);
      variables = λ n. new-variable r n ∙ later.variables n;
      values = λ t. ap (λ b. value b t) (bindings-new r) ∙ new_variable_changes_no_value (bindings r) t later.acyclic ∙ later.values t;
      more = omega (arith, later.more, new-next r);
    }

pub held-past : (b : Places) (n : ℕ) → length b ≤ n → held b n ≡ None
held-past [] zero h = refl
held-past [] (suc n) h = refl
held-past (o ∷ b) zero h = absurd (omega (arith, h))
held-past (o ∷ b) (suc n) h = held-past b n (omega (arith, h))

-- a variable that isn't made yet is its own value
pub value-past : (s : State) (m : ℕ) → next s ≤ m → value (bindings s) (var m) ≡ var m
value-past s m past = unbound_is_its_own_value (bindings s) m (held-past (bindings s) m (omega (arith, past, length-map s.variables binding)))

-- so is a new one
pub value-new : (s : State) → IsAcyclic (bindings s) → value (bindings (with_new s)) (var (next s)) ≡ var (next s)
value-new s acyclic =
    ap (λ b. value b (var (next s))) (bindings-new s) ∙ new_variable_changes_no_value (bindings s) (var (next s)) acyclic ∙ value-past s (next s) (omega arith)
