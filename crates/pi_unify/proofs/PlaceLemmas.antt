-- A node that is put by its kind, and the whole term.
use Rattle.std.proofs.Common.{◌≡◌, ℕ, ℤ, zero, suc, ◌+◌, ◌≤◌, List, [], ◌∷◌, length, reverse, Result, Ok, Err, ap, sym, ◌∙◌, subst, arith, length-append}
use Rattle.std.specs.Prelude.{OnErr}
use Rattle.pi_terms.specs.Tree.{Tree, var, int, atom, Trees, tree_count, ShowsHead}
use Rattle.pi_terms.specs.Variables.{variables}
use Rattle.pi_terms.specs.Copy.{place_in, renamed, copy, new_variables}
use Rattle.pi_constraints.specs.State.{State, free, next, with_new}
use Rattle.pi_constraints.specs.Store.{StoreView, IsTerm, Keeps, Changes, Gives, Stays}
use Rattle.pi_constraints.specs.declared.store.Ref.{Ref}
use Rattle.pi_terms.specs.declared.term.TermHead.{TermHead}
use Rattle.pi_terms.proofs.VariableLemmas.{only_its_variables_count}
use Rattle.pi_unify.specs.Copying.{with_variables, Makes, renumbered, AreBuilt, PutsNode}
use Rattle.pi_unify.proofs.KeepsLemmas.{terms_kept, stays_then}

-- ---- a node by its kind

pub puts_variable : {M : Type 0} (v : StoreView M) (rename : ℕ → ℕ) (u : Tree) (head : TermHead) (n : ℕ) (built : List Ref) (made : Ref) (ts : Trees) → head ≡ TermHead.Var n → ShowsHead u head → IsTerm v made (var (rename n)) → AreBuilt v built ts → PutsNode v v rename u built built made ts
unfolding tree_count
puts_variable v rename u head n built made ts is shown term put =
    let here : u ≡ var n = subst (ShowsHead u) is shown in
    subst (λ (w : Tree). PutsNode v v rename w built built made ts) (sym here) (record { term = term; rest = put })

pub puts_integer : {M : Type 0} (v w : StoreView M) (rename : ℕ → ℕ) (u : Tree) (head : TermHead) (n : ℤ) (built : List Ref) (made : Ref) (ts : Trees) → head ≡ TermHead.Int n → ShowsHead u head → Keeps v w → IsTerm w made (int n) → AreBuilt v built ts → PutsNode v w rename u built built made ts
unfolding tree_count
puts_integer v w rename u head n built made ts is shown kept term put =
    let here : u ≡ int n = subst (ShowsHead u) is shown in
    subst (λ (x : Tree). PutsNode v w rename x built built made ts) (sym here) (record { term = term; rest = terms_kept v w (reverse built) ts kept put })

pub puts_atom : {M : Type 0} (v w : StoreView M) (rename : ℕ → ℕ) (u : Tree) (name : List ℕ) (built : List Ref) (made : Ref) (ts : Trees) → u ≡ atom name → Keeps v w → IsTerm w made (atom name) → AreBuilt v built ts → PutsNode v w rename u built built made ts
unfolding tree_count
puts_atom v w rename u name built made ts here kept term put =
    subst (λ (x : Tree). PutsNode v w rename x built built made ts) (sym here) (record { term = term; rest = terms_kept v w (reverse built) ts kept put })

-- ---- the whole

next-with : (k : ℕ) (s : State) → next (with_variables k s) ≡ next s + k
unfolding with_variables
next-with zero s = omega arith
next-with (suc k) s =
    let one : next (with_new (with_variables k s)) ≡ next (with_variables k s) + 1 = length-append (with_variables k s).variables (free ∷ []) in
    omega (arith, one, next-with k s)

pub made_enough : {M : Type 0} (v w : StoreView M) (k : ℕ) (ns : List ℕ) → Makes v w k → k ≡ length ns → length ns ≤ next w.now.state
made_enough v w k ns makes e = omega (arith, ap next makes.state, next-with k v.now.state)

-- the newest variables stand for those of a term: that is its copy
pub renamed_is_copy : {M : Type 0} (v w : StoreView M) (k : ℕ) (ns : List ℕ) (t : Tree) → Makes v w k → k ≡ length ns → ns ≡ variables t → renamed (renumbered w.now.state ns) t ≡ copy (next v.now.state) t
unfolding copy
renamed_is_copy v w k ns t makes e known =
    only_its_variables_count (λ n. var (renumbered w.now.state ns n)) (λ n. var (next v.now.state + place_in (variables t) n)) t (λ n h.
    ap var (ap (λ m. m + place_in ns n) (omega (arith, ap next makes.state, next-with k v.now.state)) ∙ ap (λ ms. next v.now.state + place_in ms n) known))

pub placed : {M : Type 0} (v w x : StoreView M) (k : ℕ) (ns : List ℕ) (t : Tree) (made : Ref) → Makes v w k → k ≡ length ns → ns ≡ variables t → Stays w x → IsTerm x made (renamed (renumbered w.now.state ns) t) → Gives v x (with_variables (new_variables t) v.now.state) made (copy (next v.now.state) t)
placed v w x k ns t made makes e known stays term = record {
  changes = subst (λ (j : ℕ). Changes v x (with_variables j v.now.state)) (e ∙ ap length known) (stays_then v w x (with_variables k v.now.state) makes stays);
  term = subst (λ (u : Tree). IsTerm x made u) (renamed_is_copy v w k ns t makes e known) term;
}

pub on_err : {A E : Type 0} (r : Result A E) (P : Type 0) → P → OnErr r P
on_err (Ok x) P h = tt
on_err (Err e) P h = h
