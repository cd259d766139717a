-- The walks of the copying store: one step more, and the end of a chain.
use Rattle.std.proofs.Common.{◌≡◌, ℕ, zero, suc, ◌+◌, ◌-◌, ◌<◌, true, false, Option, Some, None, refl, ap, sym, ◌∙◌, arith, cond}
use Rattle.std.proofs.lemmas.Bool.Decides.{nat_tests}
use Rattle.std.specs.Prelude.{unwrap_or, ◌==◌}
use Rattle.pi_types.specs.TreeStoreWalks.{steps_in, step_in, binding_of_any, variable_in, variable_of_any, binding_in, leads_for, any_in}
use Rattle.pi_constraints.specs.declared.store.Ref.{Ref}
use Rattle.pi_types.specs.declared.tree_store.state.TreeState.{TreeState}

step_stays : (s : TreeState) (r : Ref) → binding_of_any s (variable_in s r) ≡ None → step_in s r ≡ r
step_stays s r e = ap (λ o. unwrap_or o r) e

pub steps_end : (k : ℕ) (s : TreeState) (r : Ref) → binding_of_any s (variable_in s r) ≡ None → steps_in k s r ≡ r
unfolding steps_in
steps_end zero s r e = refl
steps_end (suc k) s r e = ap (λ q. steps_in k s q) (step_stays s r e) ∙ steps_end k s r e

steps_suc : (k : ℕ) (s : TreeState) (r q : Ref) → binding_of_any s (variable_in s r) ≡ Some q → steps_in (suc k) s r ≡ steps_in k s q
unfolding steps_in
steps_suc k s r q e = ap (λ o. steps_in k s (unwrap_or o r)) e

pub steps_more : (n i : ℕ) (s : TreeState) (r q : Ref) → i < n → binding_of_any s (variable_in s r) ≡ Some q → steps_in (n - (i + 1)) s q ≡ steps_in (n - i) s r
steps_more n i s r q h e = let f : n - i ≡ suc (n - (i + 1)) = omega arith in rw f (sym (steps_suc (n - (i + 1)) s r q e))

pub steps_none : (n i : ℕ) (s : TreeState) (r : Ref) → n - i ≡ 0 → steps_in (n - i) s r ≡ r
unfolding steps_in
steps_none n i s r e = ap (λ k. steps_in k s r) e

equal : (n v : ℕ) → n ≡ v → (n == v) ≡ true
equal n v e = grind (arith, nat_tests)

unequal : (n v : ℕ) → (n ≡ v → ⊥) → (n == v) ≡ false
unequal n v e = grind (arith, nat_tests)

leads_same : (k : ℕ) (s : TreeState) (n v : ℕ) → (n == v) ≡ true → leads_for k s n v ≡ true
unfolding leads_for
leads_same zero s n v e = e
leads_same (suc k) s n v e = ap (λ b. cond b true (any_in (λ m. leads_for k s m v) (variable_of_any s (binding_in s n)))) e

leads_suc : (k : ℕ) (s : TreeState) (n v : ℕ) (o : Option ℕ) → (n == v) ≡ false → variable_of_any s (binding_in s n) ≡ o → leads_for (suc k) s n v ≡ any_in (λ m. leads_for k s m v) o
unfolding leads_for
leads_suc k s n v o e f = ap (λ b. cond b true (any_in (λ m. leads_for k s m v) (variable_of_any s (binding_in s n)))) e ∙ ap (λ p. any_in (λ m. leads_for k s m v) p) f

leads_stop : (k : ℕ) (s : TreeState) (n v : ℕ) → (n == v) ≡ false → variable_of_any s (binding_in s n) ≡ None → leads_for k s n v ≡ false
unfolding leads_for
leads_stop zero s n v e f = e
leads_stop (suc k) s n v e f = leads_suc k s n v None e f

pub leads_more : (n i : ℕ) (s : TreeState) (at next v : ℕ) → i < n → (at ≡ v → ⊥) → variable_of_any s (binding_in s at) ≡ Some next → leads_for (n - (i + 1)) s next v ≡ leads_for (n - i) s at v
leads_more n i s at next v h e f = let g : n - i ≡ suc (n - (i + 1)) = omega arith in rw g (sym (leads_suc (n - (i + 1)) s at v (Some next) (unequal at v e) f))

pub leads_none : (n i : ℕ) (s : TreeState) (at v : ℕ) → n - i ≡ 0 → leads_for (n - i) s at v ≡ (at == v)
unfolding leads_for
leads_none n i s at v e = ap (λ k. leads_for k s at v) e

pub leads_here : (k : ℕ) (s : TreeState) (n v : ℕ) → n ≡ v → true ≡ leads_for k s n v
leads_here k s n v e = sym (leads_same k s n v (equal n v e))

pub leads_end : (k : ℕ) (s : TreeState) (n v : ℕ) → (n ≡ v → ⊥) → variable_of_any s (binding_in s n) ≡ None → false ≡ leads_for k s n v
leads_end k s n v e f = sym (leads_stop k s n v (unequal n v e) f)
