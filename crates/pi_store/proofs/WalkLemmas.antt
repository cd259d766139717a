-- The walks along variables: one step more, and the end of a chain.
use Rattle.std.proofs.Common.{◌≡◌, ℕ, zero, suc, ◌+◌, ◌-◌, ◌<◌, true, false, List, Option, Some, None, refl, ap, sym, ◌∙◌, arith, cond}
use Rattle.std.proofs.lemmas.Bool.Decides.{nat_tests}
use Rattle.std.specs.Prelude.{unwrap_or, ◌==◌}
use Rattle.pi_constraints.specs.declared.store.Ref.{Ref}
use Rattle.pi_store.specs.Walk.{bound_to, step_at, steps_at, next_at, any_of, leads_for}

step_stays : (vs : List ℕ) (r : Ref) → bound_to vs r ≡ None → step_at vs r ≡ r
step_stays vs r e = ap (λ o. unwrap_or o r) e

pub steps_end : (k : ℕ) (vs : List ℕ) (r : Ref) → bound_to vs r ≡ None → steps_at k vs r ≡ r
unfolding steps_at
steps_end zero vs r e = refl
steps_end (suc k) vs r e = ap (λ q. steps_at k vs q) (step_stays vs r e) ∙ steps_end k vs r e

steps_suc : (k : ℕ) (vs : List ℕ) (r q : Ref) → bound_to vs r ≡ Some q → steps_at (suc k) vs r ≡ steps_at k vs q
unfolding steps_at
steps_suc k vs r q e = ap (λ o. steps_at k vs (unwrap_or o r)) e

pub steps_more : (n i : ℕ) (vs : List ℕ) (r q : Ref) → i < n → bound_to vs r ≡ Some q → steps_at (n - (i + 1)) vs q ≡ steps_at (n - i) vs r
steps_more n i vs r q h e = let f : n - i ≡ suc (n - (i + 1)) = omega arith in rw f (sym (steps_suc (n - (i + 1)) vs r q e))

pub steps_none : (n i : ℕ) (vs : List ℕ) (r : Ref) → n - i ≡ 0 → steps_at (n - i) vs r ≡ r
unfolding steps_at
steps_none n i vs r e = ap (λ k. steps_at k vs r) e

equal : (n v : ℕ) → n ≡ v → (n == v) ≡ true
equal n v e = grind (arith, nat_tests)

unequal : (n v : ℕ) → (n ≡ v → ⊥) → (n == v) ≡ false
unequal n v e = grind (arith, nat_tests)

leads_same : (k : ℕ) (vs : List ℕ) (n v : ℕ) → (n == v) ≡ true → leads_for k vs n v ≡ true
unfolding leads_for
leads_same zero vs n v e = e
leads_same (suc k) vs n v e = ap (λ b. cond b true (any_of (λ m. leads_for k vs m v) (next_at vs n))) e

leads_suc : (k : ℕ) (vs : List ℕ) (n v : ℕ) (o : Option ℕ) → (n == v) ≡ false → next_at vs n ≡ o → leads_for (suc k) vs n v ≡ any_of (λ m. leads_for k vs m v) o
unfolding leads_for
leads_suc k vs n v o e f = ap (λ b. cond b true (any_of (λ m. leads_for k vs m v) (next_at vs n))) e ∙ ap (λ p. any_of (λ m. leads_for k vs m v) p) f

leads_stop : (k : ℕ) (vs : List ℕ) (n v : ℕ) → (n == v) ≡ false → next_at vs n ≡ None → leads_for k vs n v ≡ false
unfolding leads_for
leads_stop zero vs n v e f = e
leads_stop (suc k) vs n v e f = leads_suc k vs n v None e f

pub leads_more : (n i : ℕ) (vs : List ℕ) (at next v : ℕ) → i < n → (at ≡ v → ⊥) → next_at vs at ≡ Some next → leads_for (n - (i + 1)) vs next v ≡ leads_for (n - i) vs at v
leads_more n i vs at next v h e f = let g : n - i ≡ suc (n - (i + 1)) = omega arith in rw g (sym (leads_suc (n - (i + 1)) vs at v (Some next) (unequal at v e) f))

pub leads_none : (n i : ℕ) (vs : List ℕ) (at v : ℕ) → n - i ≡ 0 → leads_for (n - i) vs at v ≡ (at == v)
unfolding leads_for
leads_none n i vs at v e = ap (λ k. leads_for k vs at v) e

pub leads_here : (k : ℕ) (vs : List ℕ) (n v : ℕ) → n ≡ v → true ≡ leads_for k vs n v
leads_here k vs n v e = sym (leads_same k vs n v (equal n v e))

pub leads_end : (k : ℕ) (vs : List ℕ) (n v : ℕ) → (n ≡ v → ⊥) → next_at vs n ≡ None → false ≡ leads_for k vs n v
leads_end k vs n v e f = sym (leads_stop k vs n v (unequal n v e) f)
