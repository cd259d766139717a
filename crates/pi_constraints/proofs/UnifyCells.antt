-- How many pairs a unification takes at most: the cells of terms under a new binding, and the unbound variables.
use Rattle.std.proofs.Common.{◌≡◌, ℕ, zero, suc, ◌+◌, ◌-◌, ◌*◌, ◌<◌, ◌≤◌, ◌==◌, List, [], ◌∷◌, ◌++◌, Some, None, length, set, refl, ap, sym, ◌∙◌, subst, inl, inr, arith}
use Rattle.std.proofs.Math.Nat.{add-mul, mul-le-mul, mul-le-mul_left, mul-le-mul_right}
use Rattle.std.proofs.lemmas.Bool.{cases_Bool}
use Rattle.pi_terms.specs.Tree.{Tree, var, int, atom, comp, Trees, no_trees, tree, cells, cells_all}
use Rattle.pi_terms.specs.Places.{held}
use Rattle.pi_terms.specs.Substitution.{instance, instances}
use Rattle.pi_constraints.specs.Value.{Bindings, value, only_at, MayBind}
use Rattle.pi_constraints.specs.Unify.{Pair, unbound_in, cells_of_pairs, most_pairs}
use Rattle.pi_constraints.proofs.BindingLemmas.{binding_replaces}

pub some_cells : (t : Tree) → 1 ≤ cells t
unfolding cells
some_cells (var n) = omega arith
some_cells (int n) = omega arith
some_cells (atom name) = omega arith
some_cells (comp name ts) = omega arith

only_at_cells : (n : ℕ) (u : Tree) (m : ℕ) → cells (only_at n u m) ≤ cells u
unfolding cells
only_at_cells n u m = elim (cases_Bool (m == n)) [ inl hit ↦ rw hit (omega arith) | inr miss ↦ rw miss (some_cells u) ]

mutual
  unfolding instance cells

  -- a term in place of a variable makes at most as many cells as those of both multiplied
  pub cells-one : (n : ℕ) (u t : Tree) → cells (instance (only_at n u) t) ≤ cells t * cells u
  cells-one n u (var m) = let here : cells (only_at n u m) ≤ cells u = only_at_cells n u m in omega arith
  cells-one n u (int m) = let some : 1 ≤ cells u = some_cells u in omega arith
  cells-one n u (atom name) = let some : 1 ≤ cells u = some_cells u in omega arith
  cells-one n u (comp name ts) =
      let some : 1 ≤ cells u = some_cells u in
      let rest : cells_all (instances (only_at n u) ts) ≤ cells_all ts * cells u = cells_all-one n u ts in
      let spread : suc (cells_all ts) * cells u ≡ 1 * cells u + cells_all ts * cells u = ap (λ (k : ℕ). k * cells u) (omega arith) ∙ add-mul 1 (cells_all ts) (cells u) in
      omega arith

  cells_all-one : (n : ℕ) (u : Tree) (ts : Trees) → cells_all (instances (only_at n u) ts) ≤ cells_all ts * cells u
  cells_all-one n u no_trees = omega arith
  cells_all-one n u (tree t ts) =
      let this : cells (instance (only_at n u) t) ≤ cells t * cells u = cells-one n u t in
      let rest : cells_all (instances (only_at n u) ts) ≤ cells_all ts * cells u = cells_all-one n u ts in
      let spread : (cells t + cells_all ts) * cells u ≡ cells t * cells u + cells_all ts * cells u = add-mul (cells t) (cells_all ts) (cells u) in
      omega arith

-- the values of pairs under a new binding
pub pairs-bound : (b : Bindings) (n : ℕ) (u : Tree) (ps : List Pair) → MayBind b n u → cells_of_pairs (set b n (Some u)) ps ≤ cells_of_pairs b ps * cells (value b u)
unfolding cells_of_pairs
pairs-bound b n u [] m = omega arith
pairs-bound b n u (p ∷ ps) m =
    let v : Tree = value b u in
    let left : cells (value (set b n (Some u)) p.0) ≤ cells (value b p.0) * cells v = subst (λ (t : Tree). cells t ≤ cells (value b p.0) * cells v) (sym (binding_replaces b n u p.0 m)) (cells-one n v (value b p.0)) in
    let right : cells (value (set b n (Some u)) p.1) ≤ cells (value b p.1) * cells v = subst (λ (t : Tree). cells t ≤ cells (value b p.1) * cells v) (sym (binding_replaces b n u p.1 m)) (cells-one n v (value b p.1)) in
    let rest : cells_of_pairs (set b n (Some u)) ps ≤ cells_of_pairs b ps * cells v = pairs-bound b n u ps m in
    let spread : ((cells (value b p.0) + cells (value b p.1)) + cells_of_pairs b ps) * cells v ≡ (cells (value b p.0) + cells (value b p.1)) * cells v + cells_of_pairs b ps * cells v = add-mul (cells (value b p.0) + cells (value b p.1)) (cells_of_pairs b ps) (cells v) in
    let inner : (cells (value b p.0) + cells (value b p.1)) * cells v ≡ cells (value b p.0) * cells v + cells (value b p.1) * cells v = add-mul (cells (value b p.0)) (cells (value b p.1)) (cells v) in
    omega arith

pub pairs-append : (b : Bindings) (ps qs : List Pair) → cells_of_pairs b (ps ++ qs) ≡ cells_of_pairs b ps + cells_of_pairs b qs
unfolding cells_of_pairs
pairs-append b [] qs = omega arith
pairs-append b (p ∷ ps) qs = let rest : cells_of_pairs b (ps ++ qs) ≡ cells_of_pairs b ps + cells_of_pairs b qs = pairs-append b ps qs in omega arith

-- ---- unbound variables

-- a variable that is bound is one less
pub unbound-set : (b : Bindings) (n : ℕ) (u : Tree) → n < length b → held b n ≡ None → suc (unbound_in (set b n (Some u))) ≡ unbound_in b
unfolding unbound_in
unbound-set [] n u h is = absurd (omega arith)
unbound-set (None ∷ b) zero u h is = refl
unbound-set (Some t ∷ b) zero u h is = absurd (cc)
unbound-set (None ∷ b) (suc n) u h is = ap suc (unbound-set b n u (omega arith) is)
unbound-set (Some t ∷ b) (suc n) u h is = unbound-set b n u (omega arith) is

-- ---- the most pairs

pub most-more : (n m k : ℕ) → m ≤ k → most_pairs n m ≤ most_pairs n k
unfolding most_pairs
most-more zero m k h = h
most-more (suc n) m k h =
    let square : m * m ≤ k * k = mul-le-mul h h in
    let rest : most_pairs n (m * m) ≤ most_pairs n (k * k) = most-more n (m * m) (k * k) square in
    omega arith

pub most-less : (n m k : ℕ) → m < k → most_pairs n m < most_pairs n k
unfolding most_pairs
most-less zero m k h = h
most-less (suc n) m k h =
    let square : m * m ≤ k * k = mul-le-mul {n₁ = m} {m₁ = m} {n₂ = k} {m₂ = k} (omega arith) (omega arith) in
    let rest : most_pairs n (m * m) ≤ most_pairs n (k * k) = most-more n (m * m) (k * k) square in
    omega arith

square-more : (m : ℕ) → m ≤ m * m
square-more zero = omega arith
square-more (suc m) =
    let h : suc m * 1 ≤ suc m * suc m = mul-le-mul_left {m = 1} {n = suc m} (suc m) (omega arith) in
    omega arith

most-unbound_one : (n m : ℕ) → most_pairs n m ≤ most_pairs (suc n) m
unfolding most_pairs
most-unbound_one n m = let more : most_pairs n m ≤ most_pairs n (m * m) = most-more n m (m * m) (square-more m) in omega arith

most-unbound_more : (d n m : ℕ) → most_pairs n m ≤ most_pairs (n + d) m
most-unbound_more zero n m = let same : most_pairs (n + zero) m ≡ most_pairs n m = ap (λ (k : ℕ). most_pairs k m) (omega arith) in omega arith
most-unbound_more (suc d) n m =
    let rest : most_pairs n m ≤ most_pairs (n + d) m = most-unbound_more d n m in
    let last : most_pairs (n + d) m ≤ most_pairs (suc (n + d)) m = most-unbound_one (n + d) m in
    let same : most_pairs (n + suc d) m ≡ most_pairs (suc (n + d)) m = ap (λ (k : ℕ). most_pairs k m) (omega arith) in
    omega arith

-- fewer unbound variables, and cells that were multiplied at most
pub most-bound : (n k c m r : ℕ) → n < k → r ≤ m → 1 ≤ m → c ≤ r * m → most_pairs n c < most_pairs k m
unfolding most_pairs
most-bound n zero c m r h g s l = absurd (omega arith)
most-bound n (suc k) c m r h g s l =
    let wider : r * m ≤ m * m = mul-le-mul_right {m = r} {n = m} m g in
    let up : most_pairs n c ≤ most_pairs n (m * m) = most-more n c (m * m) (omega arith) in
    let far : most_pairs n (m * m) ≤ most_pairs (n + (k - n)) (m * m) = most-unbound_more (k - n) n (m * m) in
    let there : most_pairs (n + (k - n)) (m * m) ≡ most_pairs k (m * m) = ap (λ (j : ℕ). most_pairs j (m * m)) (omega arith) in
    omega arith
