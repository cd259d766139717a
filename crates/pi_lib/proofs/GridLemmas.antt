-- Rows of new variables, one after another.
use Rattle.std.proofs.Common.{◌≡◌, ℕ, zero, suc, ◌+◌, ◌*◌, ◌<◌, ◌≤◌, List, [], ◌∷◌, ◌++◌, refl, ap, sym, ◌∙◌, subst, arith, add-one, min}
use Rattle.std.specs.Prelude.{codes, Ok, Err}
use Rattle.pi_terms.specs.Tree.{Tree, Trees, no_trees, comp, trees_of}
use Rattle.pi_constraints.specs.State.{State, next}
use Rattle.pi_constraints.specs.Store.{StoreView, IsTerm, AreTerms, Stays, Gives as GivesTerm}
use Rattle.pi_constraints.specs.Evaluation.{with_new_variables}
use Rattle.pi_constraints.specs.declared.store.Ref.{Ref}
use Rattle.pi_unify.specs.Copying.{with_variables, Makes}
use Rattle.pi_effects.specs.Items.{array_of}
use Rattle.pi_effects.specs.Ranges.{most_items}
use Rattle.pi_effects.specs.Effect.{FunctionEffect, Gives}
use Rattle.pi_effects.specs.Making.{new_from, new_rows, new_grid, size_then, so_many}
use Rattle.pi_unify.proofs.KeepsLemmas.{makes_none, stays_then}
use Rattle.pi_effects.specs.declared.fault.Fault.{Fault}
use Rattle.pi_effects.specs.declared.fault.Stop.{Stop}
use Rattle.pi_effects.specs.Results.{Stops, ShowsEffect}
use Rattle.pi_lib.proofs.SizeLemmas.{size_in, size_is, size_stops, few_are, many_stop, effect_is, gives_so}
use Rattle.pi_lib.proofs.StoreLemmas.{next-with, makes_then, are_more}

rows_more : (k n first : ℕ) → new_rows (suc k) n first ≡ new_rows k n first ++ array_of (new_from (first + k * n) n) ∷ []
unfolding new_rows
rows_more zero n first = let e : first ≡ first + 0 * n = omega arith in ap (λ a. array_of (new_from a n) ∷ []) e
rows_more (suc k) n first =
    let e : (first + n) + k * n ≡ first + suc k * n = omega arith in
    ap (λ rows. array_of (new_from first n) ∷ rows) (rows_more k n (first + n) ∙ ap (λ a. new_rows k n (first + n) ++ array_of (new_from a n) ∷ []) e)

pub one_row : {M : Type 0} (v w x : StoreView M) (rs new : List Ref) (k n : ℕ) (r : Ref) → Makes v w (k * n) → AreTerms w rs (trees_of (new_rows k n (next v.now.state))) → GivesTerm w x (with_variables n w.now.state) r (array_of (new_from (next w.now.state) n)) → new ≡ rs ++ r ∷ [] → AreTerms x new (trees_of (new_rows (k + 1) n (next v.now.state)))
one_row v w x rs new k n r makes are gives e =
    let first : ℕ = next v.now.state in
    let here : next w.now.state ≡ first + k * n = ap next makes.state ∙ next-with (k * n) v.now.state in
    let more : new_rows (k + 1) n first ≡ new_rows k n first ++ array_of (new_from (next w.now.state) n) ∷ [] =
    ap (λ j. new_rows j n first) (add-one k) ∙ (rows_more k n first ∙ ap (λ a. new_rows k n first ++ array_of (new_from a n) ∷ []) (sym here)) in
    subst (λ (qs : List Ref). AreTerms x qs (trees_of (new_rows (k + 1) n first))) (sym e)
    (subst (λ (ts : List Tree). AreTerms x (rs ++ r ∷ []) (trees_of ts)) (sym more)
    (are_more w x rs (new_rows k n first) r (array_of (new_from (next w.now.state) n)) gives.changes.keeps are gives.term))

pub makes_row : {M : Type 0} (v w x : StoreView M) (k n : ℕ) → Makes v w (k * n) → Makes w x n → Makes v x ((k + 1) * n)
makes_row v w x k n makes more = let e : k * n + n ≡ (k + 1) * n = omega arith in subst (λ (j : ℕ). Makes v x j) e (makes_then v w x (k * n) n makes more)

pub rows_begin : {M : Type 0} (v : StoreView M) (n : ℕ) (rs : List Ref) → rs ≡ [] → Makes v v (0 * n) × AreTerms v rs (trees_of (new_rows 0 n (next v.now.state)))
unfolding new_rows AreTerms
rows_begin v n rs e =
    let none : 0 ≡ 0 * n = omega arith in
    (subst (λ (j : ℕ). Makes v v j) none (makes_none v), subst (λ (qs : List Ref). AreTerms v qs no_trees) (sym e) tt)

pub grid_put : {M : Type 0} (v w y : StoreView M) (rs args : List Ref) (k rows n : ℕ) (grid : Ref) → k ≡ rows → args ≡ rs → Makes v w (k * n) → AreTerms w rs (trees_of (new_rows k n (next v.now.state))) → Stays w y → ((ts : Trees) → AreTerms w args ts → IsTerm y grid (comp (codes "{}") ts)) → GivesTerm v y (with_variables (rows * n) v.now.state) grid (array_of (new_rows rows n (next v.now.state)))
grid_put v w y rs args k rows n grid e same makes are stays puts =
    let P : ℕ → Type 0 = λ j. GivesTerm v y (with_variables (j * n) v.now.state) grid (array_of (new_rows j n (next v.now.state))) in
    subst P e (record {
      changes = stays_then v w y (with_variables (k * n) v.now.state) makes stays;
      term = puts (trees_of (new_rows k n (next v.now.state))) (subst (λ (qs : List Ref). AreTerms w qs (trees_of (new_rows k n (next v.now.state)))) (sym same) are);
    })

-- ---- columns, where there may be no row

pub record Narrowed (m n c first : ℕ) : Type 0 where
  pub rows : new_rows m c first ≡ new_rows m n first
  pub many : m * c ≡ m * n

pub narrowed : (m n c first : ℕ) → n * m ≤ most_items → c ≡ min n most_items → Narrowed m n c first
unfolding new_rows
narrowed zero n c first few e = record { rows = refl; many = omega arith }
narrowed (suc m) n c first few e =
    let same : c ≡ n = omega arith in
    record { rows = ap (λ k. new_rows (suc m) k first) same; many = ap (λ k. suc m * k) same }

-- ---- the effect of a grid

-- both sizes are found, and there are no more rows than may be
pub record Sizes {M : Type 0} (v : StoreView M) (t u : Tree) (rows n : ℕ) : Type 0 where
  pub first : size_in v t ≡ Ok rows
  pub few : rows ≤ most_items
  pub second : size_in v u ≡ Ok n

abbrev grid_of : State → ℕ → ℕ → FunctionEffect
grid_of s m n = Gives (array_of (new_rows m n (next s))) (with_new_variables (m * n) s)

grid_is : {M : Type 0} (v : StoreView M) (t u : Tree) (rows n : ℕ) → Sizes v t u rows n → new_grid v.now.state t u ≡ so_many (rows * n) (grid_of v.now.state rows n)
grid_is v t u rows n sizes =
    let s : State = v.now.state in
    let inner : ℕ → FunctionEffect = λ m. size_then s u (λ k. so_many (m * k) (grid_of s m k)) in
    size_is v t (λ m. so_many m (inner m)) rows sizes.first ∙ (few_are rows (inner rows) sizes.few ∙ size_is v u (λ k. so_many (rows * k) (grid_of s rows k)) n sizes.second)

pub grid_rows_stop : {M : Type 0} (v : StoreView M) (t u : Tree) (m : ℕ) (stop : Stop) → size_in v t ≡ Ok m → stop ≡ Stop.Raised Fault.RangeTooLong → most_items < m → ShowsEffect v v (Err stop) (new_grid v.now.state t u)
grid_rows_stop v t u m stop size is many =
    let s : State = v.now.state in
    let inner : ℕ → FunctionEffect = λ j. size_then s u (λ k. so_many (j * k) (grid_of s j k)) in
    effect_is v v (Err stop) (new_grid s t u) (so_many m (inner m)) (size_is v t (λ j. so_many j (inner j)) m size) (many_stop v stop m (inner m) is many)

pub grid_columns_stop : {M : Type 0} (v : StoreView M) (t u : Tree) (rows : ℕ) (stop : Stop) → size_in v t ≡ Ok rows → rows ≤ most_items → Stops v stop (size_in v u) → ShowsEffect v v (Err stop) (new_grid v.now.state t u)
grid_columns_stop v t u rows stop size few stops =
    let s : State = v.now.state in
    let inner : ℕ → FunctionEffect = λ j. size_then s u (λ k. so_many (j * k) (grid_of s j k)) in
    effect_is v v (Err stop) (new_grid s t u) (inner rows) (size_is v t (λ j. so_many j (inner j)) rows size ∙ few_are rows (inner rows) few)
    (size_stops v stop u (λ k. so_many (rows * k) (grid_of s rows k)) stops)

pub grid_stops : {M : Type 0} (v : StoreView M) (t u : Tree) (rows n sat : ℕ) (stop : Stop) → Sizes v t u rows n → stop ≡ Stop.Raised Fault.RangeTooLong → sat ≤ n * rows → most_items < sat → ShowsEffect v v (Err stop) (new_grid v.now.state t u)
grid_stops v t u rows n sat stop sizes is less many =
    let past : most_items < rows * n = omega arith in
    effect_is v v (Err stop) (new_grid v.now.state t u) (so_many (rows * n) (grid_of v.now.state rows n)) (grid_is v t u rows n sizes) (many_stop v stop (rows * n) (grid_of v.now.state rows n) is past)

pub grid_given : {M : Type 0} (v w : StoreView M) (t u : Tree) (rows n c : ℕ) (made : Ref) → Sizes v t u rows n → n * rows ≤ most_items → c ≡ min n most_items → GivesTerm v w (with_variables (rows * c) v.now.state) made (array_of (new_rows rows c (next v.now.state))) → ShowsEffect v w (Ok made) (new_grid v.now.state t u)
grid_given v w t u rows n c made sizes few e gives =
    let s : State = v.now.state in
    let same : Narrowed rows n c (next s) = narrowed rows n c (next s) few e in
    let within : rows * n ≤ most_items = omega arith in
    let is : new_grid s t u ≡ grid_of s rows n = grid_is v t u rows n sizes ∙ few_are (rows * n) (grid_of s rows n) within in
    gives_so v w (rows * n) made (array_of (new_rows rows n (next s))) (new_grid s t u) is
    (subst (λ (k : ℕ). GivesTerm v w (with_variables k s) made (array_of (new_rows rows n (next s)))) same.many
    (subst (λ (ts : List Tree). GivesTerm v w (with_variables (rows * c) s) made (array_of ts)) same.rows gives))
