-- A list cell by its name and its number of arguments.
use Rattle.std.proofs.Common.{◌≡◌, ℕ, suc, ◌==◌, Bool, true, false, List, ◌&&◌, refl, ap, ap₂, sym, ◌∙◌, arith}
use Rattle.std.specs.Prelude.{is_some, Some, None, cond}
use Rattle.std.specs.Str.{bytes_eq}
use Rattle.pi_terms.specs.Tree.{Tree, comp, Trees, no_trees, tree, tree_count, args}
use Rattle.pi_terms.specs.ListNames.{cell_name}
use Rattle.pi_constraints.specs.Store.{StoreView, IsName, ShowsCell}
use Rattle.pi_constraints.specs.declared.store.Cell.{Cell}
use Rattle.pi_effects.specs.Kinds.{is_cell}

some-cond : {A : Type 0} (q : Bool) (x : A) → q ≡ is_some (cond q (Some x) None)
some-cond true x = refl
some-cond false x = refl

none-left : (q : Bool) (k : ℕ) → ((suc (suc (suc k)) == 2) && q) ≡ false
none-left q k = grind arith

cell-by_name : (name : List ℕ) (ts : Trees) → ((tree_count ts == 2) && bytes_eq name cell_name) ≡ is_cell (comp name ts)
unfolding tree_count
cell-by_name name no_trees = refl
cell-by_name name (tree t no_trees) = refl
cell-by_name name (tree t (tree u no_trees)) = some-cond (bytes_eq name cell_name) (t, u)
cell-by_name name (tree t (tree u (tree w ts))) = none-left (bytes_eq name cell_name) (tree_count ts)

pub cell-shown : {M : Type 0} (v : StoreView M) (t : Tree) (k count : ℕ) (name : List ℕ) → ((n : List ℕ) → IsName v k n → name ≡ n) → ShowsCell v t (Cell.Comp k count) → ((count == 2) && bytes_eq name cell_name) ≡ is_cell t
cell-shown v t k count name named shows =
    ap₂ (λ m n. (m == 2) && bytes_eq n cell_name) shows.3 (named shows.0 shows.1) ∙ cell-by_name shows.0 (args t) ∙ ap is_cell (sym shows.2)
