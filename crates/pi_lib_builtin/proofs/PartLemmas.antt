-- What a store shows of a term, as a list and as an array.
use Rattle.std.proofs.Common.{◌≡◌, ℕ, Bool, true, false, cond, List, [], ◌∷◌, refl, sym, ap, ◌∙◌, subst, arith, true≢false}
use Rattle.std.specs.Prelude.{◌==◌, ◌&&◌, Some, None}
use Rattle.std.specs.Str.{bytes_eq}
use Rattle.std.proofs.lemmas.Bool.{eqb-true}
use Rattle.std.proofs.lemmas.Slice.Eq.{bytes_eq-Decides}
use Rattle.pi_terms.specs.Tree.{Tree, int, comp, Trees, no_trees, tree, tree_count, args}
use Rattle.pi_terms.specs.ListNames.{nil, cell_name}
use Rattle.pi_constraints.specs.Store.{StoreView, IsName, ShowsCell}
use Rattle.pi_constraints.specs.declared.store.Cell.{Cell}
use Rattle.pi_syntax.specs.PrintTerm.{array_name}
use Rattle.pi_effects.specs.Items.{each_tree, is_nil, cell_parts, array_parts, structure_parts}
use Rattle.pi_lib_builtin.specs.Items.{ShowsPart, ShowsSize}
use Rattle.pi_lib_builtin.specs.declared.parts.Part.{Part}

-- what a test of a name answers
abbrev Tests : {M : Type 0} → StoreView M → ℕ → Bool → (List ℕ → Bool) → Type 0
Tests v k b test = (f : List ℕ) → IsName v k f → b ≡ test f

-- ---- lists

both-hold : (a b : Bool) → (a && b) ≡ true → (a ≡ true) × (b ≡ true)
both-hold true true h = (refl, refl)
both-hold true false h = absurd (true≢false (sym h))
both-hold false b h = absurd (true≢false (sym h))

two-arguments : (ts : Trees) → tree_count ts ≡ 2 → (x : Tree) × (y : Tree) × (ts ≡ tree x (tree y no_trees))
unfolding tree_count
two-arguments no_trees h = absurd (omega arith)
two-arguments (tree x no_trees) h = absurd (omega arith)
two-arguments (tree x (tree y no_trees)) h = (x, y, refl)
two-arguments (tree x (tree y (tree z zs))) h = absurd (omega arith)

abbrev is_cell_name : ℕ → List ℕ → Bool
is_cell_name count f = bytes_eq f cell_name && (count == 2)

pub cell-part : {M : Type 0} (v : StoreView M) (u : Tree) (k count : ℕ) (b : Bool) → ShowsCell v u (Cell.Comp k count) → Tests v k b (is_cell_name count) → b ≡ true → ShowsPart u Part.Cell
cell-part v u k count b (name, is, e, many) test h =
    let both : (bytes_eq name cell_name ≡ true) × ((count == 2) ≡ true) = both-hold (bytes_eq name cell_name) (count == 2) (sym (test name is) ∙ h) in
    let named : name ≡ cell_name = (bytes_eq-Decides name cell_name).0 both.0 in
    let size : count ≡ 2 = eqb-true count 2 both.1 in
    let two : (x : Tree) × (y : Tree) × (args u ≡ tree x (tree y no_trees)) = two-arguments (args u) (sym many ∙ size) in
    (two.0, two.1, e ∙ (ap (λ f. comp f (args u)) named ∙ ap (comp cell_name) two.2))

not-name : (a : Bool) (count : ℕ) → count ≡ 2 → (a && (count == 2)) ≡ false → a ≡ false
not-name true count e h = absurd (true≢false (sym (ap (λ n. n == 2) e) ∙ h))
not-name false count e h = refl

no-cell : (name : List ℕ) (ts : Trees) (count : ℕ) → count ≡ tree_count ts → is_cell_name count name ≡ false → cell_parts (comp name ts) ≡ None
unfolding tree_count
no-cell name no_trees count e h = refl
no-cell name (tree x no_trees) count e h = refl
no-cell name (tree x (tree y no_trees)) count e h = ap (λ b. cond b (Some (x, y)) None) (not-name (bytes_eq name cell_name) count e h)
no-cell name (tree x (tree y (tree z zs))) count e h = refl

pub compound-part : {M : Type 0} (v : StoreView M) (u : Tree) (k count : ℕ) (b : Bool) → ShowsCell v u (Cell.Comp k count) → Tests v k b (is_cell_name count) → b ≡ false → ShowsPart u Part.Other
compound-part v u k count b (name, is, e, many) test h =
    (ap is_nil e, ap cell_parts e ∙ no-cell name (args u) count many (sym (test name is) ∙ h))

-- ---- arrays and other compounds

pub array-size : {M : Type 0} (v : StoreView M) (u : Tree) (k count : ℕ) (b : Bool) → ShowsCell v u (Cell.Comp k count) → Tests v k b (λ f. bytes_eq f array_name) → b ≡ true → ShowsSize array_parts u (Some count)
array-size v u k count b (name, is, e, many) test h =
    (ap array_parts e ∙ ap (λ c. cond c (Some (each_tree (args u))) None) (sym (test name is) ∙ h), many)

pub no-array : {M : Type 0} (v : StoreView M) (u : Tree) (k count : ℕ) (b : Bool) → ShowsCell v u (Cell.Comp k count) → Tests v k b (λ f. bytes_eq f array_name) → b ≡ false → ShowsSize array_parts u None
no-array v u k count b (name, is, e, many) test h = ap array_parts e ∙ ap (λ c. cond c (Some (each_tree (args u))) None) (sym (test name is) ∙ h)

pub no-structure : {M : Type 0} (v : StoreView M) (u : Tree) (k count : ℕ) (b : Bool) → ShowsCell v u (Cell.Comp k count) → Tests v k b (is_cell_name count) → b ≡ true → ShowsSize structure_parts u None
no-structure v u k count b shows test h = let cell : ShowsPart u Part.Cell = cell-part v u k count b shows test h in ap structure_parts cell.2

structure-is : (name : List ℕ) (ts : Trees) (count : ℕ) → count ≡ tree_count ts → is_cell_name count name ≡ false → structure_parts (comp name ts) ≡ Some (each_tree ts)
unfolding tree_count each_tree
structure-is name no_trees count e h = refl
structure-is name (tree x no_trees) count e h = refl
structure-is name (tree x (tree y no_trees)) count e h = ap (λ b. cond b None (Some (x ∷ y ∷ []))) (not-name (bytes_eq name cell_name) count e h)
structure-is name (tree x (tree y (tree z zs))) count e h = refl

pub structure-size : {M : Type 0} (v : StoreView M) (u : Tree) (k count : ℕ) (b : Bool) → ShowsCell v u (Cell.Comp k count) → Tests v k b (is_cell_name count) → b ≡ false → ShowsSize structure_parts u (Some count)
structure-size v u k count b (name, is, e, many) test h =
    (ap structure_parts e ∙ structure-is name (args u) count many (sym (test name is) ∙ h), many)
