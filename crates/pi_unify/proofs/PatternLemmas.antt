-- The trees of patterns as the code reads them.
use Rattle.std.proofs.Common.{◌≡◌, ℕ, ℤ, suc, length, List, [], ◌∷◌, refl, ap, ◌∙◌}
use Rattle.std.specs.declared.vec.Vec.{Vec}
use Rattle.std.specs.declared.boxed.Box.{Box}
use Rattle.std.specs.declared.alloc.Global.{Global}
use Rattle.pi_terms.specs.PatternTree.{slot, exact_int, exact_atom, compound, named, pattern}
use Rattle.pi_core.specs.CoreTree.{pattern_tree, pattern_row, pattern_trees}
use Rattle.pi_unify.specs.Matching.{pattern_count}
use Rattle.pi_core.specs.declared.core_program.Pattern.{Pattern, Slot, Int, Atom, Comp, Named, Comp', Row_of-Pattern, end_of-Pattern, more_of-Pattern, items-the_row-Pattern, items_hidden-the_row-Pattern-0}

row_is : (n : _) (row : Row_of-Pattern n) → pattern_row row ≡ pattern_trees (items-the_row-Pattern n row)
unfolding pattern_tree pattern_trees
row_is n end_of-Pattern = refl
row_is n (more_of-Pattern p rest) = ap (λ ps. pattern (pattern_tree p) ps) (row_is _ rest)

row_of : Pattern → (n : _) × Row_of-Pattern n
row_of (Comp' name shape row) = (_, row)
row_of _ = (_, end_of-Pattern)

pub pattern_tree-comp : (name : List ℕ) (ps : Vec Pattern Global) → pattern_tree (Comp name ps) ≡ compound name (pattern_trees ps.items)
unfolding pattern_tree row_of
pattern_tree-comp name ps =
    let row = row_of (Comp name ps) in
    ap (compound name) (row_is row.0 row.1 ∙ ap pattern_trees (items_hidden-the_row-Pattern-0 ps))

pub pattern_tree-named : (k : ℕ) (inner : Box Pattern Global) → pattern_tree (Named k inner) ≡ named k (pattern_tree inner.value)
unfolding pattern_tree
pattern_tree-named k inner = refl

pub pattern_tree-slot : (k : ℕ) → pattern_tree (Slot k) ≡ slot k
unfolding pattern_tree
pattern_tree-slot k = refl

pub pattern_tree-int : (n : ℤ) → pattern_tree (Int n) ≡ exact_int n
unfolding pattern_tree
pattern_tree-int n = refl

pub pattern_tree-atom : (name : List ℕ) → pattern_tree (Atom name) ≡ exact_atom name
unfolding pattern_tree
pattern_tree-atom name = refl

pub count-trees : (ps : List Pattern) → pattern_count (pattern_trees ps) ≡ length ps
unfolding pattern_trees
count-trees [] = refl
count-trees (p ∷ ps) = ap suc (count-trees ps)
