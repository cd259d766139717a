-- The trees of expressions, over the vectors and boxes that hold their parts.
use Rattle.std.proofs.Common.{◌≡◌, ℕ, Bool, List, None, Some, refl, ap, ◌∙◌}
use Rattle.std.specs.Prelude.{Vec, Option}
use Rattle.std.specs.declared.alloc.Global.{Global}
use Rattle.std.specs.declared.boxed.Box.{Box}
use Rattle.pi_syntax.specs.ExpTree.{list_before, range_with, if_with, list, array, call, index, collect, and, or, foreach, exp, branch, exp_tree, exp_trees, branch_trees, held_tree}
use Rattle.pi_syntax.specs.ExpLists.{exps_of}
use Rattle.pi_syntax.specs.declared.exp.Exp as e
use Rattle.pi_syntax.specs.declared.exp.Exp.{Exp}
use Rattle.pi_prog_clauses.specs.Walk.{held_exp, branches_of}

row-trees : (n : _) (row : e.Row_of-Exp n) → exp_trees row ≡ exps_of (e.items-the_row-Exp n row)
unfolding exp_tree exp_trees
row-trees n e.end_of-Exp = refl
row-trees n (e.more_of-Exp x xs) = ap (exp (exp_tree x)) (row-trees _ xs)

abbrev row_in : Exp → (n : _) × e.Row_of-Exp n
row_in (e.Array' _ row) = (_, row)
row_in _ = (_, e.end_of-Exp)

row_of : (es : Vec Exp Global) → exp_trees (row_in (e.Array es)).1 ≡ exps_of es.items
row_of es = let row = row_in (e.Array es) in row-trees row.0 row.1 ∙ ap exps_of (e.items_hidden-the_row-Exp-0 es)

branch_row-trees : (n : _) (row : e.Row_of-Exp-If-0-2 n) → branch_trees row ≡ branches_of (e.items-the_row-Exp-If-0-2 n row)
unfolding exp_tree branch_trees
branch_row-trees n e.end_of-Exp-If-0-2 = refl
branch_row-trees n (e.more_of-Exp-If-0-2 c b bs) = ap (branch (exp_tree c) (exp_tree b)) (branch_row-trees _ bs)

abbrev branch_row_in : Exp → (n : _) × e.Row_of-Exp-If-0-2 n
branch_row_in (e.If' _ row last) = (_, row)
branch_row_in _ = (_, e.end_of-Exp-If-0-2)

row_of-branches : (bs : Vec (Exp × Exp) Global) → branch_trees (branch_row_in (e.If bs None)).1 ≡ branches_of bs.items
row_of-branches bs =
    let row = branch_row_in (e.If bs None) in
    branch_row-trees row.0 row.1 ∙ ap branches_of (e.items_hidden-the_row-Exp-If-0-2-1 bs)

pub list-tree : (es : Vec Exp Global) (tail : Option (Box Exp Global)) → exp_tree (e.List es tail) ≡ list_before (exps_of es.items) (held_exp tail)
unfolding exp_tree held_tree
list-tree es None = ap list (row_of es)
list-tree es (Some b) = ap (λ ts. list_before ts (Some (exp_tree b.value))) (row_of es)

pub array-tree : (es : Vec Exp Global) → exp_tree (e.Array es) ≡ array (exps_of es.items)
unfolding exp_tree
array-tree es = ap array (row_of es)

pub call-tree : (name : List ℕ) (es : Vec Exp Global) → exp_tree (e.Call name es) ≡ call name (exps_of es.items)
unfolding exp_tree
call-tree name es = ap (call name) (row_of es)

pub index-tree : (of : Box Exp Global) (es : Vec Exp Global) → exp_tree (e.Index of es) ≡ index (exp_tree of.value) (exps_of es.items)
unfolding exp_tree
index-tree of es = ap (index (exp_tree of.value)) (row_of es)

pub range-tree : (first : Box Exp Global) (step : Option (Box Exp Global)) (last : Box Exp Global)
    → exp_tree (e.Range first step last) ≡ range_with (exp_tree first.value) (held_exp step) (exp_tree last.value)
unfolding exp_tree held_tree
range-tree first None last = refl
range-tree first (Some b) last = refl

pub collect-tree : (is_array : Bool) (item : Box Exp Global) (es : Vec Exp Global)
    → exp_tree (e.Collect is_array item es) ≡ collect is_array (exp_tree item.value) (exps_of es.items)
unfolding exp_tree
collect-tree is_array item es = ap (collect is_array (exp_tree item.value)) (row_of es)

pub and-tree : (es : Vec Exp Global) → exp_tree (e.And es) ≡ and (exps_of es.items)
unfolding exp_tree
and-tree es = ap and (row_of es)

pub or-tree : (es : Vec Exp Global) → exp_tree (e.Or es) ≡ or (exps_of es.items)
unfolding exp_tree
or-tree es = ap or (row_of es)

pub if-tree : (bs : Vec (Exp × Exp) Global) (last : Option (Box Exp Global)) → exp_tree (e.If bs last) ≡ if_with (branches_of bs.items) (held_exp last)
unfolding exp_tree held_tree
if-tree bs None = ap (λ ts. if_with ts None) (row_of-branches bs)
if-tree bs (Some b) = ap (λ ts. if_with ts (Some (exp_tree b.value))) (row_of-branches bs)

pub foreach-tree : (es : Vec Exp Global) (body : Box Exp Global) → exp_tree (e.Foreach es body) ≡ foreach (exps_of es.items) (exp_tree body.value)
unfolding exp_tree
foreach-tree es body = ap (λ ts. foreach ts (exp_tree body.value)) (row_of es)
