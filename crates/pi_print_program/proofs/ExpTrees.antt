-- The trees of expressions, over the vectors and boxes that hold their parts.
use Rattle.std.proofs.Common.{◌≡◌, ℕ, Bool, List, None, Some, refl, ap, ◌∙◌}
use Rattle.std.specs.Prelude.{Vec, Option}
use Rattle.std.specs.declared.alloc.Global.{Global}
use Rattle.std.specs.declared.boxed.Box.{Box}
use Rattle.pi_syntax.specs.ExpTree.{ExpTree, branch, exp, exp_tree, exp_trees, branch_trees, held_tree}
use Rattle.pi_syntax.specs.ExpLists.{exps_of}
use Rattle.pi_print_program.specs.Branches.{branches_in}
use Rattle.pi_syntax.specs.declared.exp.Exp as e
use Rattle.pi_syntax.specs.declared.exp.Exp.{Exp}

row-trees : (n : _) (row : e.Row_of-Exp n) → exp_trees row ≡ exps_of (e.items-the_row-Exp n row)
unfolding exp_tree exp_trees
row-trees n e.end_of-Exp = refl
row-trees n (e.more_of-Exp x xs) = ap (exp (exp_tree x)) (row-trees _ xs)

abbrev row_in : Exp → (n : _) × e.Row_of-Exp n
row_in (e.Array' _ row) = (_, row)
row_in _ = (_, e.end_of-Exp)

row_of : (es : Vec Exp Global) → exp_trees (row_in (e.Array es)).1 ≡ exps_of es.items
row_of es = let row = row_in (e.Array es) in row-trees row.0 row.1 ∙ ap exps_of (e.items_hidden-the_row-Exp-0 es)

branch_row-trees : (n : _) (row : e.Row_of-Exp-If-0-2 n) → branch_trees row ≡ branches_in (e.items-the_row-Exp-If-0-2 n row)
unfolding exp_tree branch_trees
branch_row-trees n e.end_of-Exp-If-0-2 = refl
branch_row-trees n (e.more_of-Exp-If-0-2 c b bs) = ap (branch (exp_tree c) (exp_tree b)) (branch_row-trees _ bs)

abbrev branch_row_in : Exp → (n : _) × e.Row_of-Exp-If-0-2 n
branch_row_in (e.If' _ row last) = (_, row)
branch_row_in _ = (_, e.end_of-Exp-If-0-2)

row_of-branches : (bs : Vec (Exp × Exp) Global) → branch_trees (branch_row_in (e.If bs None)).1 ≡ branches_in bs.items
row_of-branches bs =
    let row = branch_row_in (e.If bs None) in
    branch_row-trees row.0 row.1 ∙ ap branches_in (e.items_hidden-the_row-Exp-If-0-2-1 bs)

pub list-is : (x : Exp) (es : Vec Exp Global) (tail : Option (Box Exp Global)) → x ≡ e.List es tail → tail ≡ None → exp_tree x ≡ ExpTree.list (exps_of es.items)
unfolding exp_tree held_tree
list-is x es tail p q = ap exp_tree p ∙ (ap (λ t. exp_tree (e.List es t)) q ∙ ap ExpTree.list (row_of es))

pub list_onto-is : (x : Exp) (es : Vec Exp Global) (tail : Option (Box Exp Global)) (b : Box Exp Global) → x ≡ e.List es tail → tail ≡ Some b → exp_tree x ≡ ExpTree.list_onto (exps_of es.items) (exp_tree b.value)
unfolding exp_tree held_tree
list_onto-is x es tail b p q = ap exp_tree p ∙ (ap (λ t. exp_tree (e.List es t)) q ∙ ap (λ ts. ExpTree.list_onto ts (exp_tree b.value)) (row_of es))

pub array-is : (x : Exp) (es : Vec Exp Global) → x ≡ e.Array es → exp_tree x ≡ ExpTree.array (exps_of es.items)
unfolding exp_tree
array-is x es p = ap exp_tree p ∙ ap ExpTree.array (row_of es)

pub call-is : (x : Exp) (name : List ℕ) (es : Vec Exp Global) → x ≡ e.Call name es → exp_tree x ≡ ExpTree.call name (exps_of es.items)
unfolding exp_tree
call-is x name es p = ap exp_tree p ∙ ap (ExpTree.call name) (row_of es)

pub index-is : (x : Exp) (of : Box Exp Global) (es : Vec Exp Global) → x ≡ e.Index of es → exp_tree x ≡ ExpTree.index (exp_tree of.value) (exps_of es.items)
unfolding exp_tree
index-is x of es p = ap exp_tree p ∙ ap (ExpTree.index (exp_tree of.value)) (row_of es)

pub range-is : (x : Exp) (first : Box Exp Global) (step : Option (Box Exp Global)) (last : Box Exp Global) → x ≡ e.Range first step last → step ≡ None → exp_tree x ≡ ExpTree.range (exp_tree first.value) (exp_tree last.value)
unfolding exp_tree held_tree
range-is x first step last p q = ap exp_tree p ∙ ap (λ s. exp_tree (e.Range first s last)) q

pub range_by-is : (x : Exp) (first : Box Exp Global) (step : Option (Box Exp Global)) (last b : Box Exp Global) → x ≡ e.Range first step last → step ≡ Some b → exp_tree x ≡ ExpTree.range_by (exp_tree first.value) (exp_tree b.value) (exp_tree last.value)
unfolding exp_tree held_tree
range_by-is x first step last b p q = ap exp_tree p ∙ ap (λ s. exp_tree (e.Range first s last)) q

pub and-is : (x : Exp) (es : Vec Exp Global) → x ≡ e.And es → exp_tree x ≡ ExpTree.and (exps_of es.items)
unfolding exp_tree
and-is x es p = ap exp_tree p ∙ ap ExpTree.and (row_of es)

pub or-is : (x : Exp) (es : Vec Exp Global) → x ≡ e.Or es → exp_tree x ≡ ExpTree.or (exps_of es.items)
unfolding exp_tree
or-is x es p = ap exp_tree p ∙ ap ExpTree.or (row_of es)

pub if_then-is : (x : Exp) (bs : Vec (Exp × Exp) Global) (last : Option (Box Exp Global)) → x ≡ e.If bs last → last ≡ None → exp_tree x ≡ ExpTree.if_then (branches_in bs.items)
unfolding exp_tree held_tree
if_then-is x bs last p q = ap exp_tree p ∙ (ap (λ t. exp_tree (e.If bs t)) q ∙ ap ExpTree.if_then (row_of-branches bs))

pub if_else-is : (x : Exp) (bs : Vec (Exp × Exp) Global) (last : Option (Box Exp Global)) (b : Box Exp Global) → x ≡ e.If bs last → last ≡ Some b → exp_tree x ≡ ExpTree.if_else (branches_in bs.items) (exp_tree b.value)
unfolding exp_tree held_tree
if_else-is x bs last b p q = ap exp_tree p ∙ (ap (λ t. exp_tree (e.If bs t)) q ∙ ap (λ ts. ExpTree.if_else ts (exp_tree b.value)) (row_of-branches bs))

pub quote-is : (x : Exp) (b : Box Exp Global) → x ≡ e.Quote b → exp_tree x ≡ ExpTree.quote (exp_tree b.value)
unfolding exp_tree
quote-is x b p = ap exp_tree p

pub at-is : (x : Exp) (name : List ℕ) (b : Box Exp Global) → x ≡ e.At name b → exp_tree x ≡ ExpTree.at name (exp_tree b.value)
unfolding exp_tree
at-is x name b p = ap exp_tree p

pub collect-is : (x : Exp) (is_array : Bool) (b : Box Exp Global) (es : Vec Exp Global) → x ≡ e.Collect is_array b es → exp_tree x ≡ ExpTree.collect is_array (exp_tree b.value) (exps_of es.items)
unfolding exp_tree
collect-is x is_array b es p = ap exp_tree p ∙ ap (ExpTree.collect is_array (exp_tree b.value)) (row_of es)

pub arrow-is : (x : Exp) (c b : Box Exp Global) → x ≡ e.Arrow c b → exp_tree x ≡ ExpTree.arrow (exp_tree c.value) (exp_tree b.value)
unfolding exp_tree
arrow-is x c b p = ap exp_tree p

pub foreach-is : (x : Exp) (es : Vec Exp Global) (b : Box Exp Global) → x ≡ e.Foreach es b → exp_tree x ≡ ExpTree.foreach (exps_of es.items) (exp_tree b.value)
unfolding exp_tree
foreach-is x es b p = ap exp_tree p ∙ ap (λ ts. ExpTree.foreach ts (exp_tree b.value)) (row_of es)

pub while-is : (x : Exp) (c b : Box Exp Global) → x ≡ e.While c b → exp_tree x ≡ ExpTree.while_do (exp_tree c.value) (exp_tree b.value)
unfolding exp_tree
while-is x c b p = ap exp_tree p

pub do_while-is : (x : Exp) (b c : Box Exp Global) → x ≡ e.DoWhile b c → exp_tree x ≡ ExpTree.do_while (exp_tree b.value) (exp_tree c.value)
unfolding exp_tree
do_while-is x b c p = ap exp_tree p
