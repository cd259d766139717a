-- The trees of calls and conjunctions, over the vector that holds their parts.
use Rattle.std.proofs.Common.{◌≡◌, ℕ, List, [], ◌∷◌, length, refl, ap, ◌∙◌, suc}
use Rattle.std.specs.Prelude.{Vec}
use Rattle.std.specs.declared.alloc.Global.{Global}
use Rattle.pi_syntax.specs.ExpTree.{call, and, exp, exp_tree, exp_trees}
use Rattle.pi_syntax.specs.ExpLists.{exps_of}
use Rattle.pi_syntax.specs.Signature.{exp_count}
use Rattle.pi_syntax.specs.declared.exp.Exp as e
use Rattle.pi_syntax.specs.declared.exp.Exp.{Exp}

row-trees : (n : _) (row : e.Row_of-Exp n) → exp_trees row ≡ exps_of (e.items-the_row-Exp n row)
unfolding exp_tree exp_trees
row-trees n e.end_of-Exp = refl
row-trees n (e.more_of-Exp x xs) = ap (exp (exp_tree x)) (row-trees _ xs)

abbrev row_in : Exp → (n : _) × e.Row_of-Exp n
row_in (e.Call' name _ row) = (_, row)
row_in (e.And' _ row) = (_, row)
row_in _ = (_, e.end_of-Exp)

row_of-call : (name : List ℕ) (es : Vec Exp Global) → exp_trees (row_in (e.Call name es)).1 ≡ exps_of es.items
row_of-call name es = let row = row_in (e.Call name es) in row-trees row.0 row.1 ∙ ap exps_of (e.items_hidden-the_row-Exp-0 es)

row_of-and : (es : Vec Exp Global) → exp_trees (row_in (e.And es)).1 ≡ exps_of es.items
row_of-and es = let row = row_in (e.And es) in row-trees row.0 row.1 ∙ ap exps_of (e.items_hidden-the_row-Exp-0 es)

pub call-tree : (name : List ℕ) (es : Vec Exp Global) → exp_tree (e.Call name es) ≡ call name (exps_of es.items)
unfolding exp_tree
call-tree name es = ap (call name) (row_of-call name es)

pub and-tree : (es : Vec Exp Global) → exp_tree (e.And es) ≡ and (exps_of es.items)
unfolding exp_tree
and-tree es = ap and (row_of-and es)

pub exp_count-exps_of : (es : List Exp) → exp_count (exps_of es) ≡ length es
unfolding exp_count
exp_count-exps_of [] = refl
exp_count-exps_of (x ∷ es) = ap suc (exp_count-exps_of es)
