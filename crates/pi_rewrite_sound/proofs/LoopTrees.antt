-- The trees of loops and comprehensions, over the vectors and boxes that hold their parts.
use Rattle.std.proofs.Common.{◌≡◌, Bool, refl, ap, ◌∙◌}
use Rattle.std.specs.Prelude.{Vec}
use Rattle.std.specs.declared.alloc.Global.{Global}
use Rattle.std.specs.declared.boxed.Box.{Box}
use Rattle.pi_syntax.specs.ExpTree.{ExpTree, ExpTrees, no_exps, exp_tree}
use Rattle.pi_syntax.specs.ExpLists.{exps_of}
use Rattle.pi_syntax.specs.declared.exp.Exp as e
use Rattle.pi_syntax.specs.declared.exp.Exp.{Exp}
use Rattle.pi_rewrite_slots.proofs.ExpTrees.{and-is}

-- A vector's trees are the same in each node.
abbrev conjuncts : ExpTree → ExpTrees
conjuncts (ExpTree.and es) = es
conjuncts e = no_exps

same-trees : (es : Vec Exp Global) → conjuncts (exp_tree (e.And es)) ≡ exps_of es.items
same-trees es = ap conjuncts (and-is (e.And es) es refl)

pub collect-is : (x : Exp) (is_array : Bool) (b : Box Exp Global) (es : Vec Exp Global) → x ≡ e.Collect is_array b es → exp_tree x ≡ ExpTree.collect is_array (exp_tree b.value) (exps_of es.items)
unfolding exp_tree
collect-is x is_array b es p = ap exp_tree p ∙ ap (ExpTree.collect is_array (exp_tree b.value)) (same-trees es)

pub foreach-is : (x : Exp) (es : Vec Exp Global) (b : Box Exp Global) → x ≡ e.Foreach es b → exp_tree x ≡ ExpTree.foreach (exps_of es.items) (exp_tree b.value)
unfolding exp_tree
foreach-is x es b p = ap exp_tree p ∙ ap (λ ts. ExpTree.foreach ts (exp_tree b.value)) (same-trees es)

pub while-is : (x : Exp) (c b : Box Exp Global) → x ≡ e.While c b → exp_tree x ≡ ExpTree.while_do (exp_tree c.value) (exp_tree b.value)
unfolding exp_tree
while-is x c b p = ap exp_tree p

pub do_while-is : (x : Exp) (b c : Box Exp Global) → x ≡ e.DoWhile b c → exp_tree x ≡ ExpTree.do_while (exp_tree b.value) (exp_tree c.value)
unfolding exp_tree
do_while-is x b c p = ap exp_tree p
