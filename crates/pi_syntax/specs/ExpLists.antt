-- The trees of expressions that stand in a list.
use Rattle.std.specs.Prelude.{List, [], ◌∷◌}
use Rattle.pi_syntax.specs.declared.exp.Exp.{Exp}
use Rattle.pi_syntax.specs.ExpTree.{ExpTrees, no_exps, exp, exp_tree}

abbrev pub exps_of : List Exp → ExpTrees
exps_of [] = no_exps
exps_of (e ∷ es) = exp (exp_tree e) (exps_of es)
