-- The trees of conditions with their bodies that stand in a list.
use Rattle.std.specs.Prelude.{List, [], ◌∷◌}
use Rattle.pi_syntax.specs.ExpTree.{ExpBranches, no_branches, branch, exp_tree}
use Rattle.pi_syntax.specs.declared.exp.Exp.{Exp}

abbrev pub branches_in : List (Exp × Exp) → ExpBranches
branches_in [] = no_branches
branches_in (b ∷ bs) = branch (exp_tree b.0) (exp_tree b.1) (branches_in bs)
