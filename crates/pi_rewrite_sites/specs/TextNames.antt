-- Names of a text, as code asks for them.
use Rattle.std.specs.Prelude.{Bool, true, false, filter, [], Option, Some, None}
use Rattle.std.specs.Borrow.{Bor}
use Rattle.pi_syntax.specs.ExpTree.{ExpTree, ExpTrees, no_exps, exp, ExpBranches, exp_tree}
use Rattle.pi_syntax.specs.declared.exp.Exp.{Exp}
use Rattle.pi_meaning.specs.OverNames.Texts.{Names, is_among, without, behind, places, places_all, places_of_branches, occurring, occurring_all, occurring_in_branches}

-- the names of a text, those in loops among them or not
unfoldable pub names_of : Bool → ExpTree → Names
names_of true e = occurring e
names_of false e = places e

unfoldable pub names_of_all : Bool → ExpTrees → Names
names_of_all true es = occurring_all es
names_of_all false es = places_all es

unfoldable pub names_of_branches : Bool → ExpBranches → Names
names_of_branches true bs = occurring_in_branches bs
names_of_branches false bs = places_of_branches bs

-- of these names those that are among some, or those that are not
abbrev pub those : Bool → Names → Names → Names
those true some names = filter (is_among some) names
those false some names = without names some

-- the names that a loop keeps, by those of its patterns and those that are assigned in it
abbrev pub kept_of : Names → Names → Names → Names
kept_of before patterns names = filter (is_among before) (behind [] (without names patterns))

-- the tree of an expression, where there is one
abbrev pub tree_in : Option (Bor Exp) → Option ExpTree
tree_in None = None
tree_in (Some e) = Some (exp_tree e.now)

-- the first of two expressions
abbrev pub first_in : ExpTrees → Option ExpTree
first_in (exp e (exp d no_exps)) = Some e
first_in es = None
