-- What built trees, items and choices show. Where one is too deep, it shows each tree of more levels than the most.
use Rattle.std.specs.Prelude.{◌≡◌, ◌≤◌, ◌<◌, max, Bool, true, false, List, [], ◌∷◌}
use Rattle.pi_syntax.specs.declared.exp.Exp.{Exp}
use Rattle.pi_syntax.specs.ExpTree.{ExpTree, ExpTrees, no_exps, exp as exp_before, ExpBranches, no_branches, branch as branch_before, levels, levels_all, levels_of_branches, exp_tree}
use Rattle.pi_syntax.specs.Crowding.{most_levels}
use Rattle.pi_expr_phrases.specs.declared.built.Built.{Built}
use Rattle.pi_expr_phrases.specs.declared.built.Built.TheVariants as built
use Rattle.pi_expr_phrases.specs.declared.built.Pair.{Pair}
use Rattle.pi_expr_phrases.specs.declared.built.Pair.TheVariants as pair
use Rattle.pi_expr_phrases.specs.declared.built.WithItems.{WithItems}
use Rattle.pi_expr_phrases.specs.declared.built.WithItems.TheVariants as with_items
use Rattle.pi_expr_phrases.specs.declared.items.Items.{Items}
use Rattle.pi_expr_phrases.specs.declared.items.Items.TheVariants as items
use Rattle.pi_expr_phrases.specs.declared.choices.Choices.{Choices}
use Rattle.pi_expr_phrases.specs.declared.choices.Choices.TheVariants as choices

abbrev pub trees_of : List Exp → ExpTrees
trees_of [] = no_exps
trees_of (e ∷ es) = exp_before (exp_tree e) (trees_of es)

abbrev pub branches_of : List (Exp × Exp) → ExpBranches
branches_of [] = no_branches
branches_of (b ∷ bs) = branch_before (exp_tree b.0) (exp_tree b.1) (branches_of bs)

abbrev pub Shows : Built → ExpTree → Type 0
Shows (built.Tree exp n) e = (exp_tree exp ≡ e) × (levels e ≡ n) × (n ≤ most_levels)
Shows built.Deep e = most_levels < levels e

abbrev pub ShowsItems : Items → ExpTrees → Type 0
ShowsItems (items.Kept exps n) es = (trees_of exps.items ≡ es) × (levels_all es ≡ n) × (n ≤ most_levels)
ShowsItems items.Deep es = most_levels < levels_all es

abbrev pub ShowsChoices : Choices → ExpBranches → Type 0
ShowsChoices (choices.Kept branches n) bs = (branches_of branches.items ≡ bs) × (levels_of_branches bs ≡ n) × (n ≤ most_levels)
ShowsChoices choices.Deep bs = most_levels < levels_of_branches bs

abbrev pub is_none : ExpTrees → Bool
is_none no_exps = true
is_none (exp_before e es) = false

-- two trees and the most levels of one
abbrev pub ShowsPair : Pair → ExpTree → ExpTree → Type 0
ShowsPair (pair.Kept x y n) a b = (exp_tree x ≡ a) × (exp_tree y ≡ b) × (max (levels a) (levels b) ≡ n) × (n ≤ most_levels)
ShowsPair pair.Deep a b = most_levels < max (levels a) (levels b)

-- a tree and items, and the most levels of one
abbrev pub ShowsWithItems : WithItems → ExpTree → ExpTrees → Type 0
ShowsWithItems (with_items.Kept x xs n) a es =
    (exp_tree x ≡ a) × (trees_of xs.items ≡ es) × (max (levels a) (levels_all es) ≡ n) × (n ≤ most_levels)
ShowsWithItems with_items.Deep a es = most_levels < max (levels a) (levels_all es)
