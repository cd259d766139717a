-- Which terms come to the same whenever they are evaluated: those of which each variable is a slot that holds something. (Own.)
use Rattle.std.specs.Prelude.{Bool, true, ◌&&◌, is_some}
use Rattle.pi_terms.specs.Tree.{Tree, var, int, atom, comp, Trees, no_trees, tree}
use Rattle.pi_terms.specs.Places.{Places, held}

unfoldable mutual
  pub is_filled : Places → Tree → Bool
  is_filled e (var k) = is_some (held e k)
  is_filled e (int n) = true
  is_filled e (atom name) = true
  is_filled e (comp name ts) = are_filled e ts

  pub are_filled : Places → Trees → Bool
  are_filled e no_trees = true
  are_filled e (tree t ts) = is_filled e t && are_filled e ts
