-- Expressions in which no index stands behind `@`, as in no program without a fault: `V@P` stands in patterns alone, which have no index.
use Rattle.std.specs.Prelude.{◌≡◌, Bool, true, false}
use Rattle.pi_syntax.specs.ExpTree.{ExpTree, var, int, atom, str, list, list_onto, array, call, quote, index, range, range_by, at, collect, and, or, arrow, if_then, if_else, foreach, while_do, do_while, ExpTrees, no_exps, exp, ExpBranches, no_branches, branch}

abbrev pub is_index : ExpTree → Bool
is_index (index e es) = true
is_index e = false

unfoldable mutual
  pub Fine : ExpTree → Type 0
  Fine (var name) = Unit {0}
  Fine (int n) = Unit {0}
  Fine (atom name) = Unit {0}
  Fine (str text) = Unit {0}
  Fine (list es) = AllFine es
  Fine (list_onto es e) = AllFine es × Fine e
  Fine (array es) = AllFine es
  Fine (call name es) = AllFine es
  Fine (quote e) = Fine e
  Fine (index e es) = Fine e × AllFine es
  Fine (range first last) = Fine first × Fine last
  Fine (range_by first step last) = Fine first × (Fine step × Fine last)
  Fine (at name e) = (is_index e ≡ false) × Fine e
  Fine (collect is_array e es) = Fine e × AllFine es
  Fine (and es) = AllFine es
  Fine (or es) = AllFine es
  Fine (arrow c e) = Fine c × Fine e
  Fine (if_then bs) = BranchesFine bs
  Fine (if_else bs e) = BranchesFine bs × Fine e
  Fine (foreach es e) = AllFine es × Fine e
  Fine (while_do c e) = Fine c × Fine e
  Fine (do_while e c) = Fine e × Fine c

  pub AllFine : ExpTrees → Type 0
  AllFine no_exps = Unit {0}
  AllFine (exp e es) = Fine e × AllFine es

  pub BranchesFine : ExpBranches → Type 0
  BranchesFine no_branches = Unit {0}
  BranchesFine (branch c e bs) = Fine c × (Fine e × BranchesFine bs)
