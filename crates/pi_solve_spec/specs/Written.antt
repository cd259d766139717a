-- Programs over their names that aren't by rests: they nowhere call the function `current_resource` without arguments. What stands behind `$` is a term; patterns of iterators
-- count, so that an expression is looked through without asking where it stands. (Own.)
use Rattle.std.specs.Prelude.{◌≡◌, ℕ, false, List, [], ◌∷◌, Option, Some, None, codes, ⊤}
use Rattle.std.specs.Str.{bytes_eq}
use Rattle.pi_syntax.specs.ExpTree.{ExpTree, var, int, atom, str, list, list_onto, array, call, quote, index, range, range_by, at, collect, and, or, arrow, if_then, if_else, foreach, while_do, do_while, ExpTrees, no_exps, exp, ExpBranches, no_branches, branch}
use Rattle.pi_syntax.specs.ProgramTree.{WrittenClause, rule, function, fact, ProgramTree}

-- a call of this name with these arguments is another one
abbrev pub IsOtherCall : List ℕ → ExpTrees → Type 0
IsOtherCall name no_exps = bytes_eq name (codes "current_resource") ≡ false
IsOtherCall name (exp e es) = ⊤

-- an expression that doesn't call it
unfoldable mutual
  pub AsksNone : ExpTree → Type 0
  AsksNone (var name) = ⊤
  AsksNone (int n) = ⊤
  AsksNone (atom name) = ⊤
  AsksNone (str text) = ⊤
  AsksNone (list es) = AskNone es
  AsksNone (list_onto es e) = AskNone es × AsksNone e
  AsksNone (array es) = AskNone es
  AsksNone (call name es) = IsOtherCall name es × AskNone es
  AsksNone (quote e) = ⊤
  AsksNone (index e es) = AsksNone e × AskNone es
  AsksNone (range first last) = AsksNone first × AsksNone last
  AsksNone (range_by first step last) = AsksNone first × AsksNone step × AsksNone last
  AsksNone (at name e) = ⊤
  AsksNone (collect is_array e es) = AsksNone e × AskNone es
  AsksNone (and es) = AskNone es
  AsksNone (or es) = AskNone es
  AsksNone (arrow c e) = AsksNone c × AsksNone e
  AsksNone (if_then bs) = BranchesAskNone bs
  AsksNone (if_else bs e) = BranchesAskNone bs × AsksNone e
  AsksNone (foreach es e) = AskNone es × AsksNone e
  AsksNone (while_do c e) = AsksNone c × AsksNone e
  AsksNone (do_while e c) = AsksNone e × AsksNone c

  pub AskNone : ExpTrees → Type 0
  AskNone no_exps = ⊤
  AskNone (exp e es) = AsksNone e × AskNone es

  pub BranchesAskNone : ExpBranches → Type 0
  BranchesAskNone no_branches = ⊤
  BranchesAskNone (branch c e bs) = AsksNone c × AsksNone e × BranchesAskNone bs

abbrev pub MayAskNone : Option ExpTree → Type 0
MayAskNone None = ⊤
MayAskNone (Some e) = AsksNone e

-- a clause: its condition, its body and its value; a head has patterns, and a fact has terms
abbrev pub ClauseAsksNone : WrittenClause → Type 0
ClauseAsksNone (rule r) = MayAskNone r.cond × AsksNone r.body
ClauseAsksNone (function f) = MayAskNone f.cond × MayAskNone f.body × AsksNone f.value
ClauseAsksNone (fact head) = ⊤

abbrev pub PartAsksNone : Option WrittenClause → Type 0
PartAsksNone None = ⊤
PartAsksNone (Some c) = ClauseAsksNone c

-- a program that isn't by rests: no clause of it calls the function
unfoldable pub ProgramAsksNone : ProgramTree → Type 0
ProgramAsksNone [] = ⊤
ProgramAsksNone (p ∷ parts) = PartAsksNone p.clause × ProgramAsksNone parts
