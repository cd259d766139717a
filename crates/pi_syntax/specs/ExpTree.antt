-- Expressions as trees. An expression is what a program or a goal writes: a term, a call or a goal (A User's Guide to
-- Picat, 'Data Types, Operators, and Built-ins', and for loops and comprehensions 'Assignments and Loops' and 'List
-- Comprehensions'). The kinds of nodes, and how levels are counted, are own. A text is the list of its bytes in UTF-8.
use Rattle.std.specs.Prelude.{ℕ, suc, max, ℤ, Bool, List, Option, None, Some}
use Rattle.pi_syntax.specs.declared.exp.Exp.{Exp, Var, Int, Atom, Str, List', Array', Call', Quote', Index', Range', At', Collect', And', Or', Arrow', If', Foreach', While', DoWhile', Held-Exp-List-1, None', Some', Row_of-Exp, end_of-Exp, more_of-Exp, Row_of-Exp-If-0-2, end_of-Exp-If-0-2, more_of-Exp-If-0-2}

mutual
  pub data ExpTree : Type 0 where
    var : List ℕ → ExpTree
    int : ℤ → ExpTree
    atom : List ℕ → ExpTree
    str : List ℕ → ExpTree
    list : ExpTrees → ExpTree
    -- with what stands behind the bar
    list_onto : ExpTrees → ExpTree → ExpTree
    array : ExpTrees → ExpTree
    -- operators, `not` and `once` have their sign as name
    call : List ℕ → ExpTrees → ExpTree
    -- behind `$`
    quote : ExpTree → ExpTree
    index : ExpTree → ExpTrees → ExpTree
    -- first value and last value
    range : ExpTree → ExpTree → ExpTree
    -- first value, step and last value
    range_by : ExpTree → ExpTree → ExpTree → ExpTree
    -- `V@P`
    at : List ℕ → ExpTree → ExpTree
    -- a comprehension, of an array where the first part is true: its item, then its iterators and tests
    collect : Bool → ExpTree → ExpTrees → ExpTree
    and : ExpTrees → ExpTree
    or : ExpTrees → ExpTree
    arrow : ExpTree → ExpTree → ExpTree
    if_then : ExpBranches → ExpTree
    -- with the body of `else`
    if_else : ExpBranches → ExpTree → ExpTree
    foreach : ExpTrees → ExpTree → ExpTree
    -- test, then body
    while_do : ExpTree → ExpTree → ExpTree
    -- body, then test
    do_while : ExpTree → ExpTree → ExpTree

  -- expressions from the left
  pub data ExpTrees : Type 0 where
    no_exps : ExpTrees
    exp : ExpTree → ExpTrees → ExpTrees

  -- conditions with their bodies, in order
  pub data ExpBranches : Type 0 where
    no_branches : ExpBranches
    branch : ExpTree → ExpTree → ExpBranches → ExpBranches

abbrev pub one_exp : ExpTree → ExpTrees
one_exp e = exp e no_exps

-- a list with what stands behind the bar, where there is one
abbrev pub list_before : ExpTrees → Option ExpTree → ExpTree
list_before es None = list es
list_before es (Some e) = list_onto es e

-- a range with its step, where there is one
abbrev pub range_with : ExpTree → Option ExpTree → ExpTree → ExpTree
range_with first None last = range first last
range_with first (Some step) last = range_by first step last

-- a choice with the body of `else`, where there is one
abbrev pub if_with : ExpBranches → Option ExpTree → ExpTree
if_with bs None = if_then bs
if_with bs (Some e) = if_else bs e

-- How many levels a tree has. A level is a node on the way from the root; a list, an array, an `and` and an `or` are
-- one node however long.
unfoldable mutual
  pub levels : ExpTree → ℕ
  levels (var name) = 1
  levels (int n) = 1
  levels (atom name) = 1
  levels (str text) = 1
  levels (list es) = suc (levels_all es)
  levels (list_onto es e) = suc (max (levels_all es) (levels e))
  levels (array es) = suc (levels_all es)
  levels (call name es) = suc (levels_all es)
  levels (quote e) = suc (levels e)
  levels (index e es) = suc (max (levels e) (levels_all es))
  levels (range first last) = suc (max (levels first) (levels last))
  levels (range_by first step last) = suc (max (levels first) (max (levels step) (levels last)))
  levels (at name e) = suc (levels e)
  levels (collect is_array e es) = suc (max (levels e) (levels_all es))
  levels (and es) = suc (levels_all es)
  levels (or es) = suc (levels_all es)
  levels (arrow c e) = suc (max (levels c) (levels e))
  levels (if_then bs) = suc (levels_of_branches bs)
  levels (if_else bs e) = suc (max (levels_of_branches bs) (levels e))
  levels (foreach es e) = suc (max (levels_all es) (levels e))
  levels (while_do c e) = suc (max (levels c) (levels e))
  levels (do_while e c) = suc (max (levels e) (levels c))

  -- the most of these
  pub levels_all : ExpTrees → ℕ
  levels_all no_exps = 0
  levels_all (exp e es) = max (levels e) (levels_all es)

  pub levels_of_branches : ExpBranches → ℕ
  levels_of_branches no_branches = 0
  levels_of_branches (branch c e bs) = max (max (levels c) (levels e)) (levels_of_branches bs)

-- The tree that a value of the type is. (A `Row_of-Exp` is the list of a `Vec`, a `Held-Exp-List-1` is what an `Option`
-- holds; where they lie in memory counts for nothing.)
unfoldable mutual
  pub exp_tree : Exp → ExpTree
  exp_tree (Var name) = var name
  exp_tree (Int n) = int n
  exp_tree (Atom name) = atom name
  exp_tree (Str text) = str text
  exp_tree (List' place es tail) = list_before (exp_trees es) (held_tree tail)
  exp_tree (Array' place es) = array (exp_trees es)
  exp_tree (Call' name place es) = call name (exp_trees es)
  exp_tree (Quote' place e) = quote (exp_tree e)
  exp_tree (Index' place e places es) = index (exp_tree e) (exp_trees es)
  exp_tree (Range' place first step places last) = range_with (exp_tree first) (held_tree step) (exp_tree last)
  exp_tree (At' name place e) = at name (exp_tree e)
  exp_tree (Collect' is_array place e places es) = collect is_array (exp_tree e) (exp_trees es)
  exp_tree (And' place es) = and (exp_trees es)
  exp_tree (Or' place es) = or (exp_trees es)
  exp_tree (Arrow' place c places e) = arrow (exp_tree c) (exp_tree e)
  exp_tree (If' place bs last) = if_with (branch_trees bs) (held_tree last)
  exp_tree (Foreach' place es places e) = foreach (exp_trees es) (exp_tree e)
  exp_tree (While' place c places e) = while_do (exp_tree c) (exp_tree e)
  exp_tree (DoWhile' place e places c) = do_while (exp_tree e) (exp_tree c)

  pub exp_trees : {m : _} → Row_of-Exp m → ExpTrees
  exp_trees end_of-Exp = no_exps
  exp_trees (more_of-Exp e es) = exp (exp_tree e) (exp_trees es)

  pub branch_trees : {m : _} → Row_of-Exp-If-0-2 m → ExpBranches
  branch_trees end_of-Exp-If-0-2 = no_branches
  branch_trees (more_of-Exp-If-0-2 c e bs) = branch (exp_tree c) (exp_tree e) (branch_trees bs)

  pub held_tree : Held-Exp-List-1 → Option ExpTree
  held_tree None' = None
  held_tree (Some' place e) = Some (exp_tree e)
