-- Where an expression stands in the text of its clause, and how many helpers its loops have. The helpers of a text are numbered in the order in which lowering comes to their ends, so those
-- of the loops in a loop come before its own. (Own.)
use Rattle.std.specs.Prelude.{ℕ, zero, suc, ◌+◌, Bool, true, false, cond, List, Option, Some, None}
use Rattle.pi_syntax.specs.ExpTree.{ExpTree, var, int, atom, str, list, list_onto, array, call, quote, index, range, range_by, at, collect, and, or, arrow, if_then, if_else, foreach, while_do, do_while, ExpTrees, no_exps, exp, ExpBranches, no_branches, branch}
use Rattle.pi_meaning.specs.OverNames.Texts.{Names, places, places_all, behind, iterated, begins_with_iterator}
use Rattle.pi_meaning.specs.OverNames.Forms.{Form, catch}

-- ---- how many helpers

-- one that takes the next element, and one that matches it
abbrev pub iterator_helpers : Option ExpTree → ℕ
iterator_helpers None = 0
iterator_helpers (Some e) = 2

-- a loop that begins with no iterator has one, for its one turn
abbrev pub start_helpers : ExpTrees → ℕ
start_helpers us = cond (begins_with_iterator us) 0 1

unfoldable mutual
  pub helpers_in : ExpTree → ℕ
  helpers_in (var name) = 0
  helpers_in (int n) = 0
  helpers_in (atom name) = 0
  helpers_in (str text) = 0
  helpers_in (list es) = helpers_in_all es
  helpers_in (list_onto es e) = helpers_in_all es + helpers_in e
  helpers_in (array es) = helpers_in_all es
  helpers_in (call name es) = helpers_in_all es
  helpers_in (quote e) = 0
  helpers_in (index e es) = helpers_in e + helpers_in_all es
  helpers_in (range first last) = helpers_in first + helpers_in last
  helpers_in (range_by first step last) = helpers_in first + (helpers_in step + helpers_in last)
  helpers_in (at name e) = 0
  helpers_in (collect is_array e es) = (helpers_in_units es + helpers_in e) + start_helpers es
  helpers_in (and es) = helpers_in_all es
  helpers_in (or es) = helpers_in_all es
  helpers_in (arrow c e) = helpers_in c + helpers_in e
  helpers_in (if_then bs) = helpers_in_branches bs
  helpers_in (if_else bs e) = helpers_in_branches bs + helpers_in e
  helpers_in (foreach es e) = (helpers_in_units es + helpers_in e) + start_helpers es
  helpers_in (while_do c e) = suc (helpers_in c + helpers_in e)
  helpers_in (do_while e c) = suc (helpers_in e + helpers_in c)

  pub helpers_in_all : ExpTrees → ℕ
  helpers_in_all no_exps = 0
  helpers_in_all (exp e es) = helpers_in e + helpers_in_all es

  pub helpers_in_branches : ExpBranches → ℕ
  helpers_in_branches no_branches = 0
  helpers_in_branches (branch c e bs) = helpers_in c + (helpers_in e + helpers_in_branches bs)

  -- iterators and tests
  pub helpers_in_units : ExpTrees → ℕ
  helpers_in_units no_exps = 0
  helpers_in_units (exp u us) = helpers_in u + (helpers_in_units us + iterator_helpers (iterated u))

-- ---- sites

pub record Site : Type 0 where
  -- how many slots the head of the clause fills
  pub filled : ℕ
  -- the names that stand before it
  pub before : Names
  -- how many helpers there are before it
  pub helpers : ℕ
  -- what helpers are called, by their numbers
  pub called : ℕ → List ℕ

-- behind names and so many helpers
abbrev pub behind_site : Site → Names → ℕ → Site
behind_site s names n = record { filled = s.filled; before = behind s.before names; helpers = s.helpers + n; called = s.called }

-- behind an expression
abbrev pub behind_exp : Site → ExpTree → Site
behind_exp s e = behind_site s (places e) (helpers_in e)

-- where the turns of a loop stand: in the clause of a helper whose head fills so many slots, with these names before them
abbrev pub inside : Site → ℕ → Names → Site
inside s filled before = record { filled = filled; before = before; helpers = s.helpers; called = s.called }

-- ---- arguments

-- one behind the other
unfoldable pub following_sites : Site → ExpTrees → ℕ → Site
following_sites s no_exps i = s
following_sites s (exp e es) zero = s
following_sites s (exp e es) (suc i) = following_sites (behind_exp s e) es i

-- of a `catch`: what it is to catch is evaluated before its goal
abbrev pub caught_sites : Site → ExpTrees → ℕ → Site
caught_sites s (exp g (exp ball (exp handler no_exps))) zero = behind_site s (places ball) (helpers_in ball)
caught_sites s (exp g (exp ball (exp handler no_exps))) (suc zero) = behind_site s (places g) 0
caught_sites s (exp g (exp ball (exp handler no_exps))) (suc (suc i)) = behind_site (behind_site (behind_site s (places ball) (helpers_in ball)) (places g) (helpers_in g)) (places ball) 0
caught_sites s es i = s

-- of a goal, by its form
abbrev pub goal_sites : Option Form → Site → ExpTrees → ℕ → Site
goal_sites (Some catch) s es = caught_sites s es
goal_sites form s es = following_sites s es

-- of a `find_all`: the expression is evaluated behind the goal
abbrev pub found_sites : Site → ExpTrees → ℕ → Site
found_sites s (exp e (exp g no_exps)) zero = behind_site s (places_all (exp g no_exps)) (helpers_in g)
found_sites s (exp e (exp g no_exps)) (suc i) = behind_site s (places e) 0
found_sites s es i = s

-- of a function's call
abbrev pub value_sites : Bool → Site → ExpTrees → ℕ → Site
value_sites true s es = found_sites s es
value_sites false s es = following_sites s es
