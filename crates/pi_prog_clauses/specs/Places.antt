-- The nodes of a clause's expressions, each with the place at which it stands: as a goal, as an expression whose value is taken, between the
-- signs of constraints, inside `$`, as a pattern, or behind `foreach` and in a comprehension. In the order of the text: a node before what stands in it. (Own; the
-- forms are those of A User's Guide to Picat, 'Predicates and Functions' and 'Assignments and Loops'.)
use Rattle.std.specs.Prelude.{ℕ, suc, Bool, true, false, ◌&&◌, ◌||◌, ◌==◌, if◌then◌else◌, List, [], ◌∷◌, ◌++◌, Option, Some, None, codes}
use Rattle.std.specs.Str.{bytes_eq}
use Rattle.pi_syntax.specs.ExpTree.{ExpTree, var, int, atom, str, list, list_onto, array, call, quote, index, range, range_by, at, collect, and, or, arrow, if_then, if_else, foreach, while_do, do_while, ExpTrees, no_exps, exp, ExpBranches, no_branches, branch}
use Rattle.pi_syntax.specs.ProgramTree.{WrittenClause, rule, function, fact}
use Rattle.pi_syntax.specs.Signature.{exp_count}
use Rattle.pi_prog_clauses.specs.Operators.{is_goal_sign, is_membership, is_reified}

pub data Place : Type 0 where
  -- a goal; the flag says whether `:=` may stand there
  goal : Bool → Place
  -- the goal of `not`, `once`, `find_all`, `count_all` or `catch`
  asked : Place
  -- an expression
  expression : Place
  -- an operand of a sign between constraints
  operand : Place
  -- an iterator or a test of a loop or a comprehension
  iterator : Place
  -- inside `$`
  term : Place
  -- a pattern; the flag says whether it is inside `$`
  pattern : Bool → Place

pub record Placed : Type 0 where
  pub place : Place
  pub node : ExpTree

abbrev pub placed_at : Place → ExpTree → Placed
placed_at p e = record { place = p; node = e }

-- where items, operands and arguments stand that belong to no goal
abbrev pub inside : Place → Place
inside term = term
inside (pattern is_quoted) = pattern is_quoted
inside p = expression

-- what stands behind `$`
abbrev pub quoted : Place → Place
quoted (pattern is_quoted) = pattern true
quoted p = term

-- goals of a conjunction, of branches and of loops stand as these do
abbrev pub body : Place → Place
body (goal assigns) = goal assigns
body p = goal false

abbrev pub test : Place
test = goal false

-- the places of the arguments of a call that is no term: which argument of which call is a goal, which a pattern, and which an operand
abbrev pub is_asked : List ℕ → ℕ → ℕ → Bool
is_asked name arity i =
    is_goal_sign name arity
    || ((bytes_eq name (codes "find_all") && (arity == 2 && i == 1))
    || ((bytes_eq name (codes "count_all") && arity == 1)
    || (bytes_eq name (codes "catch") && (arity == 3 && (i == 0 || i == 2)))))

abbrev pub called : List ℕ → ℕ → ℕ → Place
called name arity i =
    if is_asked name arity i then asked
    else if is_membership name arity && i == 0 then pattern false
    else if is_reified name arity then operand
    else expression

-- the place of argument i, counted from 0
abbrev pub argument : Place → List ℕ → ℕ → ℕ → Place
argument term name arity i = term
argument (pattern is_quoted) name arity i = pattern is_quoted
argument p name arity i = called name arity i

unfoldable mutual
  -- the nodes below a node
  pub below : Place → ExpTree → List Placed
  below p (var name) = []
  below p (int n) = []
  below p (atom name) = []
  below p (str text) = []
  below p (list es) = all_placed (inside p) es
  below p (list_onto es e) = all_placed (inside p) es ++ (placed_at (inside p) e ∷ below (inside p) e)
  below p (array es) = all_placed (inside p) es
  below p (call name es) = arguments_placed p name (exp_count es) 0 es
  below p (quote e) = placed_at (quoted p) e ∷ below (quoted p) e
  below p (index e es) = (placed_at (inside p) e ∷ below (inside p) e) ++ all_placed (inside p) es
  below p (range first last) = (placed_at (inside p) first ∷ below (inside p) first) ++ (placed_at (inside p) last ∷ below (inside p) last)
  below p (range_by first step last) = (placed_at (inside p) first ∷ below (inside p) first) ++ ((placed_at (inside p) step ∷ below (inside p) step) ++ (placed_at (inside p) last ∷ below (inside p) last))
  below p (at name e) = placed_at (inside p) e ∷ below (inside p) e
  below p (collect is_array e es) = (placed_at (inside p) e ∷ below (inside p) e) ++ all_placed iterator es
  below p (and es) = all_placed (body p) es
  below p (or es) = all_placed (body p) es
  below p (arrow c e) = (placed_at test c ∷ below test c) ++ (placed_at (body p) e ∷ below (body p) e)
  below p (if_then bs) = branches_placed p bs
  below p (if_else bs e) = branches_placed p bs ++ (placed_at (body p) e ∷ below (body p) e)
  below p (foreach es e) = all_placed iterator es ++ (placed_at (body p) e ∷ below (body p) e)
  below p (while_do c e) = (placed_at test c ∷ below test c) ++ (placed_at (body p) e ∷ below (body p) e)
  below p (do_while e c) = (placed_at (body p) e ∷ below (body p) e) ++ (placed_at test c ∷ below test c)

  pub all_placed : Place → ExpTrees → List Placed
  all_placed p no_exps = []
  all_placed p (exp e es) = (placed_at p e ∷ below p e) ++ all_placed p es

  -- from argument i on
  pub arguments_placed : Place → List ℕ → ℕ → ℕ → ExpTrees → List Placed
  arguments_placed p name arity i no_exps = []
  arguments_placed p name arity i (exp e es) = (placed_at (argument p name arity i) e ∷ below (argument p name arity i) e) ++ arguments_placed p name arity (suc i) es

  pub branches_placed : Place → ExpBranches → List Placed
  branches_placed p no_branches = []
  branches_placed p (branch c e bs) = (placed_at test c ∷ below test c) ++ ((placed_at (body p) e ∷ below (body p) e) ++ branches_placed p bs)

-- a node, and the nodes below it
abbrev pub placed : Place → ExpTree → List Placed
placed p e = placed_at p e ∷ below p e

-- ---- of a clause

abbrev pub placed_if : Place → Option ExpTree → List Placed
placed_if p None = []
placed_if p (Some e) = placed p e

-- of a function the value comes first, as in the text; nothing is evaluated in a head, in events and in a fact
abbrev pub clause_placed : WrittenClause → List Placed
clause_placed (rule r) = placed_if test r.cond ++ placed (goal true) r.body
clause_placed (function f) = placed expression f.value ++ (placed_if test f.cond ++ placed_if (goal true) f.body)
clause_placed (fact head) = []

-- the nodes of a head's arguments
abbrev pub head_placed : ExpTree → List Placed
head_placed (call name es) = all_placed (pattern false) es
head_placed e = []
