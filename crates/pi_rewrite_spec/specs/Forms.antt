-- Which expressions and goals are lowered, loops, comprehensions and constraints among them: what a text without a fault has. Each name that is called is one that the language gives, or one
-- that the program has; what stays as structure is called by none. (Own.)
use Rattle.std.specs.Prelude.{◌≡◌, ◌≢◌, ℕ, zero, suc, ◌||◌, Bool, true, false, List, [], Option, Some, None, IsTrue, codes, ⊤}
use Rattle.std.specs.Str.{bytes_eq}
use Rattle.pi_syntax.specs.ExpTree.{ExpTree, var, int, atom, str, list, list_onto, array, call, quote, index, range, range_by, at, collect, and, or, arrow, if_then, if_else, foreach, while_do, do_while, ExpTrees, no_exps, exp, ExpBranches, no_branches, branch}
use Rattle.pi_syntax.specs.Signature.{exp_count}
use Rattle.pi_meaning.specs.Shared.Names.{is_given_predicate, is_given_function}
use Rattle.pi_meaning.specs.OverNames.Texts.{is_among, iterated, patterns_of}
use Rattle.pi_meaning.specs.OverNames.Loops.{hidden}
use Rattle.pi_meaning.specs.OverNames.Forms.{Form, negation, once, assignment, catch, by_term, membership, form_of, Reading, plain, readings, first_reading, later_readings, operand_readings, is_find_all, is_count_all}
use Rattle.pi_rewrite_spec.specs.Values.{stays}

-- the predicates and functions of a program, with the prelude
pub record Knows : Type 0 where
  pub predicate : List ℕ → ℕ → Bool
  pub function : List ℕ → ℕ → Bool

-- ---- terms and patterns

-- what may stand behind `$`. (`V@P` may not yet, since a term with one in it may be none.)
unfoldable mutual
  pub IsTerm : ExpTree → Type 0
  IsTerm (var name) = ⊤
  IsTerm (int n) = ⊤
  IsTerm (atom name) = ⊤
  IsTerm (str text) = ⊤
  IsTerm (list es) = AreTerms es
  IsTerm (list_onto es e) = AreTerms es × IsTerm e
  IsTerm (array es) = AreTerms es
  IsTerm (call name es) = AreTerms es
  IsTerm (quote e) = IsTerm e
  IsTerm (range first last) = IsTerm first × IsTerm last
  IsTerm (range_by first step last) = IsTerm first × IsTerm step × IsTerm last
  IsTerm e = ⊥

  pub AreTerms : ExpTrees → Type 0
  AreTerms no_exps = ⊤
  AreTerms (exp e es) = IsTerm e × AreTerms es

-- an argument of a head
unfoldable mutual
  pub IsPattern : ExpTree → Type 0
  IsPattern (var name) = ⊤
  IsPattern (int n) = ⊤
  IsPattern (atom name) = ⊤
  IsPattern (str text) = ⊤
  IsPattern (list es) = ArePatterns es
  IsPattern (list_onto es e) = ArePatterns es × IsPattern e
  IsPattern (array es) = ArePatterns es
  IsPattern (call name es) = ArePatterns es
  IsPattern (quote e) = IsPattern e
  IsPattern (range first last) = IsPattern first × IsPattern last
  IsPattern (range_by first step last) = IsPattern first × IsPattern step × IsPattern last
  IsPattern (at name e) = IsPattern e
  IsPattern e = ⊥

  pub ArePatterns : ExpTrees → Type 0
  ArePatterns no_exps = ⊤
  ArePatterns (exp e es) = IsPattern e × ArePatterns es

-- ---- calls

-- a call as an expression: of `find_all`, of `count_all`, or of any other function. `exps` says that its arguments are expressions, `value` and `goal` that the one at a place is an expression or a goal.
abbrev pub IsFunctionCall : Knows → Bool → Bool → List ℕ → ℕ → Type 0 → (ℕ → Type 0) → (ℕ → Type 0) → Type 0
IsFunctionCall known true is_count name k exps value goal = value 0 × goal 1
IsFunctionCall known false true name k exps value goal = goal 0
IsFunctionCall known false false name k exps value goal = exps × IsTrue (is_given_function name k || known.function name k)

-- the same where it may stay as a structure, of parts that are read as its own
abbrev pub IsNode : Bool → Type 0 → Type 0 → Type 0
IsNode true own called = own
IsNode false own called = called

abbrev pub IsPredicateCall : Knows → Option Form → List ℕ → ℕ → Type 0 → (ℕ → Type 0) → (ℕ → Type 0) → Type 0
IsPredicateCall known None name k exps value goal = exps × IsTrue (is_given_predicate name k || known.predicate name k)
IsPredicateCall known (Some negation) name k exps value goal = goal 0
IsPredicateCall known (Some once) name k exps value goal = goal 0
IsPredicateCall known (Some assignment) name k exps value goal = value 1
IsPredicateCall known (Some catch) name k exps value goal = goal 0 × value 1 × goal 2
IsPredicateCall known (Some by_term) name k exps value goal = exps
IsPredicateCall known (Some membership) name k exps value goal = ⊥

-- `true`, `fail` or the call of a predicate without arguments
abbrev pub IsAtomGoal : Knows → Bool → Bool → List ℕ → Type 0
IsAtomGoal known true is_fail name = ⊤
IsAtomGoal known false true name = ⊤
IsAtomGoal known false false name = IsTrue (is_given_predicate name 0 || known.predicate name 0)

-- ---- expressions and goals

-- an iterator, whose pattern is one of a head, or a test
abbrev pub IsUnit : Option ExpTree → Type 0 → Type 0 → Type 0
IsUnit None collection test = test
IsUnit (Some e) collection test = IsPattern e × collection

-- what is assigned is a variable
abbrev pub IsAssigned : Option Form → ExpTrees → Type 0
IsAssigned (Some assignment) (exp (var name) (exp e no_exps)) = ⊤
IsAssigned (Some assignment) es = ⊥
IsAssigned form es = ⊤

unfoldable mutual
  -- an expression that is read so
  pub IsRead : Knows → Reading → ExpTree → Type 0
  IsRead known r (var name) = ⊤
  IsRead known r (int n) = ⊤
  IsRead known r (atom name) = ⊤
  IsRead known r (str text) = ⊤
  IsRead known r (list es) = AreRead known [] es
  IsRead known r (list_onto es e) = AreRead known [] es × IsRead known plain e
  IsRead known r (array es) = AreRead known [] es
  IsRead known r (call name es) =
      IsNode (stays r name (exp_count es)) (AreRead known (operand_readings r name (exp_count es)) es)
      (IsFunctionCall known (is_find_all name (exp_count es)) (is_count_all name (exp_count es)) name (exp_count es) (AreRead known [] es) (IsExpressionAt known es) (IsGoalAt known es))
  IsRead known r (quote e) = IsTerm e
  IsRead known r (index e es) = IsRead known plain e × AreRead known [] es × (es ≢ no_exps)
  IsRead known r (range first last) = IsRead known plain first × IsRead known plain last
  IsRead known r (range_by first step last) = IsRead known plain first × IsRead known plain step × IsRead known plain last
  -- no name of a text is the one of what a comprehension gathers
  IsRead known r (collect is_array e es) = AreUnits known es × IsRead known plain e × (is_among (patterns_of es) hidden ≡ false)
  IsRead known r e = ⊥

  pub AreRead : Knows → List Reading → ExpTrees → Type 0
  AreRead known rs no_exps = ⊤
  AreRead known rs (exp e es) = IsRead known (first_reading rs) e × AreRead known (later_readings rs) es

  -- the one with this number, counted from 0, is one
  pub IsExpressionAt : Knows → ExpTrees → ℕ → Type 0
  IsExpressionAt known no_exps i = ⊥
  IsExpressionAt known (exp e es) zero = IsRead known plain e
  IsExpressionAt known (exp e es) (suc i) = IsExpressionAt known es i

  pub IsGoalAt : Knows → ExpTrees → ℕ → Type 0
  IsGoalAt known no_exps i = ⊥
  IsGoalAt known (exp e es) zero = IsGoal known e
  IsGoalAt known (exp e es) (suc i) = IsGoalAt known es i

  pub IsGoal : Knows → ExpTree → Type 0
  IsGoal known (atom name) = IsAtomGoal known (bytes_eq name (codes "true")) (bytes_eq name (codes "fail")) name
  IsGoal known (call name es) =
      IsPredicateCall known (form_of name (exp_count es)) name (exp_count es) (AreRead known (readings name (exp_count es)) es) (IsExpressionAt known es) (IsGoalAt known es) × IsAssigned (form_of name (exp_count es)) es
  IsGoal known (and es) = AreGoals known es
  IsGoal known (or es) = AreBranches known es
  IsGoal known (if_then bs) = HaveGoals known bs
  IsGoal known (if_else bs e) = HaveGoals known bs × IsGoal known e
  IsGoal known (foreach es e) = AreUnits known es × IsGoal known e
  IsGoal known (while_do c e) = IsGoal known c × IsGoal known e
  IsGoal known (do_while e c) = IsGoal known e × IsGoal known c
  IsGoal known e = ⊥

  pub AreGoals : Knows → ExpTrees → Type 0
  AreGoals known no_exps = ⊤
  AreGoals known (exp e es) = IsGoal known e × AreGoals known es

  -- branches of a disjunction, which may have an arrow
  pub AreBranches : Knows → ExpTrees → Type 0
  AreBranches known no_exps = ⊤
  AreBranches known (exp e es) = IsBranch known e × AreBranches known es

  pub IsBranch : Knows → ExpTree → Type 0
  IsBranch known (arrow c e) = IsGoal known c × IsGoal known e
  IsBranch known (atom name) = IsAtomGoal known (bytes_eq name (codes "true")) (bytes_eq name (codes "fail")) name
  IsBranch known (call name es) =
      IsPredicateCall known (form_of name (exp_count es)) name (exp_count es) (AreRead known (readings name (exp_count es)) es) (IsExpressionAt known es) (IsGoalAt known es) × IsAssigned (form_of name (exp_count es)) es
  IsBranch known (and es) = AreGoals known es
  IsBranch known (or es) = AreBranches known es
  IsBranch known (if_then bs) = HaveGoals known bs
  IsBranch known (if_else bs e) = HaveGoals known bs × IsGoal known e
  IsBranch known (foreach es e) = AreUnits known es × IsGoal known e
  IsBranch known (while_do c e) = IsGoal known c × IsGoal known e
  IsBranch known (do_while e c) = IsGoal known e × IsGoal known c
  IsBranch known e = ⊥

  pub HaveGoals : Knows → ExpBranches → Type 0
  HaveGoals known no_branches = ⊤
  HaveGoals known (branch c e bs) = IsGoal known c × IsGoal known e × HaveGoals known bs

  -- iterators and tests
  pub AreUnits : Knows → ExpTrees → Type 0
  AreUnits known no_exps = ⊤
  AreUnits known (exp u us) = IsUnit (iterated u) (IsCollection known u) (IsGoal known u) × AreUnits known us

  -- what an iterator goes over
  pub IsCollection : Knows → ExpTree → Type 0
  IsCollection known (call name es) = IsExpressionAt known es 1
  IsCollection known e = ⊥

-- where all is evaluated
abbrev pub IsExpression : Knows → ExpTree → Type 0
IsExpression known e = IsRead known plain e

abbrev pub AreExpressions : Knows → ExpTrees → Type 0
AreExpressions known es = AreRead known [] es
