-- Which parts of a program and which goals are built, by what is written alone: all forms but events and what planning gives (and what no text without a fault has:
-- `V@P` behind `$`, an assignment of what is no variable, a variable of a pattern without a name). Loops and comprehensions are built where what stands in them is. A name that is called is
-- one of the tables of built-in predicates and functions, a goal of constraints, `solve`, a function of domains, one of the prelude's predicates, or one that the language doesn't give. (Own.)
use Rattle.std.specs.Prelude.{ℕ, zero, suc, ◌+◌, Bool, true, false, not, ◌&&◌, ◌||◌, cond, if◌then◌else◌, List, [], ◌∷◌, Option, Some, None, is_none, codes}
use Rattle.std.specs.Str.{bytes_eq}
use Rattle.pi_syntax.specs.Forms.{is_form}
use Rattle.pi_syntax.specs.Names.{kind_of}
use Rattle.pi_syntax.specs.declared.builtin.BuiltinKind.{BuiltinKind}
use Rattle.pi_syntax.specs.ExpTree.{ExpTree, var, int, atom, str, list, list_onto, array, call, quote, index, range, range_by, at, and, or, arrow, if_then, if_else, foreach, while_do, do_while, collect, ExpTrees, no_exps, exp, ExpBranches, no_branches, branch}
use Rattle.pi_syntax.specs.ProgramTree.{RuleTree, FunctionTree, WrittenClause, rule, function, fact, PartTree, ProgramTree}
use Rattle.pi_syntax.specs.Signature.{exp_count}
use Rattle.pi_syntax.specs.declared.program.Decl.{Decl}
use Rattle.pi_meaning.specs.Shared.Effects.{is_built_name, is_value_name}
use Rattle.pi_meaning.specs.OverNames.WrittenRules.{head_arguments}
use Rattle.pi_meaning.specs.OverNames.Texts.{iterated}
use Rattle.pi_meaning.specs.OverNames.Forms.{Form, negation, once, assignment, catch, by_term, membership, form_of, is_constraint, is_connective, is_find_all, is_count_all}

-- ---- names that may be called

-- with so many arguments the name is neither built in nor `not`, `once`, `:=` or `in`
abbrev pub is_own : List ℕ → ℕ → Bool
is_own name k = not (is_form name k) && is_none (kind_of name k)

abbrev pub is_prelude_kind : Option BuiltinKind → Bool
is_prelude_kind None = false
is_prelude_kind (Some BuiltinKind.Predicate) = false
is_prelude_kind (Some BuiltinKind.Function) = false
is_prelude_kind (Some BuiltinKind.Prelude) = true

abbrev pub is_built_predicate : List ℕ → ℕ → Bool
is_built_predicate name k = is_built_name name k || (is_own name k || is_prelude_kind (kind_of name k))

-- a sign between constraints, or a relation of constraints: as an expression it stays as structure between such signs, and a text without a fault has it nowhere else
abbrev pub is_boolean_sign : List ℕ → ℕ → Bool
is_boolean_sign name k = is_connective name k || is_constraint name k

abbrev pub is_built_function : List ℕ → ℕ → Bool
is_built_function name k = is_value_name name k || (is_own name k || is_boolean_sign name k)

-- ---- terms and patterns

-- what may stand behind `$`
unfoldable mutual
  pub is_built_term : ExpTree → Bool
  is_built_term (var name) = true
  is_built_term (int n) = true
  is_built_term (atom name) = true
  is_built_term (str text) = true
  is_built_term (list es) = are_built_terms es
  is_built_term (list_onto es e) = are_built_terms es && is_built_term e
  is_built_term (array es) = are_built_terms es
  is_built_term (call name es) = are_built_terms es
  is_built_term (quote e) = is_built_term e
  is_built_term (range first last) = is_built_term first && is_built_term last
  is_built_term (range_by first step last) = is_built_term first && (is_built_term step && is_built_term last)
  is_built_term e = false

  pub are_built_terms : ExpTrees → Bool
  are_built_terms no_exps = true
  are_built_terms (exp e es) = is_built_term e && are_built_terms es

-- a name that isn't empty, as each variable's in a text
abbrev pub is_named : List ℕ → Bool
is_named [] = false
is_named (c ∷ cs) = true

-- an argument of a head, or the pattern of an iterator
unfoldable mutual
  pub is_built_pattern : ExpTree → Bool
  is_built_pattern (var name) = is_named name
  is_built_pattern (int n) = true
  is_built_pattern (atom name) = true
  is_built_pattern (str text) = true
  is_built_pattern (list es) = are_built_patterns es
  is_built_pattern (list_onto es e) = are_built_patterns es && is_built_pattern e
  is_built_pattern (array es) = are_built_patterns es
  is_built_pattern (call name es) = are_built_patterns es
  is_built_pattern (quote e) = is_built_pattern e
  is_built_pattern (range first last) = is_built_pattern first && is_built_pattern last
  is_built_pattern (range_by first step last) = is_built_pattern first && (is_built_pattern step && is_built_pattern last)
  is_built_pattern (at name e) = is_named name && is_built_pattern e
  is_built_pattern e = false

  pub are_built_patterns : ExpTrees → Bool
  are_built_patterns no_exps = true
  are_built_patterns (exp e es) = is_built_pattern e && are_built_patterns es

-- ---- expressions and goals

abbrev pub are_some : ExpTrees → Bool
are_some no_exps = false
are_some (exp e es) = true

-- A call as an expression: of `find_all`, of `count_all`, or of any other function. `exps` says that its arguments are built as expressions, `value` and `goal` that the one at a
-- place is built as an expression or as a goal.
abbrev pub is_built_value_call : List ℕ → ℕ → Bool → (ℕ → Bool) → (ℕ → Bool) → Bool
is_built_value_call name k exps value goal =
    cond (is_find_all name k) (value 0 && goal 1) (cond (is_count_all name k) (goal 0) (exps && is_built_function name k))

abbrev pub is_built_form : Option Form → List ℕ → ℕ → Bool → (ℕ → Bool) → (ℕ → Bool) → Bool
is_built_form None name k exps value goal = exps && is_built_predicate name k
is_built_form (Some negation) name k exps value goal = goal 0
is_built_form (Some once) name k exps value goal = goal 0
is_built_form (Some assignment) name k exps value goal = value 1
is_built_form (Some catch) name k exps value goal = goal 0 && (value 1 && goal 2)
is_built_form (Some by_term) name k exps value goal = exps
is_built_form (Some membership) name k exps value goal = false

abbrev pub is_variable : ExpTree → Bool
is_variable (var name) = true
is_variable e = false

-- what is assigned is a variable
abbrev pub is_assigned : Option Form → ExpTrees → Bool
is_assigned (Some assignment) (exp e es) = is_variable e
is_assigned (Some assignment) no_exps = false
is_assigned form es = true

-- an iterator, whose pattern is one of a head, or a test
abbrev pub is_built_unit : Option ExpTree → Bool → Bool → Bool
is_built_unit None collection test = test
is_built_unit (Some e) collection test = is_built_pattern e && collection

-- `true`, `fail` or the call of a predicate without arguments
abbrev pub is_built_atom : List ℕ → Bool
is_built_atom name = bytes_eq name (codes "true") || (bytes_eq name (codes "fail") || is_built_predicate name 0)

unfoldable mutual
  pub is_built_value : ExpTree → Bool
  is_built_value (var name) = true
  is_built_value (int n) = true
  is_built_value (atom name) = true
  is_built_value (str text) = true
  is_built_value (list es) = are_built_values es
  is_built_value (list_onto es e) = are_built_values es && is_built_value e
  is_built_value (array es) = are_built_values es
  is_built_value (call name es) = is_built_value_call name (exp_count es) (are_built_values es) (is_built_value_at es) (is_built_goal_at es)
  is_built_value (quote e) = is_built_term e
  is_built_value (index e es) = is_built_value e && (are_built_values es && are_some es)
  is_built_value (range first last) = is_built_value first && is_built_value last
  is_built_value (range_by first step last) = is_built_value first && (is_built_value step && is_built_value last)
  is_built_value (collect is_array e es) = are_built_units es && is_built_value e
  is_built_value e = false

  pub are_built_values : ExpTrees → Bool
  are_built_values no_exps = true
  are_built_values (exp e es) = is_built_value e && are_built_values es

  -- the one with this number, counted from 0, is one
  pub is_built_value_at : ExpTrees → ℕ → Bool
  is_built_value_at no_exps i = false
  is_built_value_at (exp e es) zero = is_built_value e
  is_built_value_at (exp e es) (suc i) = is_built_value_at es i

  pub is_built_goal_at : ExpTrees → ℕ → Bool
  is_built_goal_at no_exps i = false
  is_built_goal_at (exp e es) zero = is_built_goal e
  is_built_goal_at (exp e es) (suc i) = is_built_goal_at es i

  pub is_built_goal : ExpTree → Bool
  is_built_goal (atom name) = is_built_atom name
  is_built_goal (call name es) =
      is_built_form (form_of name (exp_count es)) name (exp_count es) (are_built_values es) (is_built_value_at es) (is_built_goal_at es) && is_assigned (form_of name (exp_count es)) es
  is_built_goal (and es) = are_built_goals es
  is_built_goal (or es) = are_built_branches es
  is_built_goal (if_then bs) = have_built_goals bs
  is_built_goal (if_else bs e) = have_built_goals bs && is_built_goal e
  is_built_goal (foreach es e) = are_built_units es && is_built_goal e
  is_built_goal (while_do c e) = is_built_goal c && is_built_goal e
  is_built_goal (do_while e c) = is_built_goal e && is_built_goal c
  is_built_goal e = false

  pub are_built_goals : ExpTrees → Bool
  are_built_goals no_exps = true
  are_built_goals (exp e es) = is_built_goal e && are_built_goals es

  -- branches of a disjunction, which may have an arrow
  pub are_built_branches : ExpTrees → Bool
  are_built_branches no_exps = true
  are_built_branches (exp e es) = is_built_branch e && are_built_branches es

  pub is_built_branch : ExpTree → Bool
  is_built_branch (arrow c e) = is_built_goal c && is_built_goal e
  is_built_branch (atom name) = is_built_atom name
  is_built_branch (call name es) =
      is_built_form (form_of name (exp_count es)) name (exp_count es) (are_built_values es) (is_built_value_at es) (is_built_goal_at es) && is_assigned (form_of name (exp_count es)) es
  is_built_branch (and es) = are_built_goals es
  is_built_branch (or es) = are_built_branches es
  is_built_branch (if_then bs) = have_built_goals bs
  is_built_branch (if_else bs e) = have_built_goals bs && is_built_goal e
  is_built_branch (foreach es e) = are_built_units es && is_built_goal e
  is_built_branch (while_do c e) = is_built_goal c && is_built_goal e
  is_built_branch (do_while e c) = is_built_goal e && is_built_goal c
  is_built_branch e = false

  pub have_built_goals : ExpBranches → Bool
  have_built_goals no_branches = true
  have_built_goals (branch c e bs) = is_built_goal c && (is_built_goal e && have_built_goals bs)

  -- iterators and tests
  pub are_built_units : ExpTrees → Bool
  are_built_units no_exps = true
  are_built_units (exp u us) = is_built_unit (iterated u) (is_built_collection u) (is_built_goal u) && are_built_units us

  -- what an iterator goes over
  pub is_built_collection : ExpTree → Bool
  is_built_collection (call name es) = is_built_value_at es 1
  is_built_collection e = false

-- ---- parts

abbrev pub is_built_goal_or_none : Option ExpTree → Bool
is_built_goal_or_none None = true
is_built_goal_or_none (Some e) = is_built_goal e

-- no events
abbrev pub are_none : List ExpTree → Bool
are_none [] = true
are_none (e ∷ es) = false

abbrev pub is_built_rule : RuleTree → Bool
is_built_rule r = are_none r.events && (are_built_patterns (head_arguments r.head) && (is_built_goal_or_none r.cond && is_built_goal r.body))

abbrev pub is_built_function_rule : FunctionTree → Bool
is_built_function_rule f =
    are_built_patterns (head_arguments f.head) && (is_built_goal_or_none f.cond && (is_built_goal_or_none f.body && is_built_value f.value))

abbrev pub is_built_clause : WrittenClause → Bool
is_built_clause (rule r) = is_built_rule r
is_built_clause (function f) = is_built_function_rule f
is_built_clause (fact head) = are_built_patterns (head_arguments head)

abbrev pub has_built_clause : Option WrittenClause → Bool
has_built_clause None = false
has_built_clause (Some c) = is_built_clause c

-- by what a part declares and by its clause
abbrev pub is_built : Decl → Option WrittenClause → Bool
is_built Decl.Plain o = has_built_clause o
is_built (Decl.Import names) None = true
is_built (Decl.Import names) (Some c) = false
is_built (Decl.Index lists) o = has_built_clause o

abbrev pub is_built_part : PartTree → Bool
is_built_part p = is_built p.decl p.clause

-- the number of the first part that isn't built, where the first one has this number
unfoldable pub unbuilt_from : ℕ → ProgramTree → Option ℕ
unbuilt_from number [] = None
unbuilt_from number (p ∷ ps) = if is_built_part p then unbuilt_from (number + 1) ps else Some number

-- parts are counted from 1
abbrev pub unbuilt_part : ProgramTree → Option ℕ
unbuilt_part program = unbuilt_from 1 program

-- a goal is one part
abbrev pub unbuilt_goal : ExpTree → Option ℕ
unbuilt_goal goal = if is_built_goal goal then None else Some 1
