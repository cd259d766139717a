-- What a clause may not be: a predicate for each thing that is forbidden. (A User's Guide to Picat, 'Predicates and Functions', 'Action
-- Rules' and 'Assignments and Loops'; which restrictions there are is own.)
use Rattle.std.specs.Prelude.{ℕ, Bool, true, false, not, ◌&&◌, ◌||◌, List, [], ◌∷◌, Option, Some, None, is_some, codes}
use Rattle.std.specs.List.{list_any}
use Rattle.std.specs.Str.{bytes_eq}
use Rattle.pi_syntax.specs.ExpTree.{ExpTree, var, int, atom, str, list, list_onto, array, call, quote, index, range, range_by, at, collect, and, or, arrow, if_then, if_else, foreach, while_do, do_while, ExpTrees, no_exps, exp}
use Rattle.pi_syntax.specs.ProgramTree.{WrittenClause, rule, function, fact}
use Rattle.pi_syntax.specs.Signature.{exp_count}
use Rattle.pi_prog_clauses.specs.Operators.{is_assignment, is_membership, is_operator, is_goal_call, is_expression_call, is_boolean_call}
use Rattle.pi_prog_clauses.specs.Places.{Place, goal, asked, expression, operand, iterator, term, pattern, Placed, head_placed}
use Rattle.pi_prog_clauses.specs.Shape.{Shape, clause_of, shape_events, is_open, listed}

abbrev pub head_of : WrittenClause → ExpTree
head_of (rule r) = r.head
head_of (function f) = f.head
head_of (fact head) = head

abbrev pub is_function : WrittenClause → Bool
is_function (rule r) = false
is_function (function f) = true
is_function (fact head) = false

abbrev pub is_fact : WrittenClause → Bool
is_fact (rule r) = false
is_fact (function f) = false
is_fact (fact head) = true

-- ---- heads and patterns

-- an atom, or a call of no sign
abbrev pub is_head : ExpTree → Bool
is_head (atom name) = true
is_head (call name es) = not (is_operator name (exp_count es))
is_head e = false

-- signs that no pattern has without `$`: `:=` and `in`
abbrev pub is_kept_from_patterns : List ℕ → ℕ → Bool
is_kept_from_patterns name arity = is_assignment name arity || is_membership name arity

-- what may stand as a pattern; inside `$` each call is a structure, and a range a compound
abbrev pub is_pattern_node : Bool → ExpTree → Bool
is_pattern_node quoted (var name) = true
is_pattern_node quoted (int n) = true
is_pattern_node quoted (atom name) = true
is_pattern_node quoted (str text) = true
is_pattern_node quoted (list es) = true
is_pattern_node quoted (list_onto es e) = true
is_pattern_node quoted (array es) = true
is_pattern_node quoted (call name es) = quoted || not (is_kept_from_patterns name (exp_count es))
is_pattern_node quoted (quote e) = true
is_pattern_node quoted (range first last) = quoted
is_pattern_node quoted (range_by first step last) = quoted
is_pattern_node quoted (at name e) = true
is_pattern_node quoted e = false

-- a node that is no pattern stands as one
abbrev pub breaks_pattern_at : Place → ExpTree → Bool
breaks_pattern_at (pattern quoted) e = not (is_pattern_node quoted e)
breaks_pattern_at p e = false

abbrev pub breaks_pattern : Placed → Bool
breaks_pattern n = breaks_pattern_at n.place n.node

-- the head is no atom or call, or an argument is no pattern
unfoldable pub has_bad_head : WrittenClause → Bool
has_bad_head c = not (is_head (head_of c)) || list_any breaks_pattern (head_placed (head_of c))

-- ---- arrows and events

-- a function's rule has the arrow `?=>`, or events
unfoldable pub is_function_with_choice_or_events : Shape → Bool
is_function_with_choice_or_events s = is_function (clause_of s) && (is_open s || is_some (shape_events s))

-- a rule with events has the arrow `?=>`
unfoldable pub is_open_action_rule : Shape → Bool
is_open_action_rule s = is_some (shape_events s) && is_open s

-- whether a variable of this name occurs; each `_` is a name of its own
abbrev pub is_variable_of : List ℕ → ExpTree → Bool
is_variable_of name (var other) = bytes_eq name other
is_variable_of name (at other e) = bytes_eq name other
is_variable_of name e = false

abbrev pub names_variable : List ℕ → Placed → Bool
names_variable name n = is_variable_of name n.node

abbrev pub occurs_in_head : List ℕ → ExpTree → Bool
occurs_in_head name head = not (bytes_eq name (codes "_")) && list_any (names_variable name) (head_placed head)

-- `ins(X)` and `bound(X)`: X occurs in the head
abbrev pub is_event_of_one : ExpTree → List ℕ → ExpTree → Bool
is_event_of_one head name (var x) = (bytes_eq name (codes "ins") || bytes_eq name (codes "bound")) && occurs_in_head x head
is_event_of_one head name e = false

-- `dom(X,T)`, `dom_any(X,T)` and `event(X,T)`: X occurs in the head, and T doesn't
abbrev pub is_event_of_two : ExpTree → List ℕ → ExpTree → ExpTree → Bool
is_event_of_two head name (var x) (var t) =
    (bytes_eq name (codes "dom") || (bytes_eq name (codes "dom_any") || bytes_eq name (codes "event")))
    && (occurs_in_head x head && not (occurs_in_head t head))
is_event_of_two head name a b = false

abbrev pub is_event : ExpTree → ExpTree → Bool
is_event head (call name (exp x no_exps)) = is_event_of_one head name x
is_event head (call name (exp x (exp t no_exps))) = is_event_of_two head name x t
is_event head e = false

-- no event stands in the braces
abbrev pub is_empty : List ExpTree → Bool
is_empty [] = true
is_empty (e ∷ es) = false

abbrev pub are_bad_events : ExpTree → Option ExpTrees → Bool
are_bad_events head None = false
are_bad_events head (Some es) = is_empty (listed es) || list_any (λ e. not (is_event head e)) (listed es)

-- the braces hold none, or something that is no event of the head's variables
unfoldable pub has_bad_events : Shape → Bool
has_bad_events s = are_bad_events (head_of (clause_of s)) (shape_events s)

-- ---- goals and expressions, node by node

-- a node that is no expression: a conjunction, a disjunction, an arrow, a choice, a loop, `not`, `once`, a relation, a sign between constraints
abbrev pub is_goal_node : ExpTree → Bool
is_goal_node (call name es) = is_goal_call name (exp_count es)
is_goal_node (and es) = true
is_goal_node (or es) = true
is_goal_node (arrow c e) = true
is_goal_node (if_then bs) = true
is_goal_node (if_else bs e) = true
is_goal_node (foreach es e) = true
is_goal_node (while_do c e) = true
is_goal_node (do_while e c) = true
is_goal_node e = false

-- a node that is no goal: all others save atoms and calls of no sign
abbrev pub is_expression_node : ExpTree → Bool
is_expression_node (atom name) = false
is_expression_node (call name es) = is_expression_call name (exp_count es)
is_expression_node e = not (is_goal_node e)

-- a relation of constraints, or a sign between them
abbrev pub is_boolean_node : ExpTree → Bool
is_boolean_node (call name es) = is_boolean_call name (exp_count es)
is_boolean_node e = false

-- `E in D`
abbrev pub is_membership_node : ExpTree → Bool
is_membership_node (call name es) = is_membership name (exp_count es)
is_membership_node e = false

-- what is no term: goals that are no calls, comprehensions, indexes
abbrev pub is_no_term : ExpTree → Bool
is_no_term (call name es) = false
is_no_term (index e es) = true
is_no_term (collect is_array e es) = true
is_no_term e = is_goal_node e

-- A goal stands where an expression must, or the reverse; `in` stands where no iterator does; what is no term stands inside `$`;
-- what is no pattern stands on the left of `in`. Between the signs of constraints stand expressions, and of goals those that are relations
-- of constraints or such signs.
abbrev pub is_misplaced_at : Place → ExpTree → Bool
is_misplaced_at (goal assigns) e = is_expression_node e
is_misplaced_at asked e = false
is_misplaced_at expression e = is_goal_node e || is_membership_node e
is_misplaced_at operand e = (is_goal_node e && not (is_boolean_node e)) || is_membership_node e
is_misplaced_at iterator e = is_expression_node e && not (is_membership_node e)
is_misplaced_at term e = is_no_term e
is_misplaced_at (pattern quoted) e = not (is_pattern_node quoted e)

abbrev pub is_misplaced : Placed → Bool
is_misplaced n = is_misplaced_at n.place n.node

abbrev pub is_variable : ExpTree → Bool
is_variable (var name) = true
is_variable e = false

-- whether a call stands there, and no term
abbrev pub is_evaluated : Place → Bool
is_evaluated term = false
is_evaluated (pattern quoted) = false
is_evaluated p = true

-- in the body, in branches and in bodies of loops
abbrev pub allows_assignment : Place → Bool
allows_assignment (goal assigns) = assigns
allows_assignment p = false

-- `:=` has no variable on its left, or stands where it may not
abbrev pub is_misassigned_at : Place → ExpTree → Bool
is_misassigned_at p (call name (exp x es)) =
    is_assignment name (exp_count (exp x es)) && (is_evaluated p && not (allows_assignment p && is_variable x))
is_misassigned_at p e = false

abbrev pub is_misassigned : Placed → Bool
is_misassigned n = is_misassigned_at n.place n.node

-- `V@P` stands where no pattern does
abbrev pub is_stray_at : Place → ExpTree → Bool
is_stray_at (pattern quoted) e = false
is_stray_at p (at name e) = true
is_stray_at p e = false

abbrev pub is_stray : Placed → Bool
is_stray n = is_stray_at n.place n.node

-- no goal stands in the goal's place of `find_all`, `count_all`, `catch`, `not` or `once`
abbrev pub is_no_goal_at : Place → ExpTree → Bool
is_no_goal_at asked e = is_expression_node e
is_no_goal_at p e = false

abbrev pub is_no_goal : Placed → Bool
is_no_goal n = is_no_goal_at n.place n.node

-- ---- of all nodes of a clause or a goal

unfoldable pub misplaces : List Placed → Bool
misplaces nodes = list_any is_misplaced nodes

unfoldable pub misassigns : List Placed → Bool
misassigns nodes = list_any is_misassigned nodes

unfoldable pub has_stray_at : List Placed → Bool
has_stray_at nodes = list_any is_stray nodes

unfoldable pub lacks_goal : List Placed → Bool
lacks_goal nodes = list_any is_no_goal nodes

-- any of these
abbrev pub are_bad_nodes : List Placed → Bool
are_bad_nodes nodes = misplaces nodes || (misassigns nodes || (has_stray_at nodes || lacks_goal nodes))
