-- What a node is at its root, as far as it says where the node may stand.
use Rattle.std.specs.Prelude.{ℕ, Bool, true, false, not, ◌&&◌, ◌||◌, List, codes}
use Rattle.std.specs.Str.{bytes_eq}
use Rattle.pi_syntax.specs.ExpTree.{ExpTree, var, int, atom, str, list, list_onto, array, call, quote, index, range, range_by, at, collect, and, or, arrow, if_then, if_else, foreach, while_do, do_while, ExpTrees, no_exps, exp}
use Rattle.pi_syntax.specs.ExpLists.{exps_of}
use Rattle.pi_syntax.specs.Signature.{exp_count}
use Rattle.pi_prog_clauses.specs.Operators.{is_assignment, is_membership, is_operator, is_goal_call, is_expression_call, is_boolean_call}
use Rattle.pi_prog_clauses.specs.Places.{Place, goal, asked, expression, operand, iterator, term, pattern, Placed}
use Rattle.pi_prog_clauses.specs.Items.{is_kept_from_patterns, is_variable, is_evaluated, allows_assignment, is_misplaced, is_misassigned, is_stray, is_no_goal}
use Rattle.pi_prog_clauses.specs.declared.nodes.form.Form.{Form as CodeForm}
use Rattle.pi_prog_clauses.specs.declared.nodes.form.Form.TheVariants as code

pub data Form : Type 0 where
  variable : List ℕ → Form
  plain : List ℕ → Form
  -- name, number of arguments, and arguments
  calling : List ℕ → ℕ → ExpTrees → Form
  -- `V@P`
  binding : List ℕ → Form
  ranging : Form
  -- an index or a comprehension
  selection : Form
  -- an integer, a text, a list, an array, or what stands behind `$`
  value : Form
  -- a conjunction, a disjunction, an arrow, a choice or a loop
  control : Form

abbrev pub has_variable_first : ExpTrees → Bool
has_variable_first no_exps = false
has_variable_first (exp e es) = is_variable e

abbrev pub form_of : ExpTree → Form
form_of (var name) = variable name
form_of (int n) = value
form_of (atom name) = plain name
form_of (str text) = value
form_of (list es) = value
form_of (list_onto es e) = value
form_of (array es) = value
form_of (call name es) = calling name (exp_count es) es
form_of (quote e) = value
form_of (index e es) = selection
form_of (range first last) = ranging
form_of (range_by first step last) = ranging
form_of (at name e) = binding name
form_of (collect is_array e es) = selection
form_of (and es) = control
form_of (or es) = control
form_of (arrow c e) = control
form_of (if_then bs) = control
form_of (if_else bs e) = control
form_of (foreach es e) = control
form_of (while_do c e) = control
form_of (do_while e c) = control

-- that of the code
abbrev pub shown_form : CodeForm → Form
shown_form (code.Variable name) = variable name.now
shown_form (code.Atom name) = plain name.now
shown_form (code.Call name arity args) = calling name.now arity (exps_of args.now)
shown_form (code.Binding name) = binding name.now
shown_form code.Range = ranging
shown_form code.Selection = selection
shown_form code.Value = value
shown_form code.Control = control

-- ---- what the form says of a node

abbrev pub is_head_form : Form → Bool
is_head_form (plain name) = true
is_head_form (calling name arity es) = not (is_operator name arity)
is_head_form f = false

abbrev pub is_pattern_form : Bool → Form → Bool
is_pattern_form quoted (calling name arity es) = quoted || not (is_kept_from_patterns name arity)
is_pattern_form quoted ranging = quoted
is_pattern_form quoted selection = false
is_pattern_form quoted control = false
is_pattern_form quoted f = true

abbrev pub is_goal_form : Form → Bool
is_goal_form (calling name arity es) = is_goal_call name arity
is_goal_form control = true
is_goal_form f = false

abbrev pub is_expression_form : Form → Bool
is_expression_form (plain name) = false
is_expression_form (calling name arity es) = is_expression_call name arity
is_expression_form control = false
is_expression_form f = true

abbrev pub is_boolean_form : Form → Bool
is_boolean_form (calling name arity es) = is_boolean_call name arity
is_boolean_form f = false

abbrev pub is_membership_form : Form → Bool
is_membership_form (calling name arity es) = is_membership name arity
is_membership_form f = false

abbrev pub is_no_term_form : Form → Bool
is_no_term_form selection = true
is_no_term_form control = true
is_no_term_form f = false

abbrev pub is_misplaced_form : Place → Form → Bool
is_misplaced_form (goal assigns) f = is_expression_form f
is_misplaced_form asked f = false
is_misplaced_form expression f = is_goal_form f || is_membership_form f
is_misplaced_form operand f = (is_goal_form f && not (is_boolean_form f)) || is_membership_form f
is_misplaced_form iterator f = is_expression_form f && not (is_membership_form f)
is_misplaced_form term f = is_no_term_form f
is_misplaced_form (pattern quoted) f = not (is_pattern_form quoted f)

abbrev pub is_misassigned_form : Place → Form → Bool
is_misassigned_form p (calling name arity es) = is_assignment name arity && (is_evaluated p && not (allows_assignment p && has_variable_first es))
is_misassigned_form p f = false

abbrev pub is_stray_form : Place → Form → Bool
is_stray_form (pattern quoted) f = false
is_stray_form p (binding name) = true
is_stray_form p f = false

abbrev pub is_no_goal_form : Place → Form → Bool
is_no_goal_form asked f = is_expression_form f
is_no_goal_form p f = false

abbrev pub is_bad_form : Place → Form → Bool
is_bad_form p f = is_misplaced_form p f || (is_misassigned_form p f || (is_stray_form p f || is_no_goal_form p f))

abbrev pub breaks_pattern_form : Place → Form → Bool
breaks_pattern_form (pattern quoted) f = not (is_pattern_form quoted f)
breaks_pattern_form p f = false

abbrev pub is_variable_form : List ℕ → Form → Bool
is_variable_form name (variable other) = bytes_eq name other
is_variable_form name (binding other) = bytes_eq name other
is_variable_form name f = false

-- a variable stands there alone
abbrev pub is_variable_alone : Form → Bool
is_variable_alone (variable name) = true
is_variable_alone f = false

-- ---- events, where `occurs` says of which names variables occur in the head

abbrev pub is_event_of_one_form : (List ℕ → Bool) → List ℕ → Form → Bool
is_event_of_one_form occurs name (variable x) = (bytes_eq name (codes "ins") || bytes_eq name (codes "bound")) && occurs x
is_event_of_one_form occurs name f = false

abbrev pub is_event_of_two_form : (List ℕ → Bool) → List ℕ → Form → Form → Bool
is_event_of_two_form occurs name (variable x) (variable t) =
    (bytes_eq name (codes "dom") || (bytes_eq name (codes "dom_any") || bytes_eq name (codes "event")))
    && (occurs x && not (occurs t))
is_event_of_two_form occurs name f g = false

abbrev pub is_event_call : (List ℕ → Bool) → List ℕ → ExpTrees → Bool
is_event_call occurs name (exp x no_exps) = is_event_of_one_form occurs name (form_of x)
is_event_call occurs name (exp x (exp t no_exps)) = is_event_of_two_form occurs name (form_of x) (form_of t)
is_event_call occurs name es = false

abbrev pub is_event_form : (List ℕ → Bool) → Form → Bool
is_event_form occurs (calling name arity es) = is_event_call occurs name es
is_event_form occurs f = false

-- ---- of a node

-- any of the four
abbrev pub is_bad_node : Placed → Bool
is_bad_node n = is_misplaced n || (is_misassigned n || (is_stray n || is_no_goal n))
