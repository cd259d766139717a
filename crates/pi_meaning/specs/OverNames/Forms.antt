-- Calls that are forms of control, and how the arguments of other calls are read (A User's Guide to Picat, 'Goals', 'Exceptions' and 'Constraints'; which is which
-- is own).
use Rattle.std.specs.Prelude.{ℕ, ◌==◌, ◌&&◌, ◌||◌, Bool, cond, List, [], ◌∷◌, Option, Some, None, codes}
use Rattle.std.specs.Str.{bytes_eq}
use Rattle.pi_terms.specs.Tree.{comp}
use Rattle.pi_syntax.specs.Tokens.{is_one_of}
use Rattle.pi_traces.specs.Trace.{done, one}
use Rattle.pi_effects.specs.Indexing.{index_name}
use Rattle.pi_meaning.specs.Shared.Names.{is_catch, is_call}
use Rattle.pi_meaning.specs.Shared.Given.{Setting}
use Rattle.pi_meaning.specs.OverNames.Control.{Goal, Value, Values, no_goal, nothing, in_front, made_of, applied_to, all_found, all_counted, called_with, calling_term, denying, taken_once, assigning, catching, goal_at, value_at}

-- ---- goals

pub data Form : Type 0 where
  negation : Form
  once : Form
  assignment : Form
  catch : Form
  by_term : Form
  -- `in`, of an iterator
  membership : Form

unfoldable pub form_of : List ℕ → ℕ → Option Form
form_of name k =
    cond (k == 1 && bytes_eq name (codes "not")) (Some negation)
    (cond (k == 1 && bytes_eq name (codes "once")) (Some once)
    (cond (k == 2 && bytes_eq name (codes ":=")) (Some assignment)
    (cond (is_catch name k) (Some catch)
    (cond (is_call name k) (Some by_term)
    (cond (k == 2 && bytes_eq name (codes "in")) (Some membership) None)))))

-- a call's arguments: the variable that stands first, where one does; each as a goal and as an expression; each as an expression that is evaluated behind those that the
-- first one stands before; and all of them as expressions from the left
pub record Parts : Type 0 where
  pub variable : Option (List ℕ)
  pub goals : List Goal
  pub values : List Value
  pub late : List Value
  pub all : Values

-- a call as a goal, behind its draining
abbrev pub call_goal : Setting → List ℕ → Option Form → Parts → Goal
call_goal set name None parts = called_with set name parts.all
call_goal set name (Some negation) parts = denying (goal_at parts.goals 0)
call_goal set name (Some once) parts = taken_once (goal_at parts.goals 0)
call_goal set name (Some assignment) parts = assigning parts.variable (value_at parts.values 1)
call_goal set name (Some catch) parts = catching (goal_at parts.goals 0) (value_at parts.values 1) (goal_at parts.goals 2)
call_goal set name (Some by_term) parts = calling_term set parts.all
call_goal set name (Some membership) parts = no_goal

-- `true` has one answer, `fail` has none, any other atom is a call
unfoldable pub atom_goal : Setting → List ℕ → Goal
atom_goal set name l p =
    cond (bytes_eq name (codes "true")) (one p) (cond (bytes_eq name (codes "fail")) done (called_with set name nothing l p))

-- ---- arguments

-- an expression is evaluated; as an operand of a constraint its sums and products stay as structure, as an operand of a sign between constraints such signs and relations
-- of constraints; as the right side of `::` and `notin` a range stays as one
pub data Reading : Type 0 where
  plain : Reading
  operand : Reading
  boolean : Reading
  ranged : Reading

abbrev pub is_constraint : List ℕ → ℕ → Bool
is_constraint name k = k == 2 && is_one_of (codes "#=" ∷ codes "#!=" ∷ codes "#<" ∷ codes "#=<" ∷ codes "#<=" ∷ codes "#>" ∷ codes "#>=" ∷ []) name

-- a sign between constraints
abbrev pub is_connective : List ℕ → ℕ → Bool
is_connective name k =
    (k == 1 && bytes_eq name (codes "#~"))
    || (k == 2 && is_one_of (codes "#/\\" ∷ codes "#\\/" ∷ codes "#^" ∷ codes "#=>" ∷ codes "#<=>" ∷ []) name)

abbrev pub is_within : List ℕ → ℕ → Bool
is_within name k = k == 2 && is_one_of (codes "::" ∷ codes "notin" ∷ []) name

-- how the arguments of a goal are read, from the left; those past the list plainly
unfoldable pub readings : List ℕ → ℕ → List Reading
readings name k =
    cond (is_constraint name k) (operand ∷ operand ∷ [])
    (cond (is_connective name k) (boolean ∷ boolean ∷ [])
    (cond (is_within name k) (plain ∷ ranged ∷ []) []))

abbrev pub first_reading : List Reading → Reading
first_reading [] = plain
first_reading (r ∷ rs) = r

abbrev pub later_readings : List Reading → List Reading
later_readings [] = []
later_readings (r ∷ rs) = rs

-- nodes of an operand that stay as structure, over operands; and `sum`, over what its argument is evaluated to
abbrev pub is_operand_node : List ℕ → ℕ → Bool
is_operand_node name k =
    (k == 1 && is_one_of (codes "+" ∷ codes "-" ∷ codes "abs" ∷ []) name) || (k == 2 && is_one_of (codes "+" ∷ codes "-" ∷ codes "*" ∷ []) name)

abbrev pub is_sum : List ℕ → ℕ → Bool
is_sum name k = k == 1 && bytes_eq name (codes "sum")

unfoldable pub operand_readings : Reading → List ℕ → ℕ → List Reading
operand_readings plain name k = []
operand_readings ranged name k = []
operand_readings operand name k = cond (is_operand_node name k) (operand ∷ operand ∷ []) []
operand_readings boolean name k = cond (is_connective name k) (boolean ∷ boolean ∷ []) (cond (is_constraint name k) (operand ∷ operand ∷ []) [])

-- expressions that have a goal in them
abbrev pub is_find_all : List ℕ → ℕ → Bool
is_find_all name k = k == 2 && bytes_eq name (codes "find_all")

abbrev pub is_count_all : List ℕ → ℕ → Bool
is_count_all name k = k == 1 && bytes_eq name (codes "count_all")

-- a call as an expression: `find_all` and `count_all` have a goal in them; any other is a function's
abbrev pub function_value : Setting → List ℕ → ℕ → Parts → Value
function_value set name k parts =
    cond (is_find_all name k) (all_found (value_at parts.late 0) (goal_at parts.goals 1))
    (cond (is_count_all name k) (all_counted (goal_at parts.goals 0)) (applied_to set name parts.all))

unfoldable pub call_value : Setting → Reading → List ℕ → ℕ → Parts → Value
call_value set plain name k parts = function_value set name k parts
call_value set ranged name k parts = function_value set name k parts
call_value set operand name k parts = cond (is_operand_node name k || is_sum name k) (made_of (comp name) parts.all) (function_value set name k parts)
call_value set boolean name k parts = cond (is_connective name k || is_constraint name k) (made_of (comp name) parts.all) (function_value set name k parts)

-- bounds and step in the order in which they are written
unfoldable pub range_value : Setting → Reading → Values → Value
range_value set plain vs = applied_to set (codes "..") vs
range_value set operand vs = applied_to set (codes "..") vs
range_value set boolean vs = applied_to set (codes "..") vs
range_value set ranged vs = made_of (comp (codes "..")) vs

-- one index after the other
unfoldable pub indexed_by : Setting → Value → List Value → Value
indexed_by set v [] = v
indexed_by set v (i ∷ is) = indexed_by set (applied_to set index_name (in_front v (in_front i nothing))) is
