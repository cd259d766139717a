-- The names that goals and expressions call, in the order of the text, and which of them are known. (A User's Guide to Picat,
-- 'Predicates and Functions'; that a program with an unknown name is refused before it runs is own.)
use Rattle.std.specs.Prelude.{ℕ, Bool, true, false, not, ◌&&◌, ◌||◌, ◌==◌, nat_le, if◌then◌else◌, List, [], ◌∷◌, ◌++◌, Option, Some, None, codes}
use Rattle.std.specs.List.{list_any}
use Rattle.std.specs.Str.{bytes_eq}
use Rattle.pi_syntax.specs.declared.builtin.BuiltinKind.{BuiltinKind}
use Rattle.pi_syntax.specs.Forms.{is_form}
use Rattle.pi_syntax.specs.Names.{kind_of}
use Rattle.pi_syntax.specs.ExpTree.{ExpTree, atom, call}
use Rattle.pi_syntax.specs.Signature.{exp_count}
use Rattle.pi_prog_clauses.specs.Operators.{is_boolean_call}
use Rattle.pi_prog_clauses.specs.Places.{Place, goal, asked, expression, operand, iterator, term, pattern, Placed}

-- a name and number of arguments, as a function's or as a predicate's
pub record Named : Type 0 where
  pub name : List ℕ
  pub arity : ℕ
  pub function : Bool

abbrev pub named : List ℕ → ℕ → Bool → Named
named name arity function = record { name = name; arity = arity; function = function }

-- a planner call calls `final/1` and `action/4` too
abbrev pub is_planner_call : List ℕ → ℕ → Bool
is_planner_call name arity = (bytes_eq name (codes "plan") || bytes_eq name (codes "best_plan")) && (nat_le 2 arity && nat_le arity 4)

abbrev pub planner_calls : List Named
planner_calls = named (codes "final") 1 false ∷ named (codes "action") 4 false ∷ []

-- what a goal calls that has this name
abbrev pub goal_calls : List ℕ → ℕ → List Named
goal_calls name arity =
    if is_form name arity then []
    else if is_planner_call name arity then named name arity false ∷ planner_calls
    else named name arity false ∷ []

abbrev pub calls_of_goal : ExpTree → List Named
calls_of_goal (atom name) = goal_calls name 0
calls_of_goal (call name es) = goal_calls name (exp_count es)
calls_of_goal e = []

-- an atom is a value
abbrev pub calls_of_expression : ExpTree → List Named
calls_of_expression (call name es) = named name (exp_count es) true ∷ []
calls_of_expression e = []

-- between the signs of constraints a relation of constraints and such a sign are called as goals
abbrev pub operand_calls : List ℕ → ℕ → List Named
operand_calls name arity = named name arity (not (is_boolean_call name arity)) ∷ []

abbrev pub calls_of_operand : ExpTree → List Named
calls_of_operand (call name es) = operand_calls name (exp_count es)
calls_of_operand e = []

abbrev pub calls_at : Place → ExpTree → List Named
calls_at (goal assigns) e = calls_of_goal e
calls_at asked e = calls_of_goal e
calls_at iterator e = calls_of_goal e
calls_at expression e = calls_of_expression e
calls_at operand e = calls_of_operand e
calls_at term e = []
calls_at (pattern quoted) e = []

abbrev pub node_calls : Placed → List Named
node_calls n = calls_at n.place n.node

-- all that these nodes call
abbrev pub calls_among : List Placed → List Named
calls_among [] = []
calls_among (n ∷ nodes) = node_calls n ++ calls_among nodes

-- ---- known names

abbrev pub is_kind : Bool → Option BuiltinKind → Bool
is_kind function None = false
is_kind function (Some BuiltinKind.Function) = function
is_kind function (Some BuiltinKind.Predicate) = not function
is_kind function (Some BuiltinKind.Prelude) = not function

abbrev pub same_bool : Bool → Bool → Bool
same_bool true b = b
same_bool false b = not b

abbrev pub same_named : Named → Named → Bool
same_named a b = bytes_eq a.name b.name && (a.arity == b.arity && same_bool a.function b.function)

-- built in or defined, and of the kind that it is called as
abbrev pub is_known : List Named → Named → Bool
is_known defined c = is_kind c.function (kind_of c.name c.arity) || list_any (same_named c) defined

-- the first that isn't
abbrev pub first_unknown : List Named → List Named → Option Named
first_unknown defined [] = None
first_unknown defined (c ∷ cs) = if is_known defined c then first_unknown defined cs else Some c
