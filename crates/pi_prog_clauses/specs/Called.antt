-- The calls of the code as those of the definition, and what calls a walk has ahead of it.
use Rattle.std.specs.Prelude.{true, false, List, [], ◌∷◌, ◌++◌, codes}
use Rattle.pi_prog_clauses.specs.Calls.{Named, named, planner_calls, goal_calls, operand_calls, calls_among}
use Rattle.pi_prog_clauses.specs.Form.{Form, plain, calling}
use Rattle.pi_prog_clauses.specs.Places.{Place, goal, asked, expression, operand, iterator, term, pattern}
use Rattle.pi_prog_clauses.specs.Walk.{nodes_ahead}
use Rattle.pi_prog_clauses.specs.declared.names.calls.Called.{Called}
use Rattle.pi_prog_clauses.specs.declared.names.calls.Calls.{Calls}
use Rattle.pi_prog_clauses.specs.declared.names.calls.NodeCalls.{NodeCalls}
use Rattle.pi_prog_clauses.specs.declared.names.calls.NodeCalls.TheVariants as node
use Rattle.pi_prog_clauses.specs.declared.names.calls.Pending.{Pending}
use Rattle.pi_prog_clauses.specs.declared.names.calls.Pending.TheVariants as pending

abbrev pub named_by : Called → Named
named_by c = named c.name.now c.arity c.is_function

-- what a node calls
abbrev pub shown_calls : NodeCalls → List Named
shown_calls node.Nothing = []
shown_calls (node.One c) = named_by c ∷ []
shown_calls (node.Planner c) = named_by c ∷ planner_calls

-- what is left of the last planner call
abbrev pub pending_calls : Pending → List Named
pending_calls pending.Nothing = []
pending_calls pending.Final = planner_calls
pending_calls pending.Action = named (codes "action") 4 false ∷ []

abbrev pub calls_ahead : Calls → List Named
calls_ahead c = pending_calls c.pending ++ calls_among (nodes_ahead c.walk)

-- ---- what a node calls, by its form

abbrev pub calls_of_goal_form : Form → List Named
calls_of_goal_form (plain name) = goal_calls name 0
calls_of_goal_form (calling name arity es) = goal_calls name arity
calls_of_goal_form f = []

abbrev pub calls_of_expression_form : Form → List Named
calls_of_expression_form (calling name arity es) = named name arity true ∷ []
calls_of_expression_form f = []

abbrev pub calls_of_operand_form : Form → List Named
calls_of_operand_form (calling name arity es) = operand_calls name arity
calls_of_operand_form f = []

abbrev pub calls_of_form : Place → Form → List Named
calls_of_form (goal assigns) f = calls_of_goal_form f
calls_of_form asked f = calls_of_goal_form f
calls_of_form iterator f = calls_of_goal_form f
calls_of_form expression f = calls_of_expression_form f
calls_of_form operand f = calls_of_operand_form f
calls_of_form term f = []
calls_of_form (pattern quoted) f = []
