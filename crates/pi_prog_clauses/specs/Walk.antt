-- What a walk through the nodes of a clause has ahead of it.
use Rattle.std.specs.Prelude.{ℕ, suc, ◌-◌, List, [], ◌∷◌, ◌++◌, Option, option_map}
use Rattle.std.specs.declared.alloc.Global.{Global}
use Rattle.std.specs.declared.boxed.Box.{Box}
use Rattle.pi_syntax.specs.ExpLists.{exps_of}
use Rattle.pi_syntax.specs.ExpTree.{ExpTree, ExpTrees, no_exps, exp, ExpBranches, no_branches, branch, exp_tree}
use Rattle.pi_syntax.specs.Signature.{exp_count}
use Rattle.pi_syntax.specs.declared.exp.Exp.{Exp}
use Rattle.pi_prog_clauses.specs.Places.{Place, goal, asked, expression, operand, iterator, term, pattern, argument, Placed, placed_at, placed, all_placed}
use Rattle.pi_prog_clauses.specs.declared.nodes.place.Place.{Place as CodePlace}
use Rattle.pi_prog_clauses.specs.declared.nodes.place.Place.TheVariants as code
use Rattle.pi_prog_clauses.specs.declared.nodes.walk.Node.{Node}
use Rattle.pi_prog_clauses.specs.declared.nodes.row.Row.{Row}
use Rattle.pi_prog_clauses.specs.declared.nodes.row.Side.{Side}
use Rattle.pi_prog_clauses.specs.declared.nodes.row.Side.TheVariants as side
use Rattle.pi_prog_clauses.specs.declared.nodes.walk.Walk.{Walk}

-- the place that the code names
abbrev pub shown_place : CodePlace → Place
shown_place (code.Goal assigns) = goal assigns
shown_place code.Asked = asked
shown_place code.Expression = expression
shown_place code.Operand = operand
shown_place code.Iterator = iterator
shown_place code.Term = term
shown_place (code.Pattern quoted) = pattern quoted

-- a node of the code
abbrev pub shown_node : Node → Placed
shown_node n = placed_at (shown_place n.place) (exp_tree n.exp.now)

-- where the first stands of nodes that stand side by side, behind which so many stand
abbrev pub side_place : Side → ℕ → Place
side_place (side.Alike p) behind = shown_place p
side_place (side.Arguments p name arity) behind = argument (shown_place p) name.now arity (arity - suc behind)

-- the last arguments of a call, with the nodes below them
unfoldable pub last_placed : Place → List ℕ → ℕ → ExpTrees → List Placed
last_placed p name arity no_exps = []
last_placed p name arity (exp e es) = placed (argument p name arity (arity - suc (exp_count es))) e ++ last_placed p name arity es

-- nodes that stand side by side, with the nodes below them
abbrev pub side_placed : Side → ExpTrees → List Placed
side_placed (side.Alike p) es = all_placed (shown_place p) es
side_placed (side.Arguments p name arity) es = last_placed (shown_place p) name.now arity es

abbrev pub all_of_row : Row → List Placed
all_of_row r = side_placed r.side (exp (exp_tree r.first.now) (exps_of r.others.now))

-- a stack's last row is the first one ahead
abbrev pub stacked : List Row → List Placed
stacked [] = []
stacked (r ∷ rs) = stacked rs ++ all_of_row r

abbrev pub nodes_ahead : Walk → List Placed
nodes_ahead w = stacked w.stack.items

-- what an optional box holds
abbrev pub held_exp : Option (Box Exp Global) → Option ExpTree
held_exp held = option_map (λ (b : Box Exp Global). exp_tree b.value) held

-- conditions with their bodies
abbrev pub branches_of : List (Exp × Exp) → ExpBranches
branches_of [] = no_branches
branches_of (b ∷ bs) = branch (exp_tree b.0) (exp_tree b.1) (branches_of bs)
