-- What the flat tables of a program stand for, where the terms of the store are known: the term that an operand is, and
-- the goal that stands at a place among the steps.
use Rattle.std.specs.Prelude.{◌≡◌, ℕ, ◌+◌, ◌-◌, ◌^◌, ◌<◌, List, [], ◌∷◌, ◌++◌, Option, map, take, drop, slice_index_or, unwrap_or, codes}
use Rattle.pi_terms.specs.Tree.{Tree, Trees, no_trees, tree, var, atom, comp, drop_trees}
use Rattle.pi_terms.specs.TermCells.{take_trees, first_tree}
use Rattle.pi_core.specs.GoalTree.{GoalTree, nodes, nodes_all, take_goals, children}
use Rattle.pi_core.specs.GoalCells.{flat}
use Rattle.pi_constraints.specs.declared.store.Ref.{Ref}
use Rattle.pi_core.specs.declared.goal_node.GoalKind.{GoalKind}
use Rattle.pi_core.specs.declared.goal_node.GoalCell.{GoalCell}
use Rattle.pi_core.specs.declared.core_program.CorePred.{CorePred}
use Rattle.pi_engine_code.specs.declared.code.Operand.{Operand}
use Rattle.pi_engine_code.specs.declared.code.Part.{Part}
use Rattle.pi_engine_code.specs.declared.code.Node.{Node}
use Rattle.pi_engine_code.specs.declared.code.Step.{Step}
use Rattle.pi_engine_code.specs.declared.code.Code.{Code}

-- the terms of the store by the numbers of their Refs, the tables that operands are read in, and the names and arities of
-- the predicates by their numbers
pub record Tables : Type 0 where
  pub terms : ℕ → Option Tree
  pub operands : List Operand
  pub parts : List Part
  pub names : List (List ℕ)
  pub called : List (List ℕ)
  pub arities : List ℕ

abbrev pub preds_of : Code → List CorePred
preds_of code = code.core.now.preds ++ code.helpers

abbrev pub tables_of : (ℕ → Option Tree) → Code → Tables
tables_of terms code = record {
  terms = terms;
  operands = code.operands.items;
  parts = code.parts.items;
  names = code.names.items;
  called = map (λ p. p.name) (preds_of code);
  arities = map (λ p. p.arity) (preds_of code);
}

-- the term of a Ref; one that the store did not give has none, and stands for no name
abbrev pub term_at : Tables → Ref → Tree
term_at t r = unwrap_or (t.terms r.number) (atom [])

-- a part in front of the terms that the parts behind it spell
abbrev pub with_part : Tables → Part → Trees → Trees
with_part t (Part.Slot k) ts = tree (var k) ts
with_part t (Part.Known r) ts = tree (term_at t r) ts
with_part t (Part.Compound i k) ts = tree (comp (slice_index_or t.names i []) (take_trees k ts)) (drop_trees k ts)

unfoldable pub spelled_parts : Tables → List Part → Trees
spelled_parts t [] = no_trees
spelled_parts t (p ∷ ps) = with_part t p (spelled_parts t ps)

-- the term that an operand is, with slots as variables
unfoldable pub operand_tree : Tables → Operand → Tree
operand_tree t (Operand.Slot k) = var k
operand_tree t (Operand.Known r) = term_at t r
operand_tree t (Operand.Made from to) = first_tree (spelled_parts t (take (to - from) (drop from t.parts)))

-- the terms of a call whose arguments begin at an operand
abbrev pub arguments : Tables → ℕ → ℕ → List Tree
arguments t predicate first = map (operand_tree t) (take (slice_index_or t.arities predicate 0) (drop first t.operands))

-- the terms of so many operands from one on
abbrev pub operand_trees : Tables → ℕ → ℕ → List Tree
operand_trees t first count = map (operand_tree t) (take count (drop first t.operands))

-- the kind of goal that a node is; the value behind a function's body is no goal, and counts as `true`
unfoldable pub node_kind : Tables → Node → GoalKind
node_kind t Node.True = GoalKind.True
node_kind t Node.Fail = GoalKind.Fail
node_kind t Node.Tick = GoalKind.Tick
node_kind t (Node.Seq k) = GoalKind.Seq k
node_kind t (Node.Alt k) = GoalKind.Alt k
node_kind t Node.If = GoalKind.If
node_kind t Node.Not = GoalKind.Not
node_kind t Node.Once = GoalKind.Once
node_kind t (Node.Collect value into) = GoalKind.Collect value into
node_kind t (Node.Count into) = GoalKind.Count into
node_kind t (Node.Catch ball) = GoalKind.Catch (operand_tree t ball)
node_kind t (Node.Unify left right) = GoalKind.Call (codes "=") (operand_tree t left ∷ operand_tree t right ∷ [])
node_kind t (Node.Throw ball) = GoalKind.Call (codes "throw") (operand_tree t ball ∷ [])
node_kind t (Node.Call p first) = GoalKind.Call (slice_index_or t.called p []) (arguments t p first)
node_kind t (Node.Apply p first slot) = GoalKind.Apply (slice_index_or t.called p []) (arguments t p first) slot
node_kind t (Node.Value value) = GoalKind.True
node_kind t (Node.BuiltIn p name first arity) = GoalKind.Call (slice_index_or t.names name []) (operand_trees t first arity)
node_kind t (Node.BuiltInValue f name first arity slot) = GoalKind.Apply (slice_index_or t.names name []) (operand_trees t first arity) slot
node_kind t (Node.Constrain g name first arity) = GoalKind.Call (slice_index_or t.names name []) (operand_trees t first arity)
node_kind t (Node.DomainValue f name first arity slot) = GoalKind.Apply (slice_index_or t.names name []) (operand_trees t first arity) slot
node_kind t (Node.Solve name first arity) = GoalKind.Call (slice_index_or t.names name []) (operand_trees t first arity)
node_kind t (Node.CallTerm first count) = GoalKind.Call (codes "call") (operand_trees t first count)

-- a step as a cell of a goal
unfoldable pub step_cell : Tables → Step → GoalCell
step_cell t s = record { kind = node_kind t s.node; size = s.size }

-- a goal stands at a place: the steps from there on begin with its cells; its places have 32 bits
pub record StandsAt (t : Tables) (steps : List Step) (place : ℕ) (g : GoalTree) : Type 0 where
  pub cells : take (nodes g) (map (step_cell t) (drop place steps)) ≡ flat g
  pub fits : place + nodes g < 2 ^ 32

-- where a child goal begins
abbrev pub child_place : GoalTree → ℕ → ℕ → ℕ
child_place g place k = place + 1 + nodes_all (take_goals k (children g))
