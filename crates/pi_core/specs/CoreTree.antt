-- Programs of the core language as trees: clauses over the trees of their patterns, goals and terms. A program that a
-- call is handed is read as such a tree by `program_tree`, a query by `query_tree`, and by nothing else. The core
-- language is this project's own.
use Rattle.std.specs.Prelude.{◌==◌, ◌&&◌, true, false, cond, ℕ, Bool, List, [], ◌∷◌, map, Option, Some, None}
use Rattle.std.specs.Ordering.{is_eq}
use Rattle.pi_terms.specs.Order.{name_order}
use Rattle.pi_terms.specs.Tree.{Tree}
use Rattle.pi_core.specs.GoalTree.{GoalTree}
use Rattle.pi_terms.specs.PatternTree.{PatternTree, slot, exact_int, exact_atom, compound, named, PatternTrees, no_patterns, pattern}
use Rattle.pi_core.specs.declared.core_program.Pattern.{Pattern, Slot, Int, Atom, Comp', Named', Row_of-Pattern, end_of-Pattern, more_of-Pattern}
use Rattle.pi_core.specs.declared.core_program.SlotWatch.{SlotWatch}
use Rattle.pi_core.specs.declared.core_program.CoreClause.{CoreClause}
use Rattle.pi_core.specs.declared.core_program.CorePred.{CorePred}
use Rattle.pi_core.specs.declared.core_program.CoreProgram.{CoreProgram}
use Rattle.pi_core.specs.declared.core_program.NameSlot.{NameSlot}
use Rattle.pi_core.specs.declared.core_program.CoreQuery.{CoreQuery}
use Rattle.pi_syntax.specs.declared.program.Mode.{Mode}
use Rattle.pi_syntax.specs.declared.program.Decl.{Decl}

-- a clause; a variable k in its terms is its slot k
pub record ClauseTree : Type 0 where
  pub head : PatternTrees
  -- the condition; `truth` stands for none, and a condition that is written `true` is a `seq` of `truth` alone
  pub guard : GoalTree
  -- later clauses stay as alternatives where this one applies; it counts for no action rule and for no function's rule
  pub back : Bool
  -- the events of an action rule
  pub watches : List SlotWatch
  pub body : GoalTree
  -- a function's value
  pub value : Option Tree
  pub slots : ℕ

-- a predicate or a function
pub record PredTree : Type 0 where
  pub name : List ℕ
  pub arity : ℕ
  pub function : Bool
  -- its calls count no Tick
  pub quiet : Bool
  -- the mode lists of its `index`: its clauses are facts
  pub index : Option (List (List Mode))
  pub clauses : List ClauseTree

pub record QueryTree : Type 0 where
  pub goal : GoalTree
  pub helpers : List PredTree
  -- named variables, each with the slot of its last value
  pub names : List NameSlot
  pub slots : ℕ

-- The tree that a pattern is. (A `Row_of-Pattern` is the list of a `Vec`; where it lies in memory counts for nothing.)
unfoldable mutual
  pub pattern_tree : Pattern → PatternTree
  pattern_tree (Slot k) = slot k
  pattern_tree (Int n) = exact_int n
  pattern_tree (Atom name) = exact_atom name
  pattern_tree (Comp' name place ps) = compound name (pattern_row ps)
  pattern_tree (Named' k place p) = named k (pattern_tree p)

  pub pattern_row : {m : _} → Row_of-Pattern m → PatternTrees
  pattern_row end_of-Pattern = no_patterns
  pattern_row (more_of-Pattern p ps) = pattern (pattern_tree p) (pattern_row ps)

unfoldable pub pattern_trees : List Pattern → PatternTrees
pattern_trees [] = no_patterns
pattern_trees (p ∷ ps) = pattern (pattern_tree p) (pattern_trees ps)

-- the mode lists of a declaration; an `import` says nothing of the clause that it stands before, so that this is a rule as
-- one without a declaration is
abbrev pub index_of : Decl → Option (List (List Mode))
index_of Decl.Plain = None
index_of (Decl.Import names) = None
index_of (Decl.Index lists) = Some lists

abbrev pub clause_tree : CoreClause → ClauseTree
clause_tree c = record { head = pattern_trees c.head.items; guard = c.guard; back = c.back; watches = c.watches; body = c.body; value = c.value; slots = c.slots }

abbrev pub pred_tree : CorePred → PredTree
pred_tree p = record { name = p.name; arity = p.arity; function = p.function; quiet = p.quiet; index = index_of p.decl; clauses = map clause_tree p.clauses }

-- a program: its predicates and functions, in order
abbrev pub program_tree : CoreProgram → List PredTree
program_tree p = map pred_tree p.preds

abbrev pub query_tree : CoreQuery → QueryTree
query_tree q = record { goal = q.goal; helpers = map pred_tree q.helpers; names = q.names; slots = q.slots }

abbrev pub is_pred : Bool → List ℕ → ℕ → PredTree → Bool
is_pred true name k pred = pred.function && (is_eq (name_order pred.name name) && (pred.arity == k))
is_pred false name k pred = cond pred.function false (is_eq (name_order pred.name name) && (pred.arity == k))

unfoldable pub find_pred : Bool → List ℕ → ℕ → List PredTree → Option PredTree
find_pred function name k [] = None
find_pred function name k (pred ∷ preds) = cond (is_pred function name k pred) (Some pred) (find_pred function name k preds)

-- a predicate's rule with these events is backtrackable
abbrev pub backtracks : Bool → List SlotWatch → Bool
backtracks back [] = back
backtracks back (w ∷ ws) = false

-- whether the rules behind one that applies stay as alternatives: not in a function
abbrev pub leaves_others : Bool → ClauseTree → Bool
leaves_others true c = false
leaves_others false c = backtracks c.back c.watches
