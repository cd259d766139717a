-- What clauses are made of, of the goals of their parts, and the predicates and functions that clauses make which stand together. `Programs` has the clauses of a text. (Own.)
use Rattle.std.specs.Prelude.{ℕ, Bool, true, false, ◌&&◌, cond, List, [], ◌∷◌, ◌++◌, length, Option, Some, None}
use Rattle.pi_syntax.specs.ExpTree.{ExpTree}
use Rattle.pi_syntax.specs.ProgramTree.{RuleTree, FunctionTree}
use Rattle.pi_syntax.specs.Signature.{Signature}
use Rattle.pi_syntax.specs.declared.program.Mode.{Mode}
use Rattle.pi_core.specs.GoalTree.{GoalTree, truth, seq, goals_of}
use Rattle.pi_core.specs.CoreTree.{ClauseTree, PredTree}
use Rattle.pi_meaning.specs.OverNames.WrittenRules.{is_signature, head_arguments}
use Rattle.pi_rewrite_spec.specs.Values.{SlotValue, SlotPatterns, slot_patterns}
use Rattle.pi_rewrite_spec.specs.Goals.{SlotGoals, in_turn}

-- ---- clauses

-- the patterns of a head
abbrev pub head_forms : ExpTree → SlotPatterns
head_forms head = slot_patterns (head_arguments head) []

-- how many slots a head fills
abbrev pub head_slots : ExpTree → ℕ
head_slots head = length (head_forms head).names

abbrev pub is_truth : GoalTree → Bool
is_truth truth = true
is_truth g = false

-- a condition that is written `true` is no missing one
abbrev pub as_guard : GoalTree → GoalTree
as_guard g = cond (is_truth g) (seq (goals_of (truth ∷ []))) g

abbrev pub guard_of : Option ExpTree → SlotGoals → GoalTree
guard_of None gs = truth
guard_of (Some c) gs = as_guard (in_turn gs.goals)

abbrev pub rule_with : RuleTree → ℕ → SlotPatterns → SlotGoals → SlotGoals → ClauseTree
rule_with r h head guard body = record {
  head = head.forms;
  guard = guard_of r.cond guard;
  back = r.back;
  watches = [];
  body = in_turn body.goals;
  value = None;
  slots = length body.names;
}

-- a function's value is evaluated behind its body
abbrev pub function_with : FunctionTree → SlotPatterns → SlotGoals → SlotGoals → SlotValue → ClauseTree
function_with f head guard body value = record {
  head = head.forms;
  guard = guard_of f.cond guard;
  back = false;
  watches = [];
  body = in_turn (body.goals ++ value.goals);
  value = Some value.tree;
  slots = length value.names;
}

-- A fact is a head, whose patterns are unified with a call.
unfoldable pub lowered_fact : ExpTree → ClauseTree
lowered_fact head = record { head = (head_forms head).forms; guard = truth; back = false; watches = []; body = truth; value = None; slots = head_slots head }

-- ---- programs

-- the predicate or the function of a head; of what is none, one without a name
abbrev pub named_by : Option Signature → Signature
named_by None = record { name = []; arity = 0 }
named_by (Some s) = s

-- a clause with what it is of, and of a fact the mode lists before it
pub record Lowering : Type 0 where
  pub is_function : Bool
  pub head : Signature
  pub modes : Option (List (List Mode))
  pub clause : ClauseTree

-- A predicate or function with this clause, and with one clause more. The mode lists of a predicate stand before its first fact.
abbrev pub with_first : Lowering → PredTree
with_first c = record { name = c.head.name; arity = c.head.arity; function = c.is_function; quiet = false; index = c.modes; clauses = c.clause ∷ [] }

abbrev pub with_next : PredTree → ClauseTree → PredTree
with_next p c = record { name = p.name; arity = p.arity; function = p.function; quiet = p.quiet; index = p.index; clauses = p.clauses ++ c ∷ [] }

abbrev pub same_kind : Bool → Bool → Bool
same_kind true b = b
same_kind false true = false
same_kind false false = true

abbrev pub is_clause_of : PredTree → Lowering → Bool
is_clause_of p c = same_kind p.function c.is_function && is_signature p.name p.arity (Some c.head)

-- a predicate with the clauses that it has so far, and the clauses behind them: each that is of it goes on with it
unfoldable pub grouped : PredTree → List Lowering → List PredTree
grouped p [] = p ∷ []
grouped p (c ∷ cs) = cond (is_clause_of p c) (grouped (with_next p c.clause) cs) (p ∷ grouped (with_first c) cs)

-- clauses that stand together make a predicate or a function
abbrev pub grouped_all : List Lowering → List PredTree
grouped_all [] = []
grouped_all (c ∷ cs) = grouped (with_first c) cs
