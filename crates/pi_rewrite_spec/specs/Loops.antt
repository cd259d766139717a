-- Loops as quiet helpers, of what stands in them. A helper has a slot for each name that is handed on from turn to turn, and one for each variable that stands for a name behind the
-- loop; all other names are local to a turn. (Own.)
use Rattle.std.specs.Prelude.{ℕ, zero, suc, ◌+◌, Bool, true, false, List, [], ◌∷◌, ◌++◌, length, map, None, codes}
use Rattle.pi_terms.specs.Tree.{Tree}
use Rattle.pi_terms.specs.PatternTree.{slot, PatternTrees, no_patterns, pattern}
use Rattle.pi_effects.specs.Inner.{itself_name, in_order_name}
use Rattle.pi_syntax.specs.ExpTree.{var, array, ExpTrees, no_exps, exp}
use Rattle.pi_core.specs.GoalTree.{GoalTree}
use Rattle.pi_core.specs.CoreTree.{ClauseTree, PredTree}
use Rattle.pi_meaning.specs.OverNames.Texts.{Names}
use Rattle.pi_rewrite_spec.specs.Slots.{SlotNames, with_value, slot_for}
use Rattle.pi_rewrite_spec.specs.Values.{SlotValue, slot_term, filled_before}
use Rattle.pi_rewrite_spec.specs.Goals.{SlotGoals, in_turn}

-- ---- slots

-- the slots of names
abbrev pub slots_for_names : Names → SlotNames → List Tree
slots_for_names names ns = map (λ name. Tree.var (slot_for name ns)) names

-- so many slots from one on, as terms and in a head
unfoldable pub slots_from : ℕ → ℕ → List Tree
slots_from k zero = []
slots_from k (suc n) = Tree.var k ∷ slots_from (suc k) n

unfoldable pub slots_head : ℕ → ℕ → PatternTrees
slots_head k zero = no_patterns
slots_head k (suc n) = pattern (slot k) (slots_head (suc k) n)

-- a slot without a name for each of some names
unfoldable pub with_values : Names → SlotNames → SlotNames
with_values [] ns = ns
with_values (name ∷ names) ns = with_values names (with_value ns)

-- ---- where a loop ends

-- the value that stands behind the loop: as the name has it, or the items of a list in order, the last one first so far, as a list or as an array
pub data Ending : Type 0 where
  as_it_is : Ending
  in_order : (is_array : Bool) → Ending

-- a variable in one slot is unified with the value in another; `next` is the first slot that is free
abbrev pub ended : Ending → ℕ → ℕ → ℕ → List GoalTree
ended as_it_is variable value next = GoalTree.call (codes "=") (Tree.var variable ∷ Tree.var value ∷ []) ∷ []
ended (in_order false) variable value next = GoalTree.apply in_order_name (Tree.var value ∷ []) next ∷ GoalTree.call (codes "=") (Tree.var variable ∷ Tree.var next ∷ []) ∷ []
ended (in_order true) variable value next =
    GoalTree.apply in_order_name (Tree.var value ∷ []) next ∷ GoalTree.apply (codes "to_array") (Tree.var next ∷ []) (suc next)
    ∷ GoalTree.call (codes "=") (Tree.var variable ∷ Tree.var (suc next) ∷ []) ∷ []

-- The loop's variables, from slot k on, are unified with what the names have, one after the other.
unfoldable pub closing : Ending → Names → ℕ → ℕ → SlotNames → List GoalTree
closing ending [] k next ns = []
closing ending (name ∷ names) k next ns = ended ending k (slot_for name ns) next ++ closing ending names (suc k) (next + 2) ns

-- slots enough for that
unfoldable pub closing_slots : Names → ℕ → ℕ
closing_slots [] next = next
closing_slots (name ∷ names) next = closing_slots names (next + 2)

-- ---- helpers

abbrev pub clause_of : PatternTrees → GoalTree → ℕ → ClauseTree
clause_of head body slots = record { head = head; guard = GoalTree.truth; back = false; watches = []; body = body; value = None; slots = slots }

abbrev pub helper : List ℕ → ℕ → List ClauseTree → PredTree
helper name arity clauses = record { name = name; arity = arity; function = false; quiet = true; index = None; clauses = clauses }

-- a loop: its helper's name, the names that are handed on, those that it keeps, and how it ends
pub record Loop : Type 0 where
  pub name : List ℕ
  pub shared : Names
  pub kept : Names
  pub ending : Ending

-- the slots of a helper's head: what is handed on, and the variables of the names that the loop keeps
abbrev pub loop_slots : Loop → SlotNames
loop_slots l = with_values l.kept l.shared

-- the next turn has the slots of this one's head
abbrev pub again : Loop → GoalTree
again l = GoalTree.call l.name (slots_from 0 (length (loop_slots l)))

-- Test, Tick and body, and where the test fails the end. The Tick stands behind the test.
abbrev pub while_turn : Loop → SlotGoals → (SlotNames → SlotGoals) → PredTree
while_turn l test body =
    let ns : SlotNames = loop_slots l in
    let turn : SlotGoals = body test.names in
    helper l.name (length ns) (clause_of (slots_head 0 (length ns))
    (GoalTree.if_else (in_turn test.goals) (in_turn (GoalTree.tick ∷ turn.goals ++ again l ∷ [])) (in_turn (closing l.ending l.kept (length l.shared) (length turn.names) ns)))
    (closing_slots l.kept (length turn.names)) ∷ [])

abbrev pub while_helper : Loop → (SlotNames → SlotGoals) → (SlotNames → SlotGoals) → PredTree
while_helper l test body = while_turn l (test (loop_slots l)) body

-- Tick, body and test
abbrev pub do_turn : Loop → SlotGoals → (SlotNames → SlotGoals) → PredTree
do_turn l turn test =
    let ns : SlotNames = loop_slots l in
    let last : SlotGoals = test turn.names in
    helper l.name (length ns) (clause_of (slots_head 0 (length ns))
    (in_turn (GoalTree.tick ∷ turn.goals
    ++ GoalTree.if_else (in_turn last.goals) (again l) (in_turn (closing l.ending l.kept (length l.shared) (length last.names) ns)) ∷ [])) (closing_slots l.kept (length last.names)) ∷ [])

abbrev pub do_helper : Loop → (SlotNames → SlotGoals) → (SlotNames → SlotGoals) → PredTree
do_helper l body test = do_turn l (body (loop_slots l)) test

-- One turn, without a Tick: of a loop that begins with a test.
abbrev pub only_turn : Loop → SlotGoals → PredTree
only_turn l turn =
    let ns : SlotNames = loop_slots l in
    helper l.name (length ns)
    (clause_of (slots_head 0 (length ns)) (in_turn (turn.goals ++ closing l.ending l.kept (length l.shared) (length turn.names) ns)) (closing_slots l.kept (length turn.names)) ∷ [])

abbrev pub only_turn_helper : Loop → (SlotNames → SlotGoals) → PredTree
only_turn_helper l body = only_turn l (body (loop_slots l))

-- ---- where the loop stands

-- names as they are written
unfoldable pub as_written : Names → ExpTrees
as_written [] = no_exps
as_written (name ∷ names) = exp (var name) (as_written names)

-- names that stand before it are there when it starts
abbrev pub started : ℕ → Names → SlotNames → SlotValue
started h before ns = filled_before h (length ns) (slot_term (array (as_written before)) ns)

-- behind the loop the names that it keeps stand for their variables
unfoldable pub kept_goals : Names → ℕ → SlotNames → List GoalTree
kept_goals [] k ns = []
kept_goals (name ∷ names) k ns = GoalTree.apply itself_name (Tree.var k ∷ []) (slot_for name ns) ∷ kept_goals names (suc k) ns

-- the helper is called, with these in front of what is handed on
abbrev pub entered : Loop → List GoalTree → List Tree → SlotNames → SlotGoals
entered l goals first ns = record {
  goals = goals ++ GoalTree.call l.name (first ++ slots_for_names l.shared ns ++ slots_from (length ns) (length l.kept)) ∷ kept_goals l.kept (length ns) ns;
  names = with_values l.kept ns;
}

-- a `while`, a `do`, or a loop that begins with a test
abbrev pub loop_goals : ℕ → Names → Loop → SlotNames → SlotGoals
loop_goals h before l ns = entered l (started h before ns).goals [] (started h before ns).names
