-- Iterators as quiet helpers: one that takes the next element, and one that matches it. A list is walked by its cells and an array by an index, both in place. (Own.)
use Rattle.std.specs.Prelude.{Bool, ℕ, suc, ◌+◌, ◌-◌, cond, pos, List, [], ◌∷◌, ◌++◌, length, map, replicate, codes}
use Rattle.pi_terms.specs.Tree.{Tree}
use Rattle.pi_terms.specs.ListNames.{nil, cell_name}
use Rattle.pi_terms.specs.PatternTree.{slot, exact_atom, compound, no_patterns, pattern}
use Rattle.pi_effects.specs.Indexing.{index_name}
use Rattle.pi_syntax.specs.ExpTree.{ExpTree}
use Rattle.pi_core.specs.GoalTree.{GoalTree}
use Rattle.pi_core.specs.CoreTree.{ClauseTree, PredTree}
use Rattle.pi_meaning.specs.OverNames.Texts.{Names, is_among}
use Rattle.pi_rewrite_spec.specs.Slots.{SlotNames, unnamed, with_value}
use Rattle.pi_rewrite_spec.specs.Values.{SlotPattern, slot_pattern, SlotValue}
use Rattle.pi_rewrite_spec.specs.Goals.{SlotGoals, in_turn, just, choosing}
use Rattle.pi_rewrite_spec.specs.Loops.{Loop, slots_from, slots_head, with_values, closing, closing_slots, clause_of, helper, started, entered}

-- ---- slots

-- what a helper is handed in front of the names: what is left of a list, or the array; the number of the next item, and the first one past all
abbrev pub walk_slots : ℕ
walk_slots = 3

abbrev pub handed : Loop → ℕ
handed l = walk_slots + length l.shared + length l.kept

-- The slots of a turn: those of the pattern, of the walk, of what is handed on, and of the variables of the names that the loop keeps.
abbrev pub turn_slots : Loop → SlotPattern → SlotNames
turn_slots l p = with_values l.kept (p.names ++ replicate walk_slots unnamed ++ l.shared)

-- slots of the walk and of what is handed on, in a clause without a pattern
abbrev pub end_slots : ℕ → Loop → SlotNames
end_slots first l = with_values l.kept (replicate first unnamed ++ l.shared)

-- ---- turns

-- an element that matches has a turn; one that doesn't is passed over
abbrev pub turn_clause : Loop → SlotPattern → SlotGoals → ClauseTree
turn_clause l p turn =
    clause_of (pattern p.form (slots_head (length p.names) (handed l))) (in_turn (turn.goals ++ GoalTree.call l.name (slots_from (length p.names) (handed l)) ∷ [])) (length turn.names)

abbrev pub turn_helper : List ℕ → Loop → ExpTree → (SlotNames → SlotGoals) → PredTree
turn_helper name l e body =
    let p : SlotPattern = slot_pattern e [] in
    helper name (suc (handed l))
    (turn_clause l p (body (turn_slots l p)) ∷ clause_of (slots_head 0 (suc (handed l))) (GoalTree.call l.name (slots_from 1 (handed l))) (suc (handed l)) ∷ [])

-- ---- elements

abbrev pub tick_then : List GoalTree → GoalTree
tick_then gs = in_turn (GoalTree.tick ∷ gs)

-- a list cell: its item, and then the rest; the number of the next item and of all count for arrays alone
abbrev pub cell_clause : List ℕ → Loop → ClauseTree
cell_clause turn l =
    clause_of (pattern (compound cell_name (pattern (slot 0) (pattern (slot 1) no_patterns))) (slots_head 2 (handed l - 1)))
    (tick_then (GoalTree.call turn (slots_from 0 (suc (handed l))) ∷ [])) (suc (handed l))

-- the list's end
abbrev pub nil_clause : Loop → ClauseTree
nil_clause l =
    let ns : SlotNames = end_slots 2 l in
    clause_of (pattern (exact_atom nil) (slots_head 0 (handed l - 1))) (in_turn (closing l.ending l.kept (2 + length l.shared) (length ns) ns)) (closing_slots l.kept (length ns))

-- an array
abbrev pub array_clause : List ℕ → Loop → ClauseTree
array_clause turn l =
    let ns : SlotNames = end_slots walk_slots l in
    let item : ℕ = length ns in
    clause_of (slots_head 0 (handed l))
    (GoalTree.if_else (GoalTree.call (codes "<") (Tree.var 1 ∷ Tree.var 2 ∷ []))
    (tick_then (GoalTree.apply index_name (Tree.var 0 ∷ Tree.var 1 ∷ []) item ∷ GoalTree.apply (codes "+") (Tree.var 1 ∷ Tree.int (pos 1) ∷ []) (suc item)
    ∷ GoalTree.call turn (Tree.var item ∷ Tree.var 0 ∷ Tree.var (suc item) ∷ slots_from 2 (handed l - 2)) ∷ []))
    (in_turn (closing l.ending l.kept (walk_slots + length l.shared) (item + 2) ns))) (closing_slots l.kept (item + 2))

abbrev pub element_helper : List ℕ → Loop → PredTree
element_helper turn l = helper l.name (handed l) (cell_clause turn l ∷ nil_clause l ∷ array_clause turn l ∷ [])

-- ---- where the loop stands

-- slots that are found by these names alone
abbrev pub found_by : (List ℕ → Bool) → SlotNames → SlotNames
found_by finds ns = map (λ name. cond (finds name) name unnamed) ns

-- What the iterator goes over has names of its own. It finds the slots of those names alone that stand before the loop, and behind it no name finds those that it took.
abbrev pub only : Names → SlotNames → SlotNames
only before ns = found_by (is_among before) ns

abbrev pub behind_collection : SlotNames → SlotNames → SlotNames
behind_collection ns after = ns ++ replicate (length after - length ns) unnamed

abbrev pub walked : SlotNames → SlotValue → SlotValue
walked ns v = record {
  goals =
      v.goals ++ GoalTree.apply (codes "length") (v.tree ∷ []) (length v.names)
      ∷ GoalTree.apply (codes "+") (Tree.var (length v.names) ∷ Tree.int (pos 1) ∷ []) (suc (length v.names)) ∷ [];
  tree = v.tree;
  names = behind_collection ns (with_value (with_value v.names));
}

abbrev pub over : Loop → List GoalTree → SlotValue → SlotGoals
over l goals v = entered l (goals ++ v.goals) (v.tree ∷ Tree.int (pos 1) ∷ Tree.var (length v.names - 1) ∷ []) v.names

abbrev pub iterator_goals : ℕ → Names → Loop → (SlotNames → SlotValue) → SlotNames → SlotGoals
iterator_goals h before l collection ns =
    let start : SlotValue = started h before ns in
    over l start.goals (walked start.names (collection (only before start.names)))

-- ---- tests

-- a test, and what stands behind it; where it fails the turn is passed over
abbrev pub tested : SlotGoals → (SlotNames → SlotGoals) → SlotGoals
tested test rest = choosing test rest (λ ns. just GoalTree.truth ns)
