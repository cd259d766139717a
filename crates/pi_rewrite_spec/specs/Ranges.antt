-- Iterators over ranges that aren't built: a turn is handed its value, how many values there are from this one on, and the step. The next value is found where there is one. (Own.)
use Rattle.std.specs.Prelude.{ℕ, suc, ◌+◌, ◌-◌, pos, List, [], ◌∷◌, ◌++◌, length, codes}
use Rattle.pi_terms.specs.Tree.{Tree, trees_of}
use Rattle.pi_terms.specs.PatternTree.{pattern}
use Rattle.pi_syntax.specs.PrintTerm.{array_name}
use Rattle.pi_effects.specs.Inner.{range_count_name}
use Rattle.pi_syntax.specs.ExpTree.{ExpTree}
use Rattle.pi_core.specs.GoalTree.{GoalTree}
use Rattle.pi_core.specs.CoreTree.{ClauseTree, PredTree}
use Rattle.pi_meaning.specs.OverNames.Texts.{Names}
use Rattle.pi_rewrite_spec.specs.Slots.{SlotNames, with_value}
use Rattle.pi_rewrite_spec.specs.Values.{SlotPattern, slot_pattern, SlotValue, SlotValues}
use Rattle.pi_rewrite_spec.specs.Goals.{SlotGoals, in_turn}
use Rattle.pi_rewrite_spec.specs.Loops.{Loop, slots_from, slots_head, closing, closing_slots, clause_of, helper, started, entered}
use Rattle.pi_rewrite_spec.specs.Iterators.{walk_slots, handed, turn_slots, end_slots, tick_then, only, behind_collection}

-- ---- turns

-- Behind a turn: the next one, at the level below, or the end. `first` is the slot of the value, in front of those of how many there are and of the step; from `free` on slots are free.
abbrev pub next_turn : List ℕ → Loop → ℕ → ℕ → GoalTree
next_turn turn l first free =
    GoalTree.if_else (GoalTree.call (codes "<") (Tree.int (pos 1) ∷ Tree.var (suc first) ∷ []))
    (in_turn (GoalTree.apply (codes "+") (Tree.var first ∷ Tree.var (suc (suc first)) ∷ []) free ∷ GoalTree.apply (codes "-") (Tree.var (suc first) ∷ Tree.int (pos 1) ∷ []) (suc free) ∷ GoalTree.tick
    ∷ GoalTree.call turn (Tree.var free ∷ Tree.var free ∷ Tree.var (suc free) ∷ slots_from (suc (suc first)) (handed l - 2)) ∷ []))
    (GoalTree.call l.name (Tree.var first ∷ Tree.int (pos 0) ∷ slots_from (suc (suc first)) (handed l - 2)))

-- The value that a turn's pattern matches is handed to it twice: the pattern's names can be assigned.
abbrev pub step_clause : List ℕ → Loop → SlotPattern → SlotGoals → ClauseTree
step_clause name l p turn =
    clause_of (pattern p.form (slots_head (length p.names) (handed l))) (in_turn (turn.goals ++ next_turn name l (length p.names) (length turn.names) ∷ [])) (length turn.names + 2)

-- a value that the pattern doesn't match is passed over
abbrev pub step_helper : List ℕ → Loop → ExpTree → (SlotNames → SlotGoals) → PredTree
step_helper name l e body =
    let p : SlotPattern = slot_pattern e [] in
    helper name (suc (handed l))
    (step_clause name l p (body (turn_slots l p)) ∷ clause_of (slots_head 0 (suc (handed l))) (next_turn name l 1 (suc (handed l))) (suc (handed l) + 2) ∷ [])

-- the first turn, where there is a value, and the end
abbrev pub range_helper : List ℕ → Loop → PredTree
range_helper turn l =
    let ns : SlotNames = end_slots walk_slots l in
    helper l.name (handed l)
    (clause_of (slots_head 0 (handed l))
    (GoalTree.if_else (GoalTree.call (codes "<") (Tree.int (pos 0) ∷ Tree.var 1 ∷ [])) (tick_then (GoalTree.call turn (Tree.var 0 ∷ slots_from 0 (handed l)) ∷ []))
    (in_turn (closing l.ending l.kept (walk_slots + length l.shared) (length ns) ns))) (closing_slots l.kept (length ns)) ∷ [])

-- ---- where the loop stands

-- the bounds of a range and its step, which is 1 where none is written
pub record SlotRange : Type 0 where
  pub goals : List GoalTree
  pub low : Tree
  pub step : Tree
  pub high : Tree
  pub names : SlotNames

abbrev pub low_of : List Tree → Tree
low_of [] = Tree.atom []
low_of (low ∷ ts) = low

abbrev pub step_of : List Tree → Tree
step_of (low ∷ step ∷ high ∷ ts) = step
step_of ts = Tree.int (pos 1)

abbrev pub high_of : List Tree → Tree
high_of (low ∷ high ∷ []) = high
high_of (low ∷ step ∷ high ∷ ts) = high
high_of ts = Tree.atom []

abbrev pub range_of : SlotValues → SlotRange
range_of vs = record { goals = vs.goals; low = low_of vs.trees; step = step_of vs.trees; high = high_of vs.trees; names = vs.names }

-- the number that a term is, which stands in slot k where it isn't written
abbrev pub number_goals : Tree → ℕ → List GoalTree
number_goals (Tree.int n) k = []
number_goals t k = GoalTree.apply (codes "min") (t ∷ t ∷ []) k ∷ []

abbrev pub number_tree : Tree → ℕ → Tree
number_tree (Tree.int n) k = Tree.int n
number_tree t k = Tree.var k

-- the values are counted, which evaluates bounds and step from the left
abbrev pub counting : SlotRange → List GoalTree
counting r =
    let k : ℕ = length r.names in
    GoalTree.apply range_count_name (r.low ∷ Tree.comp array_name (trees_of (r.step ∷ r.high ∷ [])) ∷ []) k ∷ number_goals r.low (suc k) ++ number_goals r.step (suc (suc k))

-- what the first helper is handed
abbrev pub first_turn : SlotRange → List Tree
first_turn r =
    let k : ℕ = length r.names in
    number_tree r.low (suc k) ∷ Tree.var k ∷ number_tree r.step (suc (suc k)) ∷ []

abbrev pub behind_range : SlotNames → SlotRange → SlotNames
behind_range ns r = behind_collection ns (with_value (with_value (with_value r.names)))

abbrev pub through : Loop → List GoalTree → SlotNames → SlotRange → SlotGoals
through l goals ns r = entered l (goals ++ (r.goals ++ counting r)) (first_turn r) (behind_range ns r)

abbrev pub range_goals : ℕ → Names → Loop → (SlotNames → SlotValues) → SlotNames → SlotGoals
range_goals h before l bounds ns =
    let start : SlotValue = started h before ns in
    through l start.goals start.names (range_of (bounds (only before start.names)))
