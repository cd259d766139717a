-- Loops as code holds them, and what their helpers are made of.
use Rattle.std.specs.Prelude.{◌≡◌, Bool, true, false, ℕ, suc, ◌+◌, List, [], ◌∷◌, length}
use Rattle.pi_terms.specs.Tree.{Tree}
use Rattle.pi_core.specs.GoalTree.{GoalTree}
use Rattle.pi_core.specs.CoreTree.{PredTree, pattern_tree}
use Rattle.pi_rewrite_slots.specs.Indexed.{names_in}
use Rattle.pi_rewrite_spec.specs.Slots.{SlotNames}
use Rattle.pi_rewrite_spec.specs.Goals.{SlotGoals}
use Rattle.pi_rewrite_spec.specs.Values.{SlotPattern}
use Rattle.pi_rewrite_spec.specs.Loops.{Ending as EndingTree, as_it_is, in_order, Loop as LoopTree, slots_from, slots_head, clause_of, helper}
use Rattle.pi_rewrite_spec.specs.Iterators.{handed, turn_clause, element_helper}
use Rattle.pi_rewrite_spec.specs.Ranges.{SlotRange, step_clause, next_turn, range_helper}
use Rattle.pi_rewrite_loops.specs.declared.loops.Ending.{Ending}
use Rattle.pi_rewrite_loops.specs.declared.loops.Ending.TheVariants.{AsItIs, InOrder}
use Rattle.pi_rewrite_loops.specs.declared.loops.Loop.{Loop}
use Rattle.pi_rewrite_loops.specs.declared.elements.Element.{Element}

-- how a loop ends, and what it is
abbrev pub ending_of : Ending → EndingTree
ending_of AsItIs = as_it_is
ending_of (InOrder is_array) = in_order is_array

abbrev pub loop_of : Loop → LoopTree
loop_of l = record { name = l.name; shared = names_in l.shared.items; kept = names_in l.kept.items; ending = ending_of l.ending }

-- goals that are lowered, and the slots behind them
abbrev pub lowered : List GoalTree → SlotNames → SlotGoals
lowered goals ns = record { goals = goals; names = ns }

-- the pattern of an iterator's elements, and how many slots it has
pub record IsElement (p : SlotPattern) (e : Element) : Type 0 where
  pub form : pattern_tree e.form ≡ p.form
  pub width : e.width ≡ length p.names

-- the second helper of an iterator, of the pattern of its elements and the turn of one that matches
abbrev pub turns_by : List ℕ → LoopTree → SlotPattern → SlotGoals → PredTree
turns_by name l p turn =
    helper name (suc (handed l)) (turn_clause l p turn ∷ clause_of (slots_head 0 (suc (handed l))) (GoalTree.call l.name (slots_from 1 (handed l))) (suc (handed l)) ∷ [])

-- that of a range
abbrev pub steps_by : List ℕ → LoopTree → SlotPattern → SlotGoals → PredTree
steps_by name l p turn =
    helper name (suc (handed l)) (step_clause name l p turn ∷ clause_of (slots_head 0 (suc (handed l))) (next_turn name l 1 (suc (handed l))) (suc (handed l) + 2) ∷ [])

-- both helpers of an iterator
abbrev pub own_by : Bool → List ℕ → LoopTree → SlotPattern → SlotGoals → List PredTree
own_by true name l p turn = range_helper name l ∷ steps_by name l p turn ∷ []
own_by false name l p turn = element_helper name l ∷ turns_by name l p turn ∷ []

-- the bounds of a range and its step, as they are lowered
abbrev pub range_between : Tree → Tree → Tree → SlotNames → SlotRange
range_between low step high ns = record { goals = []; low = low; step = step; high = high; names = ns }
