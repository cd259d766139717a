-- The goal by which a name with its number of arguments is called: it runs in slots of its own, the first of which have the arguments. `catch` is the catch of the terms'
-- calls and `call` is itself again, each behind a Tick; a predicate that is built, or that the program defines and that isn't quiet, is called; any other name has no
-- such goal. (The core language is own.)
use Rattle.std.specs.Prelude.{ℕ, zero, suc, ◌||◌, false, cond, List, [], ◌∷◌, Option, Some, None, codes}
use Rattle.pi_terms.specs.Tree.{Tree, var}
use Rattle.pi_core.specs.GoalTree.{GoalTree, tick, call, seq, catch, goals_of}
use Rattle.pi_core.specs.CoreTree.{PredTree, find_pred}
use Rattle.pi_meaning.specs.Shared.Effects.{is_built_name}
use Rattle.pi_meaning.specs.Shared.Names.{is_catch, is_call}
use Rattle.pi_meaning.specs.CoreMeaning.Instances.{is_called_by_name}

-- so many slots from one on
unfoldable pub slots_from : ℕ → ℕ → List Tree
slots_from i zero = []
slots_from i (suc k) = var i ∷ slots_from (suc i) k

-- the call of the term in a slot
abbrev pub call_of_slot : ℕ → GoalTree
call_of_slot i = call (codes "call") (var i ∷ [])

-- the calls of three terms as `catch` has them: what runs, what it catches, and the handler
abbrev pub catch_of_slots : GoalTree
catch_of_slots = seq (goals_of (tick ∷ catch (call_of_slot 0) (var 1) (call_of_slot 2) ∷ []))

abbrev pub call_of_slots : ℕ → GoalTree
call_of_slots k = seq (goals_of (tick ∷ call (codes "call") (slots_from 0 k) ∷ []))

unfoldable pub goal_by_name : List PredTree → List ℕ → ℕ → Option GoalTree
goal_by_name preds name k =
    cond (is_catch name k) (Some catch_of_slots)
    (cond (is_call name k) (Some (call_of_slots k))
    (cond (is_built_name name k || is_called_by_name (find_pred false name k preds)) (Some (call name (slots_from 0 k))) None))
