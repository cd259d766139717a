-- Programs by rests: those that ask for what is left of a limit. In all others the rest counts for nothing. (Own.)
use Rattle.std.specs.Prelude.{Bool, false, ◌||◌, List, [], codes}
use Rattle.std.specs.Str.{bytes_eq}
use Rattle.std.specs.List.{list_any}
use Rattle.pi_core.specs.GoalTree.{GoalTree, apply, subgoals}
use Rattle.pi_core.specs.CoreTree.{ClauseTree, PredTree}

-- the call of `current_resource` without arguments
abbrev pub is_rest : GoalTree → Bool
is_rest (apply name [] slot) = bytes_eq name (codes "current_resource")
is_rest g = false

abbrev pub asks_rest : GoalTree → Bool
asks_rest g = list_any is_rest (subgoals g)

abbrev pub clause_asks : ClauseTree → Bool
clause_asks c = asks_rest c.guard || asks_rest c.body

abbrev pub is_by_rests : List PredTree → Bool
is_by_rests preds = list_any (λ pred. list_any clause_asks pred.clauses) preds
