-- States of the reader, and how much is left to do in one of the machine.
use Rattle.std.specs.Prelude.{◌≡◌, ◌<◌, ◌≤◌, List, [], ◌∷◌, ◌++◌, Result, Ok, Err}
use Rattle.std.specs.declared.alloc.AllocError.{AllocError}
use Rattle.pi_syntax.specs.ExpTree.{ExpTree, levels, exp_tree}
use Rattle.pi_syntax.specs.Crowding.{most_levels}
use Rattle.pi_syntax.specs.declared.exp.Exp.{Exp}
use Rattle.pi_expr_phrases.specs.Machine as m
use Rattle.pi_expr_phrases.specs.Shown.{phrase_shown, terminals}
use Rattle.pi_expr_phrases.specs.Trees.{Shows}
use Rattle.pi_expr_phrases.specs.Turns.{ShowsFrame}
use Rattle.pi_expr_phrases.specs.declared.frame.Frame.{Frame}
use Rattle.pi_expr.specs.declared.fault.ExpFault.{ExpFault}
use Rattle.pi_expr.specs.declared.fault.ExpFault.TheVariants as fault
use Rattle.pi_expr.specs.declared.reader.State.{State}
use Rattle.pi_expr.specs.declared.reader.State.TheVariants as state
use Rattle.pi_expr.specs.declared.reader.Outcome.{Outcome}
use Rattle.pi_expr.specs.declared.reader.Outcome.TheVariants as outcome

-- open phrases, the newest of which is the last
abbrev pub ShowsStack : List Frame → List m.Frame → Type 0
ShowsStack stack [] = stack ≡ []
ShowsStack stack (f ∷ fs) = (older : List Frame) × ((x : Frame) × ((stack ≡ older ++ x ∷ []) × (ShowsFrame x f × ShowsStack older fs)))

abbrev pub ShowsState : List Frame → State → m.State → Type 0
ShowsState stack (state.Operand ts) s = (fs : List m.Frame) × ((s ≡ m.operand fs (terminals ts)) × ShowsStack stack fs)
ShowsState stack (state.Value k indexable built ts) s =
    (fs : List m.Frame) × ((e : ExpTree) × ((s ≡ m.value fs (phrase_shown k) indexable e (terminals ts)) × (Shows built e × ShowsStack stack fs)))

abbrev pub ShowsOutcome : List Frame → Outcome → m.Outcome → Type 0
ShowsOutcome stack (outcome.Next state) o = (s : m.State) × ((o ≡ m.next s) × ShowsState stack state s)
ShowsOutcome stack (outcome.Done built) o = (e : ExpTree) × ((o ≡ m.done e) × Shows built e)
ShowsOutcome stack outcome.Fail o = o ≡ m.fail

-- the same, where memory didn't run out
abbrev pub ShowsResult : List Frame → Result Outcome AllocError → m.Outcome → Type 0
ShowsResult stack (Ok found) o = ShowsOutcome stack found o
ShowsResult stack (Err error) o = Unit {0}

-- what the machine comes to from a state
abbrev pub EndsAs : Result Exp ExpFault → m.State → Type 0
EndsAs (Ok exp) s = m.Runs s (exp_tree exp) × (levels (exp_tree exp) ≤ most_levels)
EndsAs (Err fault.NoExpression) s = (e : ExpTree) → m.Runs s e → ⊥
EndsAs (Err fault.TooDeep) s = (e : ExpTree) × (m.Runs s e × (most_levels < levels e))
EndsAs (Err fault.Memory) s = Unit {0}
