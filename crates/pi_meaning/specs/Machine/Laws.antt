-- What the machine's steps are to what remains.
use Rattle.std.specs.Prelude.{◌≡◌, ℕ, suc, Bool, false, List, [], Option, ⊤}
use Rattle.pi_terms.specs.Tree.{Tree}
use Rattle.pi_terms.specs.Places.{Places}
use Rattle.pi_settling.specs.Choices.{Pending}
use Rattle.pi_constraints.specs.State.{State}
use Rattle.pi_core.specs.GoalTree.{GoalTree, no_goals, goal}
use Rattle.pi_core.specs.CoreTree.{ClauseTree, PredTree, leaves_others}
use Rattle.pi_traces.specs.Trace.{end, note, ans, Tick, Load, Out}
use Rattle.pi_traces.specs.Depth.{Below}
use Rattle.pi_meaning.specs.Shared.View.{View}
use Rattle.pi_core.specs.declared.core_program.NameSlot.{NameSlot}
use Rattle.pi_meaning.specs.Machine.Configuration.{Back, Called, Search, Found, once_level, not_level, if_level, guard_level, value_level, search_level, Entry, Config}
use Rattle.pi_meaning.specs.Machine.Remaining.{remaining}
use Rattle.pi_meaning.specs.Machine.Step.{Outcome, silently, with_tick, quietly, deeper, loading, writing, answering, ending, branch, later_alternatives, strict_step, end_step, leave, step}
use Rattle.pi_meaning.specs.Machine.Shape.{IsGood}
use Rattle.pi_meaning.specs.Machine.Built.{AreOfRules}
use Rattle.pi_meaning.specs.Machine.Weight.{GetsLighter}

-- What remained before a step is what the step comes to, and then what remains after it. A step that takes from the depth
-- leads to what remains at one depth less.
abbrev pub Comes : View → List PredTree → List NameSlot → Config → Outcome → Type 0
Comes v preds names c (silently next) = (d : ℕ) → remaining v preds names d c ≡ remaining v preds names d next
Comes v preds names c (with_tick next) = (d : ℕ) → Below (note Tick (remaining v preds names d next)) (remaining v preds names (suc d) c)
Comes v preds names c (quietly next) = (d : ℕ) → Below (remaining v preds names d next) (remaining v preds names (suc d) c)
Comes v preds names c (deeper next) = (d : ℕ) → Below (remaining v preds names d next) (remaining v preds names (suc d) c)
Comes v preds names c (loading n next) = (d : ℕ) → remaining v preds names d c ≡ note (Load n) (remaining v preds names d next)
Comes v preds names c (writing text next) = (d : ℕ) → remaining v preds names d c ≡ note (Out text) (remaining v preds names d next)
Comes v preds names c (answering x next) = (d : ℕ) → remaining v preds names d c ≡ ans x (remaining v preds names d next)
Comes v preds names c (ending e) = (d : ℕ) → remaining v preds names d c ≡ end e

abbrev pub GoesOnGood : Outcome → Type 0
GoesOnGood (silently next) = IsGood next
GoesOnGood (with_tick next) = IsGood next
GoesOnGood (quietly next) = IsGood next
GoesOnGood (deeper next) = IsGood next
GoesOnGood (loading n next) = IsGood next
GoesOnGood (writing text next) = IsGood next
GoesOnGood (answering x next) = IsGood next
GoesOnGood (ending e) = ⊤

abbrev pub StepsAreRight : Type 0
StepsAreRight = (v : View) (preds : List PredTree) (names : List NameSlot) (c : Config) → AreOfRules preds → IsGood c →
    Comes v preds names c (step v preds names c)

abbrev pub StepsStayGood : Type 0
StepsStayGood = (v : View) (preds : List PredTree) (names : List NameSlot) (c : Config) → IsGood c → GoesOnGood (step v preds names c)

-- so between two Ticks there are only so many steps, where Ticks stand between the calls of quiet predicates
abbrev pub StepsGetLighter : Type 0
StepsGetLighter = (v : View) (preds : List PredTree) (names : List NameSlot) (c : Config) → IsGood c → GetsLighter preds c (step v preds names c)

-- A level that is left by an answer is gone, with all that lay above it; so is a `catch` without choices in it, and the
-- call of a rule that leaves no others. So is a search that has ended. What takes the last branch, or the last alternative of a labelling, keeps no choice.
pub record LeaveNothing (e : Places) (s : State) (above : List Entry) (b : Back) (below : List Entry) : Type 0 where
  pub once : (strict_step once_level e s above b below).stack ≡ below
  pub negation : (strict_step not_level e s above b below).stack ≡ below
  pub condition : (g other : GoalTree) → (strict_step (if_level g other) e s above b below).stack ≡ below
  pub function : (called : Tree) (into : ℕ) → (strict_step (value_level called into) e s above b below).stack ≡ below
  pub committed : (called : Called) (c : ClauseTree) (cs : List ClauseTree) → leaves_others called.function c ≡ false →
      (strict_step (guard_level called c cs) e s above b below).stack ≡ below
  pub last_rule : (called : Called) (c : ClauseTree) → (strict_step (guard_level called c []) e s above b below).stack ≡ below
  pub caught : (ball : Tree) (handler : GoalTree) → leave [] ball handler b below ≡ below
  pub last_branch : (g : GoalTree) → (branch (goal g no_goals) b below).stack ≡ below
  pub search : (x : Search) (labelled : Bool) (f : Option Found) → (end_step (search_level x labelled f) b below).stack ≡ below
  pub last_alternative : (name : List ℕ) (args : List Tree) (p : Pending) → later_alternatives name args p [] b below ≡ below

abbrev pub LevelsLeaveNothing : Type 0
LevelsLeaveNothing = (e : Places) (s : State) (above : List Entry) (b : Back) (below : List Entry) → LeaveNothing e s above b below
