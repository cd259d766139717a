-- What a step of the machine's code does, and what a call of `next` comes to.
use Rattle.std.specs.Prelude.{◌≡◌, ◌⊎◌, ◌≤◌, ℕ, ◌+◌, List, [], ◌∷◌, ◌++◌, Box, ⊤}
use Rattle.std.specs.Global.{Global}
use Rattle.pi_core.specs.CoreTree.{PredTree}
use Rattle.pi_meaning.specs.Machine.Leads.{Leads, IsAtTick, IsAtEnd}
use Rattle.pi_engine.specs.Happens.{AreTicksAndLoads, sum_of_loads}
use Rattle.pi_traces.specs.Trace.{Done, Raise, Out, Emitted, noted, answered, count_ticks}
use Rattle.pi_meaning.specs.Shared.View.{View}
use Rattle.pi_meaning.specs.CoreMeaning.Run.{Solution}
use Rattle.pi_core.specs.declared.core_program.NameSlot.{NameSlot}
use Rattle.pi_meaning.specs.declared.happening.Budget.{Budget}
use Rattle.pi_meaning.specs.declared.happening.Happening.{Happening}
use Rattle.pi_meaning.specs.declared.happening.Mode.{Mode}
use Rattle.pi_engine_arenas.specs.declared.run.End.{End as RunEnd}
use Rattle.pi_engine_arenas.specs.declared.run.Now.{Now}
use Rattle.pi_engine_arenas.specs.declared.run.Run.{Run}
use Rattle.pi_engine.specs.declared.turns.Outcome.{Outcome}
use Rattle.pi_meaning.specs.Machine.Configuration.{Config}
use Rattle.pi_meaning.specs.Machine.Shape.{IsGood}
use Rattle.pi_engine_stands.specs.Stands.{World, Stands}
use Rattle.pi_meaning.specs.Machine.Built.{AreOfRules}
use Rattle.pi_meaning.specs.Machine.Next.{Tells}
use Rattle.pi_engine_stands.specs.Goes.{counted, IsAtWork, IsAt, Goes, IsSpent, Counting, counting}
use Rattle.pi_engine_stands.specs.Changes.{Change}
use Rattle.pi_engine_settle.specs.declared.propagating.Settled.{Settled}
use Rattle.pi_engine_arenas.specs.declared.frames.Point.{Point}
use Rattle.pi_engine_arenas.specs.declared.run.Settling.{Settling}

-- ---- one step

-- a step that goes on with these events, and then with its answer or its text, where it has one
abbrev pub OutcomeIs : List NameSlot → List (Emitted Solution) → (List (Emitted Solution) → Type 0) → Outcome → Type 0
OutcomeIs names events goes Outcome.More = goes events
OutcomeIs names events goes (Outcome.Answered a) = (x : Solution) × Tells names x a.value × goes (events ++ answered x ∷ [])
OutcomeIs names events goes (Outcome.Told told) = goes (events ++ noted (Out told.value.text) ∷ [])

-- runs of propagators in a propagation that isn't finished: there is none but where the run has ended for its work, or for want of memory
abbrev pub AreCutShort : Now → ℕ → Type 0
AreCutShort (Now.Ended RunEnd.WorkSpent) runs = ⊤
AreCutShort (Now.Ended RunEnd.Memory) runs = ⊤
AreCutShort now runs = runs ≡ 0

-- What steps tell, by what they count: Ticks and loads. The runs of propagators are those of propagations that are finished, no more than the loads, and those of one that is cut
-- short.
pub record Counted (mode : Mode) (old new : Budget) (now : Now) (notes : List (Emitted Solution)) : Type 0 where
  pub kinds : AreTicksAndLoads notes
  pub ticks : count_ticks notes ≡ counted mode old new
  pub finished : ℕ
  pub cut_short : ℕ
  pub runs : new.work.runs ≡ old.work.runs + finished + cut_short
  pub loads : finished ≤ sum_of_loads notes
  pub others : AreCutShort now cut_short

-- a step, with what it counts
pub record StepIs {M : Type 0} (v : View) (names : List NameSlot) (mode : Mode) (old new : Budget) (after : World M) (now : Now) (c : Config) (outcome : Outcome) : Type 0 where
  pub notes : List (Emitted Solution)
  pub counts : Counted mode old new now notes
  pub is : OutcomeIs names notes (λ events. Goes v names events after now c) outcome
  pub spent : IsSpent mode new now

-- a step that stops for want of memory: the Ticks that it counted come next in the run all the same
abbrev pub StepStops : {M : Type 0} → View → List NameSlot → Counting → World M → Config → Type 0
StepStops v names b before c = StepIs v names b.mode b.old b.new before (Now.Ended RunEnd.Memory) c Outcome.More

-- ---- a state that is settled

-- what is next after a propagation, where goals go on at a point
abbrev pub after_settling : Settled → Point → Now
after_settling Settled.Left p = Now.Going p
after_settling Settled.Lost p = Now.Failing
after_settling Settled.Spent p = Now.Ended RunEnd.WorkSpent

-- what was noted to be due is run
abbrev pub SettlesDue : {M : Type 0} → Box Settling Global → Budget → Budget → Change M → Type 0
SettlesDue it old new made =
    (v : View) (names : List NameSlot) (mode : Mode) (c : Config) → Stands made.before (Now.Settling it) c → IsGood c → AreOfRules made.before.loaded.preds → StepIs v names mode old new made.after made.now c Outcome.More

-- the same where memory is wanted
abbrev pub SettlingStops : {M : Type 0} → Budget → Budget → Change M → Type 0
SettlingStops old new made = (v : View) (names : List NameSlot) (mode : Mode) (c : Config) → IsGood c → StepStops v names (counting mode old new) made.before c

-- a run that has ended for want of memory, and else is as it was
abbrev pub stopped_run : {S M : Type 0} → Run S M → Run S M
stopped_run run = record run { now = Now.Ended RunEnd.Memory }

-- ---- a call of `next`

-- a run that has not ended
abbrev pub IsRunning : Now → Type 0
IsRunning (Now.Ended e) = ⊥
IsRunning now = ⊤

-- From a configuration on: these notes, then what happens, and where the run is then. Where memory is wanted the notes come next all the same, and no more is said.
abbrev pub HappensNext : View → List PredTree → List NameSlot → List (Emitted Solution) → Happening → Config → Config → Type 0
HappensNext v preds names notes (Happening.Answer a) before after = (x : Solution) × Tells names x a × Leads v preds names (notes ++ answered x ∷ []) before after
HappensNext v preds names notes (Happening.Out text) before after = Leads v preds names (notes ++ noted (Out text) ∷ []) before after
HappensNext v preds names notes (Happening.NeedPlan c) before after = ⊥
HappensNext v preds names notes Happening.Done before after = Leads v preds names notes before after × IsAtEnd v preds names Done after
HappensNext v preds names notes (Happening.Raised ball) before after = Leads v preds names notes before after × IsAtEnd v preds names (Raise ball) after
HappensNext v preds names notes Happening.StepsSpent before after = Leads v preds names notes before after × IsAtTick v preds names after
HappensNext v preds names notes Happening.WorkSpent before after = Leads v preds names notes before after × IsAtWork v preds names after
HappensNext v preds names notes Happening.Memory before after = Leads v preds names notes before after

pub record NextComes {M : Type 0} (v : View) (names : List NameSlot) (mode : Mode) (old new : Budget) (after : World M) (before now : Now) (c : Config) (happening : Happening) : Type 0 where
  pub notes : List (Emitted Solution)
  pub counts : Counted mode old new now notes
  pub comes : Config
  pub is : HappensNext v after.loaded.preds names notes happening c comes
  pub good : IsGood comes
  pub at : IsAt v names after now comes
  pub spent : IsRunning before → IsSpent mode new now

-- a run that has an answer, or a text, goes on
abbrev pub RunsAfter : Outcome → Now → Type 0
RunsAfter Outcome.More now = ⊤
RunsAfter (Outcome.Answered a) now = IsRunning now
RunsAfter (Outcome.Told told) now = IsRunning now

-- the end of a run, as it is answered
abbrev pub IsAnswered : RunEnd → Happening → Type 0
IsAnswered RunEnd.Done happening = happening ≡ Happening.Done
IsAnswered (RunEnd.Raised ball) happening = happening ≡ Happening.Raised ball
IsAnswered RunEnd.StepsSpent happening = happening ≡ Happening.StepsSpent
IsAnswered RunEnd.WorkSpent happening = happening ≡ Happening.WorkSpent
IsAnswered RunEnd.Memory happening = happening ≡ Happening.Memory

-- what happens is what a run's end is answered by from then on; behind an answer, an output or a need it has not ended
abbrev pub Lasts : Happening → Now → Type 0
Lasts (Happening.Answer a) now = IsRunning now
Lasts (Happening.Out text) now = IsRunning now
Lasts (Happening.NeedPlan call) now = IsRunning now
Lasts Happening.Done now = now ≡ Now.Ended RunEnd.Done
Lasts (Happening.Raised ball) now = now ≡ Now.Ended (RunEnd.Raised ball)
Lasts Happening.StepsSpent now = now ≡ Now.Ended RunEnd.StepsSpent
Lasts Happening.WorkSpent now = now ≡ Now.Ended RunEnd.WorkSpent
Lasts Happening.Memory now = now ≡ Now.Ended RunEnd.Memory

-- a run and its budget
pub record Budgeted (R : Type 0) : Type 0 where
  pub run : R
  pub budget : Budget

abbrev pub with_budget : {R : Type 0} → R → Budget → Budgeted R
with_budget run budget = record { run = run; budget = budget }

-- An end is answered again, and nothing changes; `stop` says what a refused copy of a ball comes to.
abbrev pub RepeatsEnd : {R : Type 0} → (R → R) → RunEnd → Budgeted R → Budgeted R → Happening → Type 0
RepeatsEnd stop RunEnd.Done old new happening = (happening ≡ Happening.Done) × (new.run ≡ old.run) × (new.budget ≡ old.budget)
RepeatsEnd stop (RunEnd.Raised ball) old new happening =
    (((happening ≡ Happening.Raised ball) × (new.run ≡ old.run)) ⊎ ((happening ≡ Happening.Memory) × (new.run ≡ stop old.run))) × (new.budget ≡ old.budget)
RepeatsEnd stop RunEnd.StepsSpent old new happening = (happening ≡ Happening.StepsSpent) × (new.run ≡ old.run) × (new.budget ≡ old.budget)
RepeatsEnd stop RunEnd.WorkSpent old new happening = (happening ≡ Happening.WorkSpent) × (new.run ≡ old.run) × (new.budget ≡ old.budget)
RepeatsEnd stop RunEnd.Memory old new happening = (happening ≡ Happening.Memory) × (new.run ≡ old.run) × (new.budget ≡ old.budget)

-- the ends for whose answer memory may be wanted
abbrev pub IsRaised : RunEnd → Type 0
IsRaised RunEnd.Done = ⊥
IsRaised (RunEnd.Raised ball) = ⊤
IsRaised RunEnd.StepsSpent = ⊥
IsRaised RunEnd.WorkSpent = ⊥
IsRaised RunEnd.Memory = ⊥
