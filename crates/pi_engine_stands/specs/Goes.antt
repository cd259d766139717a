-- What the machine's code does over steps of the machine as data: Ticks that are counted, an answer, and where it is then.
use Rattle.std.specs.Prelude.{◌≡◌, ◌-◌, ◌<◌, ℕ, slice_get, Some, Bool, true, false, IsTrue, List, ⊤}
use Rattle.pi_traces.specs.Trace.{Done, Raise, Note, Tick, Load, Out, Emitted}
use Rattle.pi_core.specs.CoreTree.{PredTree}
use Rattle.pi_meaning.specs.Shared.Within.{is_body}
use Rattle.pi_meaning.specs.Shared.View.{View}
use Rattle.pi_meaning.specs.CoreMeaning.Run.{Solution}
use Rattle.pi_core.specs.declared.core_program.NameSlot.{NameSlot}
use Rattle.pi_meaning.specs.declared.happening.Budget.{Budget}
use Rattle.pi_meaning.specs.declared.happening.Mode.{Mode}
use Rattle.pi_engine_arenas.specs.declared.run.End.{End as RunEnd}
use Rattle.pi_engine_arenas.specs.declared.run.Now.{Now}
use Rattle.pi_meaning.specs.Machine.Budget.{AreStepsUsed, IsWorkUsed}
use Rattle.pi_meaning.specs.Machine.Configuration.{Config}
use Rattle.pi_meaning.specs.Machine.Leads.{Leads, IsAtNote, IsAtTick, IsAtEnd}
use Rattle.pi_meaning.specs.Machine.Next.{some_ticks}
use Rattle.pi_meaning.specs.Machine.Shape.{IsGood}
use Rattle.pi_engine_code.specs.declared.code.Node.{Node}
use Rattle.pi_engine_code.specs.declared.code.Step.{Step}
use Rattle.pi_engine_arenas.specs.declared.frames.Point.{Point}
use Rattle.pi_meaning.specs.Machine.Built.{AreOfRules}
use Rattle.pi_engine_stands.specs.Stands.{World, steps_of, Stands}
use Rattle.pi_engine_stands.specs.Views.{Fits}
use Rattle.pi_engine_stands.specs.Changes.{change, Change}

-- ---- Ticks that are counted

-- how many, by what a machine counts
abbrev pub counted : Mode → Budget → Budget → ℕ
counted Mode.Top old new = new.ticks - old.ticks
counted (Mode.Inner rest) old new = new.work.goals - old.work.goals

-- the end of a machine whose budget has none left
abbrev pub spent : Mode → RunEnd
spent Mode.Top = RunEnd.StepsSpent
spent (Mode.Inner rest) = RunEnd.WorkSpent

-- the budget has no Tick left
abbrev pub HasNone : Mode → Budget → Type 0
HasNone Mode.Top b = AreStepsUsed b
HasNone (Mode.Inner rest) b = IsWorkUsed b

-- a Tick is counted where the budget has one; else the run ends in front of it
abbrev pub Ticks : Mode → Budget → Budget → Now → Now → Bool → Type 0
Ticks mode old new before after true = (counted mode old new ≡ 1) × (after ≡ before)
Ticks mode old new before after false = (new ≡ old) × (after ≡ Now.Ended (spent mode)) × HasNone mode old

-- what a machine counts: of which kind it is, and its budget before and after
pub record Counting : Type 0 where
  pub mode : Mode
  pub old : Budget
  pub new : Budget

abbrev pub counting : Mode → Budget → Budget → Counting
counting mode old new = record { mode = mode; old = old; new = new }

-- a call counts one where it isn't quiet
abbrev pub TicksUnless : Bool → Counting → Now → Now → Bool → Type 0
TicksUnless true b before after found = (found ≡ true) × (b.new ≡ b.old) × (after ≡ before)
TicksUnless false b before after found = Ticks b.mode b.old b.new before after found

-- ---- where a run is

-- what is work under a view: a load, and a Tick of the body of a planner call
abbrev pub IsWorkIn : View → Note → Type 0
IsWorkIn v Tick = IsTrue (is_body v.within)
IsWorkIn v (Load k) = ⊤
IsWorkIn v (Out text) = ⊥

-- it is about to tell work
abbrev pub IsAtWork : View → List PredTree → List NameSlot → Config → Type 0
IsAtWork v preds names c = (n : Note) × IsWorkIn v n × IsAtNote v preds names n c

-- it stands for a configuration, or has come to its end there
abbrev pub IsAt : {M : Type 0} → View → List NameSlot → World M → Now → Config → Type 0
IsAt v names w (Now.Ended RunEnd.Done) c = IsAtEnd v w.loaded.preds names Done c
IsAt v names w (Now.Ended (RunEnd.Raised ball)) c = IsAtEnd v w.loaded.preds names (Raise ball) c
IsAt v names w (Now.Ended RunEnd.StepsSpent) c = IsAtTick v w.loaded.preds names c
IsAt v names w (Now.Ended RunEnd.WorkSpent) c = IsAtWork v w.loaded.preds names c
IsAt v names w (Now.Ended RunEnd.Memory) c = ⊤
IsAt v names w now c = Stands w now c

-- from a configuration on, with these events, to where it is after
pub record Goes {M : Type 0} (v : View) (names : List NameSlot) (events : List (Emitted Solution)) (after : World M) (now : Now) (c : Config) : Type 0 where
  pub comes : Config
  pub leads : Leads v after.loaded.preds names events c comes
  pub good : IsGood comes
  pub is : IsAt v names after now comes

-- where a run has ended before a Tick or a load, the budget has no room for it
abbrev pub IsSpent : Mode → Budget → Now → Type 0
IsSpent mode b (Now.Ended RunEnd.StepsSpent) = (mode ≡ Mode.Top) × AreStepsUsed b
IsSpent mode b (Now.Ended RunEnd.WorkSpent) = IsWorkUsed b
IsSpent mode b now = ⊤

-- from a configuration on, with the Ticks that are counted
pub record TicksOn {M : Type 0} (v : View) (names : List NameSlot) (mode : Mode) (old new : Budget) (after : World M) (now : Now) (c : Config) : Type 0 where
  pub goes : Goes v names (some_ticks (counted mode old new)) after now c
  pub spent : IsSpent mode new now

-- a run at a configuration in shape, of a program of rules
pub record IsIn {M : Type 0} (v : View) (names : List NameSlot) (w : World M) (now : Now) (c : Config) : Type 0 where
  pub is : IsAt v names w now c
  pub good : IsGood c
  pub rules : AreOfRules w.loaded.preds

-- a run at a point that has a goal, with this step
pub record AtGoal {M : Type 0} (w : World M) (p : Point) (s : Step) (c : Config) : Type 0 where
  pub at : slice_get (steps_of w.loaded) p.place ≡ Some s
  pub some : 0 < p.count
  pub stands : Stands w (Now.Going p) c
  pub good : IsGood c
  pub rules : AreOfRules w.loaded.preds

-- from it on, with the Ticks that are counted, under the views that fit a kind of machine
abbrev pub GoalGoes : {M : Type 0} → Mode → Budget → Budget → Point → Step → Change M → Type 0
GoalGoes mode old new p s made = (v : View) → Fits mode v → (names : List NameSlot) (c : Config) → AtGoal made.before p s c → TicksOn v names mode old new made.after made.now c

-- the same of a run at a point that has goals, or a function's value
abbrev pub PointGoes : {M : Type 0} → Mode → Budget → Budget → Point → Change M → Type 0
PointGoes mode old new p made =
    (v : View) → Fits mode v → (names : List NameSlot) (c : Config) → 0 < p.count → Stands made.before (Now.Going p) c → IsGood c → AreOfRules made.before.loaded.preds → TicksOn v names mode old new made.after made.now c

-- Where its step stops for want of memory, the Ticks that it counted come next in the run all the same: as if it had ended there.
abbrev pub stopped : {M : Type 0} → Change M → Change M
stopped made = change made.before made.before (Now.Ended RunEnd.Memory)

abbrev pub GoalStops : {M : Type 0} → Mode → Budget → Budget → Point → Step → Change M → Type 0
GoalStops mode old new p s made = GoalGoes mode old new p s (stopped made)

abbrev pub PointStops : {M : Type 0} → Mode → Budget → Budget → Point → Change M → Type 0
PointStops mode old new p made = PointGoes mode old new p (stopped made)

-- a run at a point whose goals are done
pub record PointIsDone {M : Type 0} (w : World M) (p : Point) (c : Config) : Type 0 where
  pub none : p.count ≡ 0
  pub stands : Stands w (Now.Going p) c
  pub good : IsGood c
  pub rules : AreOfRules w.loaded.preds

-- goals whose step takes nothing from the depth: neither Ticks themselves nor calls, of terms too, nor a value
abbrev pub IsSilent : Node → Type 0
IsSilent Node.Tick = ⊥
IsSilent (Node.Call p first) = ⊥
IsSilent (Node.Apply p first into) = ⊥
IsSilent (Node.Value operand) = ⊥
IsSilent (Node.CallTerm first arity) = ⊥
IsSilent node = ⊤

-- goals that a turn doesn't run at sight: neither `true`, `fail`, Ticks, sequences nor calls of predicates
abbrev pub IsOther : Node → Type 0
IsOther Node.True = ⊥
IsOther Node.Fail = ⊥
IsOther Node.Tick = ⊥
IsOther (Node.Seq n) = ⊥
IsOther (Node.Call p first) = ⊥
IsOther node = ⊤
