-- Where the run of a machine is, by what the machine has inside. Those that use it need none of this: they read `Seen` and `Runs`.
use Rattle.std.specs.Prelude.{◌≡◌, List, ◌++◌, ⊤}
use Rattle.pi_constraints.specs.Store.{Terms}
use Rattle.pi_traces.specs.Trace.{End, Done, Note, Tick, Emitted}
use Rattle.pi_meaning.specs.Shared.View.{View}
use Rattle.pi_meaning.specs.CoreMeaning.Run.{Solution}
use Rattle.pi_core.specs.CoreTree.{PredTree, QueryTree}
use Rattle.pi_core.specs.declared.core_program.NameSlot.{NameSlot}
use Rattle.pi_meaning.specs.declared.happening.Mode.{Mode}
use Rattle.pi_engine_arenas.specs.declared.run.End.{End as RunEnd}
use Rattle.pi_engine_arenas.specs.declared.run.Now.{Now}
use Rattle.pi_meaning.specs.Machine.Built.{AreOfRules}
use Rattle.pi_meaning.specs.Machine.Configuration.{Config}
use Rattle.pi_meaning.specs.Machine.Leads.{Leads, IsAtNote, IsAtEnd}
use Rattle.pi_meaning.specs.Machine.Shape.{IsGood}
use Rattle.pi_meaning.specs.Machine.Step.{start}
use Rattle.pi_engine_stands.specs.Answers.{AreNames}
use Rattle.pi_engine_stands.specs.Stands.{Loaded, World, world, Stands}
use Rattle.pi_engine.specs.Seen.{MachineView, IsException, IsWork}

-- what a machine runs, by the terms that its tables are read with
abbrev pub loaded_as : {M : Type 0} → MachineView M → Terms → List PredTree → QueryTree → Loaded
loaded_as m terms program q = record { code = m.code; terms = terms; preds = program ++ q.helpers; query_slots = q.slots }

abbrev pub run_of : {M : Type 0} → MachineView M → Loaded → World M
run_of m l = world l m.store m.order m.arenas

-- It stands for a configuration, or has come to its end there. Steps are spent in front of a Tick, by a Top machine alone; work is
-- spent in front of what is work.
abbrev pub HasComeTo : {M : Type 0} → View → List NameSlot → Mode → World M → Now → Config → Type 0
HasComeTo v names mode w (Now.Ended RunEnd.Done) c = IsAtEnd v w.loaded.preds names Done c
HasComeTo v names mode w (Now.Ended (RunEnd.Raised ball)) c = (e : End) × IsException ball e × IsAtEnd v w.loaded.preds names e c
HasComeTo v names mode w (Now.Ended RunEnd.StepsSpent) c = (mode ≡ Mode.Top) × IsAtNote v w.loaded.preds names Tick c
HasComeTo v names mode w (Now.Ended RunEnd.WorkSpent) c = (n : Note) × IsWork mode n × IsAtNote v w.loaded.preds names n c
HasComeTo v names mode w (Now.Ended RunEnd.Memory) c = ⊤
HasComeTo v names mode w now c = Stands w now c

-- the configuration that a machine stands for, to which the beginning of a query leads with these events
pub record IsPlaced {M : Type 0} (v : View) (m : MachineView M) (program : List PredTree) (q : QueryTree) (events : List (Emitted Solution)) : Type 0 where
  pub terms : Terms
  pub config : Config
  pub names : m.names ≡ q.names
  pub slots : AreNames q.slots q.names
  pub rules : AreOfRules (program ++ q.helpers)
  pub leads : Leads v (program ++ q.helpers) q.names events (start q) config
  pub good : IsGood config
  pub is : HasComeTo v q.names m.mode (run_of m (loaded_as m terms program q)) m.now config
