-- A state that is settled before goals go on: what its propagation comes to in the run.
use Rattle.std.proofs.Common.{◌≡◌, ℕ, ◌<◌, List, [], Option, Some, None, Box, Global, refl, sym, ap, subst}
use Rattle.pi_terms.specs.Places.{Places}
use Rattle.pi_constraints.specs.State.{State}
use Rattle.pi_constraints.specs.Store.{StoreView, Keeps}
use Rattle.pi_core.specs.GoalTree.{GoalTrees}
use Rattle.pi_core.specs.CoreTree.{PredTree}
use Rattle.pi_core.specs.declared.core_program.NameSlot.{NameSlot}
use Rattle.pi_settling.specs.Settle.{Settlement}
use Rattle.pi_settling.specs.Calm.{IsCalm}
use Rattle.pi_traces.specs.Trace.{Load}
use Rattle.pi_meaning.specs.Shared.View.{View}
use Rattle.pi_meaning.specs.Shared.Settle.{settlement}
use Rattle.pi_meaning.specs.Machine.Built.{AreOfRules}
use Rattle.pi_meaning.specs.Machine.Configuration.{Frame, Config, config, settling, Entry as EntryData, Now as NowData}
use Rattle.pi_meaning.specs.Machine.Leads.{Leads, IsAtNote}
use Rattle.pi_meaning.specs.Machine.Shape.{IsGood}
use Rattle.pi_meaning.specs.Machine.Step.{left_now, loaded_step, step}
use Rattle.pi_engine_settle.specs.Due.{IsDueFor}
use Rattle.pi_engine_settle.specs.Settles.{LeftBy}
use Rattle.pi_engine_settle.proofs.LoadLemmas.{load_notes, step-loaded, at-load}
use Rattle.pi_engine_arenas.specs.declared.run.End.{End as RunEnd}
use Rattle.pi_engine_arenas.specs.declared.run.Now.{Now}
use Rattle.pi_engine_arenas.specs.declared.run.Settling.{Settling}
use Rattle.pi_engine_arenas.specs.Arenas.{between}
use Rattle.pi_engine_stands.specs.Rests.{Rests}
use Rattle.pi_engine_stands.specs.Stands.{World, GoingIs, NowIs, due_now, going_now, failing_now, StackLies, StackBelow, Stands}
use Rattle.pi_engine_stands.specs.Evaluates.{Writes}
use Rattle.pi_engine_stands.specs.Goes.{IsAtWork, Goes}
use Rattle.pi_engine_stands.proofs.StandsLemmas.{moved}
use Rattle.pi_engine_stands.proofs.StacksLie.{lies-stand}
use Rattle.pi_engine_stands.proofs.EqualStands.{writes-kept, lies-moved, going-lies}

-- ---- a run whose state is settled next

pub record DueThere {M : Type 0} (w : World M) (it : Box Settling Global) (c : Config) : Type 0 where
  pub before : State
  pub gs : GoalTrees
  pub e : Places
  pub k : List Frame
  pub is : c ≡ config (settling before w.store.now.state gs e k) c.stack
  pub runs : GoingIs w it.value.point gs e k
  pub left : LeftBy before w.store.now.state
  pub due : IsDueFor before w.store.now.state it.value.due
  pub lies : StackLies w c.stack

there-in : {M : Type 0} (w : World M) (it : Box Settling Global) (x : NowData) (es : List EntryData) → StackBelow w x es → NowIs w (Now.Settling it) x → DueThere w it (config x es)
there-in w it x es lies (due_now {before = before} {gs = gs} {e = e} {k = k} runs left due) =
    record { before = before; gs = gs; e = e; k = k; is = refl; runs = runs; left = left; due = due; lies = lies }

pub due-there : {M : Type 0} (w : World M) (it : Box Settling Global) (c : Config) → Stands w (Now.Settling it) c → DueThere w it c
due-there w it c is = there-in w it c.now c.stack is.entries is.runs

-- what it is settled to
abbrev pub settles_to : {M : Type 0} (w : World M) (it : Box Settling Global) (c : Config) → DueThere w it c → Settlement
settles_to w it c there = settlement there.before w.store.now.state

settles : {M : Type 0} (w : World M) (it : Box Settling Global) (c : Config) (v : View) (names : List NameSlot) (there : DueThere w it c) (o : Option State) → (settles_to w it c there).left ≡ o →
    step v w.loaded.preds names c ≡ loaded_step (settles_to w it c there).load (config (left_now o there.gs there.e there.k) c.stack)
unfolding step
settles w it c v names there o is =
    let m : Settlement = settles_to w it c there in
    subst (λ d. step v w.loaded.preds names d ≡ loaded_step m.load (config (left_now o there.gs there.e there.k) c.stack)) (sym there.is)
    (ap (λ q. loaded_step m.load (config (left_now q there.gs there.e there.k) c.stack)) is)

-- ---- how its propagation ends

-- the stable domains stand, and goals go on
pub due-left : {M : Type 0} (w : World M) (u : StoreView M) (it : Box Settling Global) (c : Config) (v : View) (names : List NameSlot) (there : DueThere w it c) → AreOfRules w.loaded.preds → IsGood c → Keeps w.store u →
    (settles_to w it c there).left ≡ Some u.now.state → IsCalm u.now.state → u.now.state.agents ≡ [] → Goes v names (load_notes (settles_to w it c there).load) (moved w u w.arenas) (Now.Going it.value.point) c
due-left w u it c v names there rules good keeps left calm none_made =
    let after : Config = config (left_now (Some u.now.state) there.gs there.e there.k) c.stack in
    let n : ℕ = (settles_to w it c there).load in
    let leads : Leads v w.loaded.preds names (load_notes n) c after × IsGood after = step-loaded v w.loaded.preds names c after n rules good (settles w it c v names there (Some u.now.state) left) in
    let writes : Writes there.runs.block (between w.store u w.arenas w.arenas) there.e u.now.state = writes-kept there.runs.block w.store u w.arenas there.e keeps there.runs.behind.slots in
    let rests : Rests u.now.state = record { calm = calm; none_made = none_made } in
    record {
      comes = after;
      leads = leads.0;
      good = leads.1;
      is = record {
        entries = lies-stand (moved w u w.arenas) c.stack (lies-moved w u w.arenas there.runs.block there.e u.now.state c.stack writes there.lies) rests;
        runs = going_now (going-lies w u w.arenas it.value.point there.gs there.e there.e u.now.state there.k c.stack there.lies there.runs writes);
      };
    }

-- a stable domain is empty: the newest entry is next
pub due-lost : {M : Type 0} (w : World M) (u : StoreView M) (it : Box Settling Global) (c : Config) (v : View) (names : List NameSlot) (there : DueThere w it c) → AreOfRules w.loaded.preds → IsGood c → Keeps w.store u →
    (settles_to w it c there).left ≡ None → Goes v names (load_notes (settles_to w it c there).load) (moved w u w.arenas) Now.Failing c
due-lost w u it c v names there rules good keeps left =
    let after : Config = config (left_now None there.gs there.e there.k) c.stack in
    let n : ℕ = (settles_to w it c there).load in
    let leads : Leads v w.loaded.preds names (load_notes n) c after × IsGood after = step-loaded v w.loaded.preds names c after n rules good (settles w it c v names there None left) in
    let writes : Writes there.runs.block (between w.store u w.arenas w.arenas) there.e u.now.state = writes-kept there.runs.block w.store u w.arenas there.e keeps there.runs.behind.slots in
    record {
      comes = after;
      leads = leads.0;
      good = leads.1;
      is = record { entries = lies-moved w u w.arenas there.runs.block there.e u.now.state c.stack writes there.lies; runs = failing_now };
    }

by-left : {M : Type 0} (w : World M) (it : Box Settling Global) (c : Config) (v : View) (names : List NameSlot) (there : DueThere w it c) → AreOfRules w.loaded.preds → IsGood c → 0 < (settles_to w it c there).load → (o : Option State) →
    (settles_to w it c there).left ≡ o → (k : ℕ) × IsAtNote v w.loaded.preds names (Load k) c
by-left w it c v names there rules good some o is =
    at-load v w.loaded.preds names c (config (left_now o there.gs there.e there.k) c.stack) (settles_to w it c there).load rules good some (settles w it c v names there o is)

-- the work is spent before the load
pub due-spent : {M : Type 0} (w : World M) (it : Box Settling Global) (c : Config) (v : View) (names : List NameSlot) (there : DueThere w it c) → AreOfRules w.loaded.preds → IsGood c → 0 < (settles_to w it c there).load → IsAtWork v w.loaded.preds names c
due-spent w it c v names there rules good some =
    let at : (k : ℕ) × IsAtNote v w.loaded.preds names (Load k) c = by-left w it c v names there rules good some (settles_to w it c there).left refl in (Load at.0, tt, at.1)
