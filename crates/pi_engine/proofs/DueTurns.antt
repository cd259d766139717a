-- A turn that settles a state: what it counts, and where the run is then.
use Rattle.std.proofs.Common.{◌≡◌, ℕ, zero, suc, ◌+◌, ◌≤◌, ◌<◌, List, [], ◌∷◌, Box, Global, refl, sym, ◌∙◌, ap, subst, arith}
use Rattle.pi_core.specs.declared.log.Work.{Work}
use Rattle.pi_core.specs.declared.core_program.NameSlot.{NameSlot}
use Rattle.pi_constraints.specs.State.{State, IsState}
use Rattle.pi_constraints.specs.Store.{StoreView, Keeps}
use Rattle.pi_traces.specs.Trace.{Load, Emitted, noted, count_ticks}
use Rattle.pi_meaning.specs.Shared.View.{View}
use Rattle.pi_meaning.specs.CoreMeaning.Run.{Solution}
use Rattle.pi_meaning.specs.declared.happening.Budget.{Budget}
use Rattle.pi_meaning.specs.declared.happening.Mode.{Mode}
use Rattle.pi_meaning.specs.Machine.Built.{AreOfRules}
use Rattle.pi_meaning.specs.Machine.Configuration.{Config}
use Rattle.pi_meaning.specs.Machine.Shape.{IsGood}
use Rattle.pi_meaning.proofs.Machine.LeadLemmas.{leads-none}
use Rattle.pi_settling.specs.SettlingLaws.{MaySettle}
use Rattle.pi_queue.specs.Ends.{KeepsWithin, worked}
use Rattle.pi_engine_settle.specs.declared.propagating.Settled.{Settled}
use Rattle.pi_engine_settle.specs.Due.{IsDueFor}
use Rattle.pi_engine_settle.specs.Settles.{ComesTo, SettlesAs}
use Rattle.pi_engine_settle.proofs.SettlementLemmas.{settles-as}
use Rattle.pi_engine_settle.proofs.LoadLemmas.{load_notes}
use Rattle.pi_engine_arenas.specs.declared.run.End.{End as RunEnd}
use Rattle.pi_engine_arenas.specs.declared.run.Now.{Now}
use Rattle.pi_engine_arenas.specs.declared.run.Settling.{Settling}
use Rattle.pi_engine_stands.specs.Stands.{World, Stands}
use Rattle.pi_engine_stands.specs.Goes.{counted, counting, IsSpent}
use Rattle.pi_engine_stands.proofs.StandsLemmas.{moved}
use Rattle.pi_engine_stands.proofs.DueStands.{DueThere, due-there, settles_to, due-left, due-lost, due-spent}
use Rattle.pi_engine.specs.declared.turns.Outcome.{Outcome as CodeOutcome}
use Rattle.pi_engine.specs.Happens.{AreTicksAndLoads, sum_of_loads}
use Rattle.pi_engine.specs.Turns.{AreCutShort, Counted, StepIs, StepStops, after_settling}
use Rattle.pi_engine.proofs.SpendLemmas.{with_work}

-- ---- what is counted

load-kinds : (n : ℕ) → AreTicksAndLoads (load_notes n)
unfolding AreTicksAndLoads
load-kinds zero = tt
load-kinds (suc n) = tt

load-ticks : (n : ℕ) → count_ticks (load_notes n) ≡ 0
unfolding count_ticks
load-ticks zero = refl
load-ticks (suc n) = refl

load-sum : (n : ℕ) → sum_of_loads (load_notes n) ≡ n
unfolding sum_of_loads
load-sum zero = refl
load-sum (suc n) = omega arith

no-ticks : (mode : Mode) (b : Budget) (w : Work) → w.goals ≡ b.work.goals → counted mode b (with_work b w) ≡ 0
no-ticks Mode.Top b w same = omega arith
no-ticks (Mode.Inner rest) b w same = omega (arith, same)

-- a propagation that is finished
finished-counts : (mode : Mode) (b : Budget) (w : Work) (now : Now) (load : ℕ) → KeepsWithin b.limit b.work w → w.runs ≤ b.work.runs + load → AreCutShort now 0 → Counted mode b (with_work b w) now (load_notes load)
finished-counts mode b w now load keeps most others = record {
  kinds = load-kinds load;
  ticks = load-ticks load ∙ sym (no-ticks mode b w keeps.counted.goals);
  finished = keeps.many;
  cut_short = 0;
  runs = omega (arith, keeps.counted.runs);
  loads = omega (arith, keeps.counted.runs, most, load-sum load);
  others = others;
}

-- one that is cut short
cut-counts : (mode : Mode) (b : Budget) (w : Work) (now : Now) → (keeps : KeepsWithin b.limit b.work w) → AreCutShort now keeps.many → Counted mode b (with_work b w) now []
unfolding AreTicksAndLoads count_ticks sum_of_loads
cut-counts mode b w now keeps others = record {
  kinds = tt;
  ticks = sym (no-ticks mode b w keeps.counted.goals);
  finished = 0;
  cut_short = keeps.many;
  runs = omega (arith, keeps.counted.runs);
  loads = omega arith;
  others = others;
}

-- ---- the turn

settled-is : {M : Type 0} (w : World M) (u : StoreView M) (it : Box Settling Global) (v : View) (names : List NameSlot) (mode : Mode) (b : Budget) (work : Work) (c : Config) → IsGood c → AreOfRules w.loaded.preds → Keeps w.store u → (keeps : KeepsWithin b.limit b.work work) →
    (there : DueThere w it c) → (settled : Settled) → SettlesAs (settles_to w it c there) (worked b.limit b.work work) u.now.state settled →
    StepIs v names mode b (with_work b work) (moved w u w.arenas) (after_settling settled it.value.point) c CodeOutcome.More
settled-is w u it v names mode b work c good rules stays keeps there Settled.Left h = record {
  notes = load_notes (settles_to w it c there).load;
  counts = finished-counts mode b work (Now.Going it.value.point) (settles_to w it c there).load keeps h.3 refl;
  is = due-left w u it c v names there rules good stays h.0 h.1 h.2;
  spent = tt;
}
settled-is w u it v names mode b work c good rules stays keeps there Settled.Lost h = record {
  notes = load_notes (settles_to w it c there).load;
  counts = finished-counts mode b work Now.Failing (settles_to w it c there).load keeps h.1 refl;
  is = due-lost w u it c v names there rules good stays h.0;
  spent = tt;
}
settled-is w u it v names mode b work c good rules stays keeps there Settled.Spent h = record {
  notes = [];
  counts = cut-counts mode b work (Now.Ended RunEnd.WorkSpent) keeps tt;
  is = record {
    comes = c;
    leads = leads-none v w.loaded.preds names c;
    good = good;
    is = due-spent w it c v names there rules good (omega (arith, keeps.counted.runs, h.2));
  };
  spent = h.0;
}

pub due-is : {M : Type 0} (w : World M) (u : StoreView M) (it : Box Settling Global) (v : View) (names : List NameSlot) (mode : Mode) (b : Budget) (work : Work) (c : Config) → Stands w (Now.Settling it) c → IsGood c → AreOfRules w.loaded.preds → Keeps w.store u → KeepsWithin b.limit b.work work →
    (settled : Settled) → ((before : State) → IsDueFor before w.store.now.state it.value.due → IsState w.store.now.state → MaySettle w.store.now.state → ComesTo before w.store.now.state it.value.due (worked b.limit b.work work) u.now.state settled) →
    StepIs v names mode b (with_work b work) (moved w u w.arenas) (after_settling settled it.value.point) c CodeOutcome.More
due-is w u it v names mode b work c stands good rules stays keeps settled comes =
    let there : DueThere w it c = due-there w it c stands in
    settled-is w u it v names mode b work c good rules stays keeps there settled
    (settles-as there.before w.store.now.state u.now.state it.value.due b.limit b.work work there.left settled (comes there.before there.due there.left.state there.left.settles))

-- it stops for want of memory
pub due-stops : {M : Type 0} (w : World M) (v : View) (names : List NameSlot) (mode : Mode) (b : Budget) (work : Work) (c : Config) → IsGood c → KeepsWithin b.limit b.work work → StepStops v names (counting mode b (with_work b work)) w c
due-stops w v names mode b work c good keeps = record {
  notes = [];
  counts = cut-counts mode b work (Now.Ended RunEnd.Memory) keeps tt;
  is = record { comes = c; leads = leads-none v w.loaded.preds names c; good = good; is = tt };
  spent = tt;
}
