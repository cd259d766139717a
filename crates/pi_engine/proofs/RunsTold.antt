-- What a call of `next` comes to, for those that use the machine.
use Rattle.std.proofs.Common.{◌≡◌, inl, ℕ, suc, ◌<◌, List, [], ◌∷◌, ◌++◌, Some, None, refl, ap, sym, subst, append_assoc, arith}
use Rattle.std.specs.Prelude.{Contains, true, false, IsTrue}
use Rattle.pi_terms.specs.Tree.{Tree}
use Rattle.pi_constraints.specs.Store.{StoreView}
use Rattle.pi_meaning.specs.Shared.View.{View}
use Rattle.pi_core.specs.CoreTree.{PredTree, QueryTree}
use Rattle.pi_traces.specs.Trace.{End, Done, Raise, Note, Tick, Load, Out, Emitted, noted, answered}
use Rattle.pi_meaning.specs.CoreMeaning.Run.{Solution}
use Rattle.pi_meaning.specs.CoreMeaning.Sound.{IsSoundQuery}
use Rattle.pi_core.specs.declared.core_program.NameSlot.{NameSlot}
use Rattle.pi_meaning.specs.declared.happening.Budget.{Budget}
use Rattle.pi_meaning.specs.declared.happening.Happening.{Happening}
use Rattle.pi_meaning.specs.declared.happening.Mode.{Mode}
use Rattle.pi_engine_arenas.specs.declared.run.End.{End as RunEnd}
use Rattle.pi_engine_arenas.specs.declared.run.Now.{Now}
use Rattle.pi_engine_arenas.specs.Arenas.{ArenasView}
use Rattle.pi_engine_stands.specs.Answers.{AreNames}
use Rattle.pi_engine.specs.Begins.{Begins, begun}
use Rattle.pi_meaning.specs.Machine.Built.{AreOfRules}
use Rattle.pi_meaning.specs.Machine.Configuration.{Config}
use Rattle.pi_meaning.specs.Machine.Budget.{AreStepsUsed, IsWorkUsed}
use Rattle.pi_engine_stands.specs.Goes.{IsWorkIn, IsAt, IsSpent, IsIn}
use Rattle.pi_meaning.specs.Shared.Within.{Within, a_query, is_body}
use Rattle.pi_meaning.specs.Machine.Leads.{Leads, IsAtEnd, IsAtTick, IsAtNote}
use Rattle.pi_engine.specs.Seen.{MachineView, end_in, HasEnded, GoesOn, Fits, IsException, IsWork}
use Rattle.pi_engine.specs.Inside.{loaded_as, run_of, HasComeTo, IsPlaced}
use Rattle.pi_engine.specs.Runs.{RunsTo, EndsWith}
use Rattle.pi_engine.specs.Happens.{AreCutOff, Adds, StandsBefore, Comes, Happens, course, lasting}
use Rattle.pi_meaning.specs.Machine.Step.{start}
use Rattle.pi_engine.specs.Turns.{AreCutShort, Counted, IsRunning, NextComes, Lasts}
use Rattle.pi_engine.proofs.TurnsGo.{none-while-running}
use Rattle.pi_engine.proofs.LoadRuns.{load-prefix}
use Rattle.pi_engine_stands.specs.Stands.{World, Stands}
use Rattle.pi_engine_stands.proofs.GoalsGo.{no-end}
use Rattle.pi_meaning.proofs.Machine.LeadLemmas.{leads-none, leads-on, start-good}
use Rattle.pi_meaning.proofs.Machine.RunLaws.{ended-run, spent-run, run-prefix}

-- ---- a machine at two moments

-- the machine with another store, other arenas, and what comes next
abbrev pub later : {M : Type 0} → MachineView M → StoreView M → ArenasView M → Now → MachineView M
later m store arenas now = record { code = m.code; names = m.names; mode = m.mode; store = store; order = m.order; arenas = arenas; now = now }

-- ---- what is read of where a run is

pub running-in : (now : Now) → end_in now ≡ None → IsRunning now
running-in (Now.Going p) on = tt
running-in (Now.Settling it) on = tt
running-in (Now.Telling told) on = tt
running-in Now.Failing on = tt
running-in (Now.Raising ball) on = tt
running-in (Now.Ended e) on = absurd cc

pub goes-on-in : (now : Now) → IsRunning now → end_in now ≡ None
goes-on-in (Now.Going p) running = refl
goes-on-in (Now.Settling it) running = refl
goes-on-in (Now.Telling told) running = refl
goes-on-in Now.Failing running = refl
goes-on-in (Now.Raising ball) running = refl
goes-on-in (Now.Ended e) running = absurd running

pub lasting-in : (now : Now) (h : Happening) → Lasts h now → end_in now ≡ lasting h
lasting-in now (Happening.Answer a) lasts = goes-on-in now lasts
lasting-in now (Happening.Out text) lasts = goes-on-in now lasts
lasting-in now (Happening.NeedPlan call) lasts = goes-on-in now lasts
lasting-in now Happening.Done lasts = ap end_in lasts
lasting-in now (Happening.Raised ball) lasts = ap end_in lasts
lasting-in now Happening.StepsSpent lasts = ap end_in lasts
lasting-in now Happening.WorkSpent lasts = ap end_in lasts
lasting-in now Happening.Memory lasts = ap end_in lasts

-- ---- where a run is

-- a run that has not ended stands for a configuration
at-running : {M : Type 0} (v : View) (names : List NameSlot) (mode : Mode) (w : World M) (now : Now) (c : Config) → IsRunning now → HasComeTo v names mode w now c → IsAt v names w now c
at-running v names mode w (Now.Going p) c running is = is
at-running v names mode w (Now.Settling it) c running is = is
at-running v names mode w (Now.Telling told) c running is = is
at-running v names mode w Now.Failing c running is = is
at-running v names mode w (Now.Raising ball) c running is = is
at-running v names mode w (Now.Ended e) c running is = absurd running

-- what is work under a view is work of a machine that fits it
not-body : (x : Within) → x ≡ a_query → IsTrue (is_body x) → ⊥
not-body x is body = let none : false ≡ true = subst (λ y. IsTrue (is_body y)) is body in cc

work-of : (v : View) (mode : Mode) (n : Note) → Fits mode v → IsWorkIn v n → IsWork mode n
work-of v Mode.Top Tick fits is = absurd (not-body v.within fits is)
work-of v (Mode.Inner rest) Tick fits is = tt
work-of v mode (Load k) fits is = tt
work-of v mode (Out text) fits is = is

-- what the code's steps come to is where the run is then
comes-to : {M : Type 0} (v : View) (names : List NameSlot) (mode : Mode) (b : Budget) (w : World M) (now : Now) (c : Config) → Fits mode v → IsSpent mode b now → IsAt v names w now c → HasComeTo v names mode w now c
comes-to v names mode b w (Now.Going p) c fits spent is = is
comes-to v names mode b w (Now.Settling it) c fits spent is = is
comes-to v names mode b w (Now.Telling told) c fits spent is = is
comes-to v names mode b w Now.Failing c fits spent is = is
comes-to v names mode b w (Now.Raising ball) c fits spent is = is
comes-to v names mode b w (Now.Ended RunEnd.Done) c fits spent is = is
comes-to v names mode b w (Now.Ended (RunEnd.Raised ball)) c fits spent is = (Raise ball, inl refl, is)
comes-to v names mode b w (Now.Ended RunEnd.StepsSpent) c fits spent is = (spent.0, is)
comes-to v names mode b w (Now.Ended RunEnd.WorkSpent) c fits spent is = (is.0, work-of v mode is.0 fits is.1, is.2)
comes-to v names mode b w (Now.Ended RunEnd.Memory) c fits spent is = tt

-- where a run is, for what a call of `next` needs
pub placed-in : {M : Type 0} (v : View) (m : MachineView M) (program : List PredTree) (q : QueryTree) (events : List (Emitted Solution)) → GoesOn m → (p : IsPlaced v m program q events) → IsIn v q.names (run_of m (loaded_as m p.terms program q)) m.now p.config
placed-in v m program q events on p =
    record { is = at-running v q.names m.mode (run_of m (loaded_as m p.terms program q)) m.now p.config (running-in m.now on) p.is; good = p.good; rules = p.rules }

runs-on : {M : Type 0} (v : View) (m : MachineView M) (program : List PredTree) (q : QueryTree) (events more : List (Emitted Solution)) (store : StoreView M) (arenas : ArenasView M) (now : Now) (old new : Budget) (h : Happening) → GoesOn m → (r : RunsTo v m program q events) →
    (it : NextComes v q.names m.mode old new (run_of (later m store arenas now) (loaded_as m r.place.terms program q)) m.now now r.place.config h) → Leads v (program ++ q.helpers) q.names more r.place.config it.comes →
    RunsTo v (later m store arenas now) program q (events ++ more)
runs-on v m program q events more store arenas now old new h on r it leads =
    let p : IsPlaced v m program q events = r.place in
    let all : Leads v (program ++ q.helpers) q.names (events ++ more) (start q) it.comes = leads-on v (program ++ q.helpers) q.names events more (start q) p.config it.comes p.leads leads in
    record {
      view = r.view;
      begins = λ n run is. run-prefix v program q (events ++ more) it.comes n run all is;
      place = record {
        terms = p.terms;
        config = it.comes;
        names = p.names;
        slots = p.slots;
        rules = p.rules;
        leads = all;
        good = it.good;
        is = comes-to v q.names m.mode new (run_of (later m store arenas now) (loaded_as m p.terms program q)) now it.comes r.view (it.spent (running-in m.now on)) it.at;
      };
    }

-- the whole run so far has ended
ends-with : (v : View) (program : List PredTree) (q : QueryTree) (events more : List (Emitted Solution)) (c d : Config) (e : End) → Leads v (program ++ q.helpers) q.names events (start q) c → Leads v (program ++ q.helpers) q.names more c d →
    IsAtEnd v (program ++ q.helpers) q.names e d → EndsWith v program q (events ++ more) e
ends-with v program q events more c d e leads then ends n less =
    ended-run v program q (events ++ more) d e n (leads-on v (program ++ q.helpers) q.names events more (start q) c d leads then) ends less

-- it is about to count a Tick
cut-off : (v : View) (program : List PredTree) (q : QueryTree) (events more : List (Emitted Solution)) (c d : Config) → Leads v (program ++ q.helpers) q.names events (start q) c → Leads v (program ++ q.helpers) q.names more c d →
    IsAtTick v (program ++ q.helpers) q.names d → StandsBefore v program q (events ++ more) Tick
cut-off v program q events more c d leads then at = spent-run v program q (events ++ more) d (leads-on v (program ++ q.helpers) q.names events more (start q) c d leads then) at

-- it is about to tell this note
stands-before : (v : View) (program : List PredTree) (q : QueryTree) (events more : List (Emitted Solution)) (c d : Config) (n : Note) (mode : Mode) → IsWork mode n → Leads v (program ++ q.helpers) q.names events (start q) c → Leads v (program ++ q.helpers) q.names more c d →
    IsAtNote v (program ++ q.helpers) q.names n d → StandsBefore v program q (events ++ more) n
stands-before v program q events more c d Tick mode is leads then at = cut-off v program q events more c d leads then at
stands-before v program q events more c d (Load k) mode is leads then at = λ n run r. load-prefix v program q (events ++ more) d k n run (leads-on v (program ++ q.helpers) q.names events more (start q) c d leads then) at r
stands-before v program q events more c d (Out text) mode is leads then at = absurd is

-- of a propagation that is cut short, by what happens
cut-short : (now : Now) (h : Happening) (k : ℕ) → Lasts h now → AreCutShort now k → AreCutOff h k
cut-short now (Happening.Answer a) k lasts h = none-while-running now k lasts h
cut-short now (Happening.Out text) k lasts h = none-while-running now k lasts h
cut-short now (Happening.NeedPlan call) k lasts h = none-while-running now k lasts h
cut-short now Happening.Done k lasts h = subst (λ n. AreCutShort n k) lasts h
cut-short now (Happening.Raised ball) k lasts h = subst (λ n. AreCutShort n k) lasts h
cut-short now Happening.StepsSpent k lasts h = subst (λ n. AreCutShort n k) lasts h
cut-short now Happening.WorkSpent k lasts h = tt
cut-short now Happening.Memory k lasts h = tt

adds : (mode : Mode) (old new : Budget) (now : Now) (h : Happening) (notes : List (Emitted Solution)) → Lasts h now → Counted mode old new now notes → Adds mode old new h notes
adds mode old new now h notes lasts it =
    record { kinds = it.kinds; ticks = it.ticks; finished = it.finished; cut_off = it.cut_short; runs = it.runs; loads = it.loads; others = cut-short now h it.cut_short lasts it.others }

-- what comes behind the notes
comes-behind : {M : Type 0} (v : View) (m : MachineView M) (program : List PredTree) (q : QueryTree) (events : List (Emitted Solution)) (store : StoreView M) (arenas : ArenasView M) (now : Now) (old new : Budget) (h : Happening) → GoesOn m → (r : RunsTo v m program q events) →
    (it : NextComes v q.names m.mode old new (run_of (later m store arenas now) (loaded_as m r.place.terms program q)) m.now now r.place.config h) → Lasts h now → Comes (course v program q) (events ++ it.notes) (later m store arenas now) new h
comes-behind v m program q events store arenas now old new (Happening.Answer a) on r it lasts =
    let x = it.is.0 in (
      x,
      it.is.1,
      subst (λ es. RunsTo v (later m store arenas now) program q es) (sym (append_assoc events it.notes (answered x ∷ [])))
          (runs-on v m program q events (it.notes ++ answered x ∷ []) store arenas now old new (Happening.Answer a) on r it it.is.2),
    )
comes-behind v m program q events store arenas now old new (Happening.Out text) on r it lasts =
    subst (λ es. RunsTo v (later m store arenas now) program q es) (sym (append_assoc events it.notes (noted (Out text) ∷ [])))
    (runs-on v m program q events (it.notes ++ noted (Out text) ∷ []) store arenas now old new (Happening.Out text) on r it it.is)
comes-behind v m program q events store arenas now old new (Happening.NeedPlan call) on r it lasts = absurd it.is
comes-behind v m program q events store arenas now old new Happening.Done on r it lasts =
    (ends-with v program q events it.notes r.place.config it.comes Done r.place.leads it.is.0 it.is.1, runs-on v m program q events it.notes store arenas now old new Happening.Done on r it it.is.0)
comes-behind v m program q events store arenas now old new (Happening.Raised ball) on r it lasts = (
  Raise ball,
  inl refl,
  ends-with v program q events it.notes r.place.config it.comes (Raise ball) r.place.leads it.is.0 it.is.1,
  runs-on v m program q events it.notes store arenas now old new (Happening.Raised ball) on r it it.is.0,
)
comes-behind v m program q events store arenas now old new Happening.StepsSpent on r it lasts =
    let spent : (m.mode ≡ Mode.Top) × AreStepsUsed new = subst (IsSpent m.mode new) lasts (it.spent (running-in m.now on)) in (
      record {
        next = cut-off v program q events it.notes r.place.config it.comes r.place.leads it.is.0 it.is.1;
        runs = runs-on v m program q events it.notes store arenas now old new Happening.StepsSpent on r it it.is.0;
      },
      spent.0,
      spent.1,
    )
comes-behind v m program q events store arenas now old new Happening.WorkSpent on r it lasts =
    let spent : IsWorkUsed new = subst (IsSpent m.mode new) lasts (it.spent (running-in m.now on)) in
    let work : IsWork m.mode it.is.1.0 = work-of v m.mode it.is.1.0 r.view it.is.1.1 in (
      it.is.1.0,
      work,
      record {
        next = stands-before v program q events it.notes r.place.config it.comes it.is.1.0 m.mode work r.place.leads it.is.0 it.is.1.2;
        runs = runs-on v m program q events it.notes store arenas now old new Happening.WorkSpent on r it it.is.0;
      },
      spent,
    )
comes-behind v m program q events store arenas now old new Happening.Memory on r it lasts = runs-on v m program q events it.notes store arenas now old new Happening.Memory on r it it.is

pub told-by : {M : Type 0} (v : View) (m : MachineView M) (program : List PredTree) (q : QueryTree) (events : List (Emitted Solution)) (store : StoreView M) (arenas : ArenasView M) (now : Now) (old new : Budget) (h : Happening) → GoesOn m → (r : RunsTo v m program q events) →
    NextComes v q.names m.mode old new (run_of (later m store arenas now) (loaded_as m r.place.terms program q)) m.now now r.place.config h → Lasts h now → Happens v program q events m (later m store arenas now) old new h
told-by v m program q events store arenas now old new h on r it lasts =
    record { notes = it.notes; adds = adds m.mode old new now h it.notes lasts it.counts; comes = comes-behind v m program q events store arenas now old new h on r it lasts }

-- ---- laws

done-there : (now : Now) → end_in now ≡ Some Happening.Done → now ≡ Now.Ended RunEnd.Done
done-there (Now.Going p) ended = absurd cc
done-there (Now.Settling it) ended = absurd cc
done-there (Now.Telling told) ended = absurd cc
done-there Now.Failing ended = absurd cc
done-there (Now.Raising ball) ended = absurd cc
done-there (Now.Ended RunEnd.Done) ended = refl
done-there (Now.Ended (RunEnd.Raised ball)) ended = absurd cc
done-there (Now.Ended RunEnd.StepsSpent) ended = absurd cc
done-there (Now.Ended RunEnd.WorkSpent) ended = absurd cc
done-there (Now.Ended RunEnd.Memory) ended = absurd cc

raised-there : (now : Now) (ball : Tree) → end_in now ≡ Some (Happening.Raised ball) → now ≡ Now.Ended (RunEnd.Raised ball)
raised-there (Now.Going p) ball ended = absurd cc
raised-there (Now.Settling it) ball ended = absurd cc
raised-there (Now.Telling told) ball ended = absurd cc
raised-there Now.Failing ball ended = absurd cc
raised-there (Now.Raising other) ball ended = absurd cc
raised-there (Now.Ended RunEnd.Done) ball ended = absurd cc
raised-there (Now.Ended (RunEnd.Raised other)) ball ended = cc
raised-there (Now.Ended RunEnd.StepsSpent) ball ended = absurd cc
raised-there (Now.Ended RunEnd.WorkSpent) ball ended = absurd cc
raised-there (Now.Ended RunEnd.Memory) ball ended = absurd cc

pub done-ends : {M : Type 0} (v : View) (m : MachineView M) (program : List PredTree) (q : QueryTree) (events : List (Emitted Solution)) → RunsTo v m program q events → HasEnded m Happening.Done → EndsWith v program q events Done
done-ends v m program q events r ended n less =
    let p : IsPlaced v m program q events = r.place in
    ended-run v program q events p.config Done n p.leads (subst (λ x. HasComeTo v q.names m.mode (run_of m (loaded_as m p.terms program q)) x p.config) (done-there m.now ended) p.is) less

pub raised-ends : {M : Type 0} (v : View) (m : MachineView M) (program : List PredTree) (q : QueryTree) (events : List (Emitted Solution)) (ball : Tree) → RunsTo v m program q events → HasEnded m (Happening.Raised ball) →
    (e : End) × IsException ball e × EndsWith v program q events e
raised-ends v m program q events ball r ended =
    let p : IsPlaced v m program q events = r.place in
    let at : HasComeTo v q.names m.mode (run_of m (loaded_as m p.terms program q)) (Now.Ended (RunEnd.Raised ball)) p.config =
    subst (λ x. HasComeTo v q.names m.mode (run_of m (loaded_as m p.terms program q)) x p.config) (raised-there m.now ball ended) p.is in
    (at.0, at.1, λ n less. ended-run v program q events p.config at.0 n p.leads at.2 less)

-- ---- a new machine

contains-first : (x : NameSlot) (names : List NameSlot) → Contains (x ∷ names) x
contains-first x names = (0, omega arith, refl)

contains-more : (x : NameSlot) (names : List NameSlot) (y : NameSlot) → Contains names y → Contains (x ∷ names) y
contains-more x names y has = (suc has.0, omega (arith, has.1), has.2)

names-below : (n : ℕ) (names : List NameSlot) → ((x : NameSlot) → Contains names x → x.slot < n) → AreNames n names
unfolding AreNames
names-below n [] below = tt
names-below n (x ∷ names) below = (below x (contains-first x names), names-below n names (λ y has. below y (contains-more x names y has)))

stands-there : {M : Type 0} (v : View) (names : List NameSlot) (mode : Mode) (w : World M) (now : Now) (c : Config) → Stands w now c → HasComeTo v names mode w now c
stands-there v names mode w (Now.Going p) c stands = stands
stands-there v names mode w (Now.Telling told) c stands = stands
stands-there v names mode w (Now.Settling it) c stands = stands
stands-there v names mode w Now.Failing c stands = stands
stands-there v names mode w (Now.Raising ball) c stands = stands
stands-there v names mode w (Now.Ended e) c stands = no-end w e c.now (HasComeTo v names mode w (Now.Ended e) c) stands.runs

pub new-runs : {M : Type 0} (v : View) (m : MachineView M) (program : List PredTree) (q : QueryTree) → Fits m.mode v → m.names ≡ q.names → IsSoundQuery program q → AreOfRules (program ++ q.helpers) → Begins m.code (begun m.store m.order m.arenas m.now) program q → RunsTo v m program q []
new-runs v m program q view names sound rules begins =
    let none : Leads v (program ++ q.helpers) q.names [] (start q) (start q) = leads-none v (program ++ q.helpers) q.names (start q) in
    record {
      view = view;
      begins = λ n run is. run-prefix v program q [] (start q) n run none is;
      place = record {
        terms = m.store.now.terms;
        config = start q;
        names = names;
        slots = names-below q.slots q.names sound.names;
        rules = rules;
        leads = none;
        good = start-good q;
        is = stands-there v q.names m.mode (run_of m (loaded_as m m.store.now.terms program q)) m.now (start q) begins;
      };
    }
