-- What each step of the code is to a run: the Ticks that it counts, its answer, and where the run is then.
use Rattle.std.proofs.Common.{Box, Global, ◌≡◌, ℕ, zero, suc, ◌+◌, List, [], ◌∷◌, ◌++◌, refl, sym, ◌∙◌, ap, subst, append_assoc, arith}
use Rattle.pi_terms.specs.Tree.{Tree}
use Rattle.pi_terms.specs.Places.{Places}
use Rattle.pi_constraints.specs.State.{State}
use Rattle.pi_core.specs.GoalTree.{GoalTrees}
use Rattle.pi_meaning.specs.Shared.View.{View}
use Rattle.pi_core.specs.CoreTree.{PredTree}
use Rattle.pi_traces.specs.Trace.{End, Done, Raise, Abort, Miss, Deep, Tick, Load, Out, noted, Emitted, answered, count_ticks}
use Rattle.pi_meaning.specs.CoreMeaning.Run.{Solution}
use Rattle.pi_core.specs.declared.core_program.NameSlot.{NameSlot}
use Rattle.pi_core.specs.declared.answer.Answer.{Answer}
use Rattle.pi_meaning.specs.declared.happening.Budget.{Budget}
use Rattle.pi_meaning.specs.declared.happening.Mode.{Mode}
use Rattle.pi_engine_arenas.specs.declared.run.End.{End as RunEnd}
use Rattle.pi_engine_arenas.specs.declared.run.Telling.{Telling}
use Rattle.pi_engine_arenas.specs.declared.run.Now.{Now}
use Rattle.pi_engine.specs.declared.turns.Outcome.{Outcome as CodeOutcome}
use Rattle.pi_meaning.specs.Machine.Budget.{Counts}
use Rattle.pi_meaning.specs.Machine.Built.{AreOfRules}
use Rattle.pi_meaning.specs.Machine.Configuration.{Frame, Config, config, going, telling, failed, raising, Now as NowData}
use Rattle.pi_engine_stands.specs.Fails.{IsEnded, ComesTo, ComesBy, Fails}
use Rattle.pi_engine_stands.specs.Raises.{Raises}
use Rattle.pi_engine_stands.specs.Views.{Fits}
use Rattle.pi_engine_stands.specs.Goes.{counted, IsAt, Goes, IsSpent, TicksOn, IsIn, counting}
use Rattle.pi_meaning.specs.Machine.Leads.{Leads}
use Rattle.pi_meaning.specs.Machine.Next.{Tells, some_ticks}
use Rattle.pi_meaning.specs.Machine.Shape.{IsGood}
use Rattle.pi_engine_stands.specs.Stands.{World, GoingIs, NowIs, going_now, telling_now, failing_now, raising_now, Stands, StackBelow, settling_now, due_now}
use Rattle.pi_meaning.specs.Machine.Step.{Outcome, silently, with_tick, quietly, deeper, writing, answering, ending, fail_step, raise_step, step, loading}
use Rattle.pi_engine.specs.Spends.{Spends}
use Rattle.pi_engine.specs.Turns.{AreCutShort, Counted, StepIs, StepStops, IsRunning}
use Rattle.pi_engine.specs.Happens.{AreTicksAndLoads, sum_of_loads}
use Rattle.pi_engine.proofs.CountLemmas.{count-some}
use Rattle.pi_engine_stands.proofs.GoalsGo.{is-at, none-counted, unspent, silent-goes, silent-ticks, ticks-to}
use Rattle.pi_meaning.proofs.Machine.LeadLemmas.{leads-none, leads-on, step-ends, step-writes, good-writing}
use Rattle.pi_engine_stands.proofs.PointsDone.{GoesSilently}
use Rattle.pi_engine_stands.specs.Changes.{change}
use Rattle.pi_engine_stands.proofs.StacksLie.{below-lies}

-- ---- no further answer, and exceptions

-- at its end
at-end : {M : Type 0} (v : View) (names : List NameSlot) (after : World M) (now : Now) (c : Config) (e : RunEnd) (f : End) → IsGood c → now ≡ Now.Ended e → IsAt v names after (Now.Ended e) c → Goes v names [] after now c
at-end v names after now c e f good ended is =
    record { comes = c; leads = leads-none v after.loaded.preds names c; good = good; is = subst (λ n. IsAt v names after n c) (sym ended) is }

ends-so : {M : Type 0} (v : View) (names : List NameSlot) (after : World M) (now : Now) (c : Config) (e : End) → AreOfRules after.loaded.preds → IsGood c → step v after.loaded.preds names c ≡ ending e → IsEnded now e → Goes v names [] after now c
ends-so v names after now c Done rules good is ended = at-end v names after now c RunEnd.Done Done good ended (step-ends v after.loaded.preds names c Done rules good (λ h. cc) is)
ends-so v names after now c (Raise ball) rules good is ended = at-end v names after now c (RunEnd.Raised ball) (Raise ball) good ended (step-ends v after.loaded.preds names c (Raise ball) rules good (λ h. cc) is)
ends-so v names after now c (Abort ball) rules good is ended = absurd ended
ends-so v names after now c (Miss call) rules good is ended = absurd ended
ends-so v names after now c Deep rules good is ended = absurd ended

comes-to-goes : {M : Type 0} (v : View) (names : List NameSlot) (after : World M) (now : Now) (c : Config) (o : Outcome) → AreOfRules after.loaded.preds → IsGood c → step v after.loaded.preds names c ≡ o → ComesTo after now o → Goes v names [] after now c
comes-to-goes v names after now c (silently d) rules good is stands = silent-goes v names after now c d rules good is (is-at v names after now d stands)
comes-to-goes v names after now c (with_tick d) rules good is never = absurd never
comes-to-goes v names after now c (quietly d) rules good is never = absurd never
comes-to-goes v names after now c (deeper d) rules good is never = absurd never
comes-to-goes v names after now c (loading n d) rules good is never = absurd never
comes-to-goes v names after now c (writing text d) rules good is never = absurd never
comes-to-goes v names after now c (answering x d) rules good is never = absurd never
comes-to-goes v names after now c (ending e) rules good is ended = ends-so v names after now c e rules good is ended

ended-unspent : (mode : Mode) (b : Budget) (now : Now) (e : End) → IsEnded now e → IsSpent mode b now
ended-unspent mode b now Done ended = subst (IsSpent mode b) (sym ended) tt
ended-unspent mode b now (Raise ball) ended = subst (IsSpent mode b) (sym ended) tt
ended-unspent mode b now (Abort ball) ended = absurd ended
ended-unspent mode b now (Miss call) ended = absurd ended
ended-unspent mode b now Deep ended = absurd ended

comes-to-unspent : {M : Type 0} (after : World M) (mode : Mode) (b : Budget) (now : Now) (o : Outcome) → ComesTo after now o → IsSpent mode b now
comes-to-unspent after mode b now (silently d) stands = unspent after mode b now d stands
comes-to-unspent after mode b now (with_tick d) never = absurd never
comes-to-unspent after mode b now (quietly d) never = absurd never
comes-to-unspent after mode b now (deeper d) never = absurd never
comes-to-unspent after mode b now (loading n d) never = absurd never
comes-to-unspent after mode b now (writing text d) never = absurd never
comes-to-unspent after mode b now (answering x d) never = absurd never
comes-to-unspent after mode b now (ending e) ended = ended-unspent mode b now e ended

-- ---- one step

-- no propagation is cut short
none-short : (now : Now) → AreCutShort now 0
none-short (Now.Going p) = refl
none-short (Now.Settling it) = refl
none-short (Now.Telling told) = refl
none-short Now.Failing = refl
none-short (Now.Raising ball) = refl
none-short (Now.Ended RunEnd.Done) = refl
none-short (Now.Ended (RunEnd.Raised ball)) = refl
none-short (Now.Ended RunEnd.StepsSpent) = refl
none-short (Now.Ended RunEnd.WorkSpent) = tt
none-short (Now.Ended RunEnd.Memory) = tt

-- nothing is counted
pub nothing-counted : (mode : Mode) (b : Budget) (now : Now) → Counted mode b b now []
unfolding AreTicksAndLoads count_ticks
nothing-counted mode b now =
    record { kinds = tt; ticks = sym (none-counted mode b b refl); finished = 0; cut_short = 0; runs = omega arith; loads = omega arith; others = none-short now }

-- a step that counts no Tick
pub more-is : {M : Type 0} (v : View) (names : List NameSlot) (mode : Mode) (b : Budget) (after : World M) (now : Now) (c : Config) → Goes v names [] after now c → IsSpent mode b now → StepIs v names mode b b after now c CodeOutcome.More
more-is v names mode b after now c goes is = record { notes = []; counts = nothing-counted mode b now; is = goes; spent = is }

pub silent-is : {M : Type 0} (v : View) (names : List NameSlot) (mode : Mode) (b : Budget) (after : World M) (now : Now) (c : Config) → GoesSilently v names after now c → StepIs v names mode b b after now c CodeOutcome.More
silent-is v names mode b after now c it = more-is v names mode b after now c it.goes (it.unspent mode b)

-- Ticks alone are counted
ticks-kinds : (k : ℕ) → AreTicksAndLoads (some_ticks k)
unfolding AreTicksAndLoads
ticks-kinds zero = tt
ticks-kinds (suc k) = ticks-kinds k

ticks-counted : (mode : Mode) (old new : Budget) (now : Now) → Counts mode old new → Counted mode old new now (some_ticks (counted mode old new))
ticks-counted mode old new now counts = record {
  kinds = ticks-kinds (counted mode old new);
  ticks = count-some (counted mode old new);
  finished = 0;
  cut_short = 0;
  runs = omega (arith, counts.runs);
  loads = omega arith;
  others = none-short now;
}

pub ticks-is : {M : Type 0} (v : View) (names : List NameSlot) (mode : Mode) (old new : Budget) (after : World M) (now : Now) (c : Config) → Counts mode old new → TicksOn v names mode old new after now c → StepIs v names mode old new after now c CodeOutcome.More
ticks-is v names mode old new after now c counts it =
    record { notes = some_ticks (counted mode old new); counts = ticks-counted mode old new now counts; is = it.goes; spent = it.spent }

pub answer-is : {M : Type 0} (v : View) (names : List NameSlot) (mode : Mode) (b : Budget) (after : World M) (c : Config) (a : Box Answer Global) → (x : Solution) × Tells names x a.value × Goes v names (answered x ∷ []) after Now.Failing c →
    StepIs v names mode b b after Now.Failing c (CodeOutcome.Answered a)
answer-is v names mode b after c a it = record { notes = []; counts = nothing-counted mode b Now.Failing; is = it; spent = tt }

-- a text is told
telling-is : {M : Type 0} (w : World M) (x : NowData) (now : Now) (told : Box Telling Global) → now ≡ Now.Telling told → NowIs w now x →
    (gs : GoalTrees) × (e : Places) × (k : List Frame) × (x ≡ telling told.value.text gs e w.store.now.state k) × GoingIs w told.value.point gs e k
telling-is w x now told same (going_now is) = absurd cc
telling-is w x now told same (settling_now is rests none) = absurd cc
telling-is w x now told same (telling_now {told = other} {gs = gs} {e = e} {k = k} is) =
    let it : other ≡ told = cc in
    (gs, e, k, ap (λ t. telling t.value.text gs e w.store.now.state k) it, subst (λ t. GoingIs w t.value.point gs e k) it is)
telling-is w x now told same (due_now is left due) = absurd cc
telling-is w x now told same failing_now = absurd cc
telling-is w x now told same raising_now = absurd cc

tells-step : (v : View) (preds : List PredTree) (names : List NameSlot) (text : List ℕ) (gs : GoalTrees) (e : Places) (s : State) (k : List Frame) (c : Config) → c.now ≡ telling text gs e s k → step v preds names c ≡ writing text (config (going gs e s k) c.stack)
unfolding step
tells-step v preds names text gs e s k c is = ap (λ x. step v preds names (config x c.stack)) is

pub told-is : {M : Type 0} (w : World M) (v : View) (names : List NameSlot) (mode : Mode) (b : Budget) (told : Box Telling Global) (c : Config) → IsIn v names w (Now.Telling told) c →
    StepIs v names mode b b w (Now.Going told.value.point) c (CodeOutcome.Told told)
told-is w v names mode b told c is =
    let stands : Stands w (Now.Telling told) c = is.is in
    let it = telling-is w c.now (Now.Telling told) told refl stands.runs in
    let next : Config = config (going it.0 it.1 w.store.now.state it.2) c.stack in
    let writes : step v w.loaded.preds names c ≡ writing told.value.text next = tells-step v w.loaded.preds names told.value.text it.0 it.1 w.store.now.state it.2 c it.3 in
    let goes : Goes v names (noted (Out told.value.text) ∷ []) w (Now.Going told.value.point) c =
    record {
      comes = next;
      leads = step-writes v w.loaded.preds names c next told.value.text is.rules is.good writes;
      good = good-writing v w.loaded.preds names c next told.value.text is.good writes;
      is = record { entries = subst (λ x. StackBelow w x c.stack) it.3 stands.entries; runs = going_now it.4 };
    } in
    record { notes = []; counts = nothing-counted mode b (Now.Going told.value.point); is = goes; spent = tt }

-- a step that stops for want of memory, and counts no Tick
pub stops-there : {M : Type 0} (v : View) (names : List NameSlot) (mode : Mode) (b : Budget) (w : World M) (c : Config) → IsGood c → StepStops v names (counting mode b b) w c
stops-there v names mode b w c good =
    more-is v names mode b w (Now.Ended RunEnd.Memory) c (record { comes = c; leads = leads-none v w.loaded.preds names c; good = good; is = tt }) tt

-- what fails
failing-is : {M : Type 0} (w : World M) (x : NowData) (now : Now) → now ≡ Now.Failing → NowIs w now x → x ≡ failed
failing-is w x now same (going_now is) = absurd cc
failing-is w x now same (settling_now is rests none) = absurd cc
failing-is w x now same (due_now is left due) = absurd cc
failing-is w x now same (telling_now is) = absurd cc
failing-is w x now same failing_now = refl
failing-is w x now same raising_now = absurd cc

fails-step : (v : View) (preds : List PredTree) (names : List NameSlot) (c : Config) → c.now ≡ failed → step v preds names c ≡ fail_step c.stack
unfolding step
fails-step v preds names c is = ap (λ x. step v preds names (config x c.stack)) is

comes-by-on : {M : Type 0} (v : View) (names : List NameSlot) (mode : Mode) (old new : Budget) (after : World M) (now : Now) (c : Config) (o : Outcome) → AreOfRules after.loaded.preds → IsGood c → step v after.loaded.preds names c ≡ o → Fits mode v →
    ComesBy (counting mode old new) after now o → TicksOn v names mode old new after now c
comes-by-on v names mode old new after now c (silently d) rules good is fits comes =
    subst (λ b. TicksOn v names mode old b after now c) (sym comes.0)
    (silent-ticks v names mode old after now c (silent-goes v names after now c d rules good is (is-at v names after now d comes.1)) (unspent after mode old now d comes.1))
comes-by-on v names mode old new after now c (with_tick d) rules good is fits comes = ticks-to v names mode old new after now c d rules good is fits comes
comes-by-on v names mode old new after now c (quietly d) rules good is fits never = absurd never
comes-by-on v names mode old new after now c (deeper d) rules good is fits never = absurd never
comes-by-on v names mode old new after now c (loading n d) rules good is fits never = absurd never
comes-by-on v names mode old new after now c (writing text d) rules good is fits never = absurd never
comes-by-on v names mode old new after now c (answering x d) rules good is fits never = absurd never
comes-by-on v names mode old new after now c (ending e) rules good is fits comes =
    subst (λ b. TicksOn v names mode old b after now c) (sym comes.0)
    (silent-ticks v names mode old after now c (ends-so v names after now c e rules good is comes.1) (ended-unspent mode old now e comes.1))

pub fails-is : {M : Type 0} (w after : World M) (v : View) (names : List NameSlot) (mode : Mode) (old new : Budget) (now : Now) (c : Config) → w.loaded ≡ after.loaded → Fits mode v → Counts mode old new → IsIn v names w Now.Failing c →
    Fails (counting mode old new) (change w after now) → StepIs v names mode old new after now c CodeOutcome.More
fails-is w after v names mode old new now c same fits counts is fails =
    ticks-is v names mode old new after now c counts
    (comes-by-on v names mode old new after now c (fail_step c.stack) (subst (λ l. AreOfRules l.preds) same is.rules) is.good (fails-step v after.loaded.preds names c (failing-is w c.now Now.Failing refl is.is.runs)) fits
    (fails c.stack (below-lies w c.now c.stack is.is.entries)))

-- what raises
raising-is : {M : Type 0} (w : World M) (x : NowData) (now : Now) (ball : Tree) → now ≡ Now.Raising ball → NowIs w now x → x ≡ raising ball
raising-is w x now ball same (going_now is) = absurd cc
raising-is w x now ball same (settling_now is rests none) = absurd cc
raising-is w x now ball same (due_now is left due) = absurd cc
raising-is w x now ball same (telling_now is) = absurd cc
raising-is w x now ball same failing_now = absurd cc
raising-is w x now ball same raising_now = cc

raises-step : (v : View) (preds : List PredTree) (names : List NameSlot) (c : Config) (ball : Tree) → c.now ≡ raising ball → step v preds names c ≡ raise_step ball c.stack
unfolding step
raises-step v preds names c ball is = ap (λ x. step v preds names (config x c.stack)) is

pub raises-is : {M : Type 0} (w after : World M) (v : View) (names : List NameSlot) (mode : Mode) (b : Budget) (old now : Now) (ball : Tree) (c : Config) → w.loaded ≡ after.loaded → old ≡ Now.Raising ball → IsIn v names w old c → Raises old (change w after now) → StepIs v names mode b b after now c CodeOutcome.More
raises-is w after v names mode b old now ball c same raised is raises =
    let stands : Stands w (Now.Raising ball) c = subst (λ n. IsAt v names w n c) raised is.is in
    let to : ComesTo after now (raise_step ball c.stack) = raises ball c.stack raised (below-lies w c.now c.stack stands.entries) is.good.balanced in
    more-is v names mode b after now c
    (comes-to-goes v names after now c (raise_step ball c.stack) (subst (λ l. AreOfRules l.preds) same is.rules) is.good (raises-step v after.loaded.preds names c ball (raising-is w c.now (Now.Raising ball) ball refl stands.runs)) to)
    (comes-to-unspent after mode b now (raise_step ball c.stack) to)

-- ---- steps in a row

pub counted-on : (mode : Mode) (a b c : Budget) → Spends mode a b → Spends mode b c → counted mode a b + counted mode b c ≡ counted mode a c
counted-on Mode.Top a b c first second = omega (arith, first.ticks, second.ticks)
counted-on (Mode.Inner rest) a b c first second = omega (arith, first.goals, second.goals)

both-kinds : (front back : List (Emitted Solution)) → AreTicksAndLoads front → AreTicksAndLoads back → AreTicksAndLoads (front ++ back)
unfolding AreTicksAndLoads
both-kinds [] back h k = k
both-kinds (noted Tick ∷ front) back h k = both-kinds front back h k
both-kinds (noted (Load n) ∷ front) back h k = both-kinds front back h k
both-kinds (noted (Out text) ∷ front) back h k = absurd h
both-kinds (answered x ∷ front) back h k = absurd h

pub both-ticks : (front back : List (Emitted Solution)) → count_ticks (front ++ back) ≡ count_ticks front + count_ticks back
unfolding count_ticks
both-ticks [] back = omega arith
both-ticks (noted Tick ∷ front) back = ap suc (both-ticks front back) ∙ omega arith
both-ticks (noted (Load n) ∷ front) back = both-ticks front back
both-ticks (noted (Out text) ∷ front) back = both-ticks front back
both-ticks (answered x ∷ front) back = both-ticks front back

both-loads : (front back : List (Emitted Solution)) → sum_of_loads (front ++ back) ≡ sum_of_loads front + sum_of_loads back
unfolding sum_of_loads
both-loads [] back = omega arith
both-loads (noted Tick ∷ front) back = both-loads front back
both-loads (noted (Load n) ∷ front) back = let rest : _ = both-loads front back in omega (arith, rest)
both-loads (noted (Out text) ∷ front) back = both-loads front back
both-loads (answered x ∷ front) back = both-loads front back

pub none-while-running : (now : Now) (k : ℕ) → IsRunning now → AreCutShort now k → k ≡ 0
none-while-running (Now.Going p) k running h = h
none-while-running (Now.Settling it) k running h = h
none-while-running (Now.Telling told) k running h = h
none-while-running Now.Failing k running h = h
none-while-running (Now.Raising ball) k running h = h
none-while-running (Now.Ended e) k running h = absurd running

-- what is counted in a run that went on, and then
pub counted-then : (mode : Mode) (a b d : Budget) (now next : Now) (front back : List (Emitted Solution)) → Spends mode a b → Spends mode b d → IsRunning now → Counted mode a b now front → Counted mode b d next back →
    Counted mode a d next (front ++ back)
counted-then mode a b d now next front back one two running x y =
    let ticks : count_ticks (front ++ back) ≡ count_ticks front + count_ticks back = both-ticks front back in
    let loads : sum_of_loads (front ++ back) ≡ sum_of_loads front + sum_of_loads back = both-loads front back in
    let all : counted mode a b + counted mode b d ≡ counted mode a d = counted-on mode a b d one two in
    let whole : x.cut_short ≡ 0 = none-while-running now x.cut_short running x.others in
    record {
      kinds = both-kinds front back x.kinds y.kinds;
      ticks = omega (arith, ticks, all, x.ticks, y.ticks);
      finished = x.finished + y.finished;
      cut_short = y.cut_short;
      runs = omega (arith, x.runs, y.runs, whole);
      loads = omega (arith, loads, x.loads, y.loads);
      others = y.others;
    }

-- a run, and what it does from where it is
pub goes-on : {M : Type 0} (v : View) (names : List NameSlot) (front back : List (Emitted Solution)) (w after : World M) (old now : Now) (c : Config) → w.loaded ≡ after.loaded → (it : Goes v names front w old c) → Goes v names back after now it.comes → Goes v names (front ++ back) after now c
goes-on v names front back w after old now c same it on =
    record {
      comes = on.comes;
      leads = leads-on v after.loaded.preds names front back c it.comes on.comes (subst (λ l. Leads v l.preds names front c it.comes) same it.leads) on.leads;
      good = on.good;
      is = on.is;
    }

pub is-in : {M : Type 0} (v : View) (names : List NameSlot) (events : List (Emitted Solution)) (w : World M) (now : Now) (c : Config) → AreOfRules w.loaded.preds → (it : Goes v names events w now c) → IsIn v names w now it.comes
is-in v names events w now c rules it = record { is = it.is; good = it.good; rules = rules }

-- one step more
pub more-goes : {M : Type 0} (v : View) (names : List NameSlot) (front : List (Emitted Solution)) (mode : Mode) (b d : Budget) (w after : World M) (old now : Now) (c : Config) → w.loaded ≡ after.loaded → (it : Goes v names front w old c) →
    (step : StepIs v names mode b d after now it.comes CodeOutcome.More) → Goes v names (front ++ step.notes) after now c
more-goes v names front mode b d w after old now c same it step = goes-on v names front step.notes w after old now c same it step.is

pub answer-goes : {M : Type 0} (v : View) (names : List NameSlot) (front : List (Emitted Solution)) (mode : Mode) (b d : Budget) (w after : World M) (old now : Now) (c : Config) (told : Box Answer Global) → w.loaded ≡ after.loaded → (it : Goes v names front w old c) →
    (step : StepIs v names mode b d after now it.comes (CodeOutcome.Answered told)) → (x : Solution) × Tells names x told.value × Goes v names ((front ++ step.notes) ++ answered x ∷ []) after now c
answer-goes v names front mode b d w after old now c told same it step =
    let x : Solution = step.is.0 in (
      x,
      step.is.1,
      subst (λ es. Goes v names es after now c) (sym (append_assoc front step.notes (answered x ∷ []))) (goes-on v names front (step.notes ++ answered x ∷ []) w after old now c same it step.is.2),
    )

pub told-goes : {M : Type 0} (v : View) (names : List NameSlot) (front : List (Emitted Solution)) (mode : Mode) (b d : Budget) (w after : World M) (old now : Now) (c : Config) (told : Box Telling Global) → w.loaded ≡ after.loaded → (it : Goes v names front w old c) →
    (step : StepIs v names mode b d after now it.comes (CodeOutcome.Told told)) → Goes v names ((front ++ step.notes) ++ noted (Out told.value.text) ∷ []) after now c
told-goes v names front mode b d w after old now c told same it step =
    subst (λ es. Goes v names es after now c) (sym (append_assoc front step.notes (noted (Out told.value.text) ∷ [])))
    (goes-on v names front (step.notes ++ noted (Out told.value.text) ∷ []) w after old now c same it step.is)
