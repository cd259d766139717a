-- Goals that are run, as parts of a run: by the Ticks that they count.
use Rattle.std.proofs.Common.{◌≡◌, ◌≢◌, ℕ, ◌+◌, ◌≤◌, ◌<◌, ◌^◌, inl, inr, Bool, true, false, List, [], ◌∷◌, Option, Some, None, length, refl, sym, ◌∙◌, ap, subst, arith}
use Rattle.std.specs.Prelude.{slice_get, pos, negsuc, ℤ}
use Rattle.pi_terms.specs.Tree.{Tree}
use Rattle.pi_terms.specs.Places.{Places}
use Rattle.pi_meaning.specs.Shared.View.{View}
use Rattle.pi_core.specs.CoreTree.{PredTree}
use Rattle.pi_traces.specs.Trace.{Tick, noted}
use Rattle.pi_core.specs.declared.core_program.NameSlot.{NameSlot}
use Rattle.pi_core.specs.GoalTree.{GoalTree, GoalTrees, no_goals, goal, truth, fail, tick, call, apply, seq, alternatives, if_else, not, once, collect, count, catch, nodes}
use Rattle.pi_core.specs.GoalCells.{kind_of}
use Rattle.pi_core.specs.declared.goal_node.GoalKind.{GoalKind}
use Rattle.pi_engine_arenas.specs.declared.frames.Point.{Point}
use Rattle.pi_engine_code.specs.declared.code.Node.{Node}
use Rattle.pi_engine_code.specs.declared.code.Step.{Step}
use Rattle.pi_engine_code.specs.declared.code.Operand.{Operand}
use Rattle.pi_meaning.specs.declared.happening.Budget.{Budget}
use Rattle.pi_meaning.specs.declared.happening.Mode.{Mode}
use Rattle.pi_engine_arenas.specs.declared.run.End.{End as RunEnd}
use Rattle.pi_engine_arenas.specs.declared.run.Now.{Now}
use Rattle.pi_engine_code.specs.Code.{Tables, node_kind}
use Rattle.pi_engine_arenas.specs.Frames.{point_behind}
use Rattle.pi_meaning.specs.Machine.Configuration.{Frame, Config, config, going, Now as NowData, Entry as EntryData}
use Rattle.pi_meaning.specs.Machine.Step.{Outcome, silently, with_tick, quietly, call_step, goal_step, step, deeper, with_rest}
use Rattle.pi_meaning.specs.Machine.Shape.{IsGood}
use Rattle.pi_meaning.specs.Machine.Built.{AreOfRules}
use Rattle.pi_meaning.specs.Machine.Leads.{Leads}
use Rattle.pi_meaning.specs.Machine.Next.{some_ticks}
use Rattle.pi_engine_stands.specs.Here.{Block, AreHere, none_here, value_here}
use Rattle.pi_engine_stands.specs.Stands.{IsNumberOf, HasNumber, IsCodeOf, tables_in, World, steps_of, NowIs, going_now, telling_now, due_now, failing_now, raising_now, StackBelow, Stands, StandsGoing, GoingIs, settling_now}
use Rattle.pi_engine_stands.specs.Makes.{StandsAfter, RunsGoal, RunsGoalIn, SilentlyTo, already}
use Rattle.pi_engine_stands.specs.Views.{Fits}
use Rattle.pi_meaning.specs.Shared.Within.{is_body}
use Rattle.pi_meaning.specs.Machine.Budget.{AreStepsUsed, IsWorkUsed}
use Rattle.pi_engine_stands.specs.Goes.{counted, spent, TicksUnless, HasNone, IsWorkIn, IsAt, Goes, IsSpent, TicksOn, AtGoal, GoalGoes, IsSilent, counting}
use Rattle.pi_engine_stands.specs.Fails.{TicksTo}
use Rattle.pi_engine_stands.proofs.FramesStand.{going-of, going-size}
use Rattle.pi_engine_stands.proofs.EqualStands.{kind-of-node, going-behind, node-readable}
use Rattle.pi_engine_code.specs.declared.code.Predicate.{Predicate}
use Rattle.pi_meaning.specs.Machine.Laws.{GoesOnGood}
use Rattle.pi_engine_stands.proofs.RulesTried.{IsFound}
use Rattle.pi_engine_stands.proofs.CallRuns.{Calls, calls, call-form}
use Rattle.pi_engine_stands.proofs.SilentSteps.{silent-step}
use Rattle.pi_engine_stands.proofs.ApplyRuns.{Applies, applies, apply-form}
use Rattle.pi_meaning.proofs.Machine.LeadLemmas.{leads-none, leads-silent, step-silent, step-ticks, step-enters, step-at_tick, good-silent, good-tick, step-deepens, good-deeper}
use Rattle.pi_meaning.proofs.Machine.GoodSteps.{step-good}
use Rattle.pi_engine_stands.specs.Changes.{change}
use Rattle.pi_engine_stands.proofs.StacksLie.{stack-lies, below-lies, lies-stand}
use Rattle.pi_engine_stands.proofs.SettlesFirst.{settles-first, ticks-behind}

-- ---- where a run is

ended-not : {M : Type 0} (w : World M) (now : Now) (e : RunEnd) (x : NowData) (X : Type 0) → now ≡ Now.Ended e → NowIs w now x → X
ended-not w now e x X same (going_now is) = absurd cc
ended-not w now e x X same (settling_now is rests none) = absurd cc
ended-not w now e x X same (due_now is left due) = absurd cc
ended-not w now e x X same (telling_now is) = absurd cc
ended-not w now e x X same failing_now = absurd cc
ended-not w now e x X same raising_now = absurd cc

pub no-end : {M : Type 0} (w : World M) (e : RunEnd) (x : NowData) (X : Type 0) → NowIs w (Now.Ended e) x → X
no-end w e x X is = ended-not w (Now.Ended e) e x X refl is

pub is-at : {M : Type 0} (v : View) (names : List NameSlot) (w : World M) (now : Now) (c : Config) → Stands w now c → IsAt v names w now c
is-at v names w (Now.Going p) c stands = stands
is-at v names w (Now.Settling it) c stands = stands
is-at v names w (Now.Telling told) c stands = stands
is-at v names w Now.Failing c stands = stands
is-at v names w (Now.Raising ball) c stands = stands
is-at v names w (Now.Ended e) c stands = no-end w e c.now (IsAt v names w (Now.Ended e) c) stands.runs

-- ---- Ticks that are counted, and ends before one

pub none-counted : (mode : Mode) (old new : Budget) → new ≡ old → counted mode old new ≡ 0
none-counted Mode.Top old new same = omega (arith, ap (λ b. b.ticks) same)
none-counted (Mode.Inner rest) old new same = omega (arith, ap (λ b. b.work.goals) same)

-- a run that stands for a configuration has not ended
pub unspent : {M : Type 0} (w : World M) (mode : Mode) (b : Budget) (now : Now) (c : Config) → Stands w now c → IsSpent mode b now
unspent w mode b (Now.Going p) c stands = tt
unspent w mode b (Now.Settling it) c stands = tt
unspent w mode b (Now.Telling told) c stands = tt
unspent w mode b Now.Failing c stands = tt
unspent w mode b (Now.Raising ball) c stands = tt
unspent w mode b (Now.Ended e) c stands = no-end w e c.now (IsSpent mode b (Now.Ended e)) stands.runs

spent-is : (mode : Mode) (old new : Budget) (now : Now) → new ≡ old → now ≡ Now.Ended (spent mode) → HasNone mode old → IsSpent mode new now
spent-is Mode.Top old new now same ended none = subst (IsSpent Mode.Top new) (sym ended) (refl, subst AreStepsUsed (sym same) none)
spent-is (Mode.Inner rest) old new now same ended none = subst (IsSpent (Mode.Inner rest) new) (sym ended) (subst IsWorkUsed (sym same) none)

-- no Tick is counted
pub silent-ticks : {M : Type 0} (v : View) (names : List NameSlot) (mode : Mode) (b : Budget) (after : World M) (now : Now) (c : Config) → Goes v names [] after now c → IsSpent mode b now → TicksOn v names mode b b after now c
silent-ticks v names mode b after now c goes is = record { goes = subst (λ k. Goes v names (some_ticks k) after now c) (sym (none-counted mode b b refl)) goes; spent = is }

-- ---- a goal at a point

pub record GoalThere {M : Type 0} (w : World M) (p : Point) (c : Config) : Type 0 where
  pub g : GoalTree
  pub gs : GoalTrees
  pub e : Places
  pub k : List Frame
  pub steps : (v : View) (names : List NameSlot) → SilentlyTo v w.loaded.preds names c (config (going (goal g gs) e w.store.now.state k) c.stack)
  pub stands : StandsGoing w p (goal g gs) e k c.stack

-- where it is run: silent steps lead there, as far as something was settled
abbrev pub at_goal : {M : Type 0} (w : World M) (p : Point) (c : Config) → GoalThere w p c → Config
at_goal w p c it = config (going (goal it.g it.gs) it.e w.store.now.state it.k) c.stack

pub goal-first : {M : Type 0} (w after : World M) (p : Point) (c : Config) (v : View) (names : List NameSlot) (mode : Mode) (old new : Budget) (now : Now) → w.loaded ≡ after.loaded → AreOfRules w.loaded.preds → IsGood c → (it : GoalThere w p c) →
    (IsGood (at_goal w p c it) → TicksOn v names mode old new after now (at_goal w p c it)) → TicksOn v names mode old new after now c
goal-first w after p c v names mode old new now same rules good it behind =
    ticks-behind v names mode old new after now c (at_goal w p c it) (subst (λ l. AreOfRules l.preds) same rules) good (subst (λ l. SilentlyTo v l.preds names c (at_goal w p c it)) same (it.steps v names)) behind

same-step : (o : Option Step) (s q : Step) → o ≡ Some s → o ≡ Some q → s ≡ q
same-step o s q at other = cc

no-goal : (t : Tables) (steps : List Step) (b : Block) (place n : ℕ) (value : Option Tree) (last : Bool) (s : Step) (X : Type 0) → slice_get steps place ≡ Some s → 0 < n → ((o : Operand) → s.node ≢ Node.Value o) → AreHere t steps b place n no_goals value last → X
no-goal t steps b place n value last s X at some no_value none_here = absurd (omega (arith, some))
no-goal t steps b place n value last s X at some no_value (value_here is) = absurd (no_value is.operand (ap (λ r. r.node) (same-step (slice_get steps place) s is.step at is.stands) ∙ is.node))

there : {M : Type 0} (w : World M) (p : Point) (s : Step) (x : NowData) (es : List EntryData) → slice_get (steps_of w.loaded) p.place ≡ Some s → 0 < p.count → ((o : Operand) → s.node ≢ Node.Value o) → StackBelow w x es → NowIs w (Now.Going p) x → GoalThere w p (config x es)
there w p s x es at some no_value entries (going_now {gs = no_goals} {e = e} {k = k} is) =
    no-goal (tables_in w.loaded) (steps_of w.loaded) is.block p.place p.count is.value is.last s _ at some no_value is.goals
there w p s x es at some no_value entries (going_now {gs = goal g gs} {e = e} {k = k} is) =
    record { g = g; gs = gs; e = e; k = k; steps = λ v names. already; stands = record { entries = entries; runs = going_now is } }
there w p s x es at some no_value entries (settling_now {gs = no_goals} {e = e} {k = k} is rests none) =
    no-goal (tables_in w.loaded) (steps_of w.loaded) is.block p.place p.count is.value is.last s _ at some no_value is.goals
there w p s x es at some no_value entries (settling_now {before = before} {gs = goal g gs} {e = e} {k = k} is rests none) =
    record {
      g = g;
      gs = gs;
      e = e;
      k = k;
      steps = λ v names. settles-first v w.loaded.preds names before w.store.now.state (goal g gs) e k es none;
      stands = record { entries = lies-stand w es entries rests; runs = going_now is };
    }

pub goal-there : {M : Type 0} (w : World M) (p : Point) (s : Step) (c : Config) → AtGoal w p s c → ((o : Operand) → s.node ≢ Node.Value o) → GoalThere w p c
goal-there w p s c is no_value = there w p s c.now c.stack is.at is.some no_value is.stands.entries is.stands.runs

-- ---- goals without a Tick

-- one step without a Tick, and what follows it
pub silent-goes : {M : Type 0} (v : View) (names : List NameSlot) (after : World M) (now : Now) (c d : Config) → AreOfRules after.loaded.preds → IsGood c → step v after.loaded.preds names c ≡ silently d → IsAt v names after now d → Goes v names [] after now c
silent-goes v names after now c d rules good is at =
    record {
      comes = d;
      leads = leads-silent v after.loaded.preds names [] c c d (leads-none v after.loaded.preds names c) (step-silent v after.loaded.preds names c d rules good is);
      good = good-silent v after.loaded.preds names c d good is;
      is = at;
    }

stands-silent : {M : Type 0} (w : World M) (now : Now) (o : Outcome) (d : Config) → o ≡ silently d → StandsAfter w now o → Stands w now d
stands-silent w now o d same stands = subst (StandsAfter w now) same stands

not-silent : (n : Node) (o : Operand) → IsSilent n → n ≢ Node.Value o
not-silent n o silent same = subst IsSilent same silent

-- a silent goal is run
pub runs-silent : {M : Type 0} (before after : World M) (p : Point) (s : Step) (now : Now) (mode : Mode) (b : Budget) → before.loaded ≡ after.loaded → IsSilent s.node → RunsGoalIn mode p s (change before after now) → GoalGoes mode b b p s (change before after now)
unfolding step
runs-silent before after p s now mode b same silent runs v fits names c is =
    let it : GoalThere before p c = goal-there before p s c is (λ o. not-silent s.node o silent) in
    let preds : List PredTree = before.loaded.preds in
    let going_it : GoingIs before p (goal it.g it.gs) it.e it.k = going-of before p _ it.e before.store.now.state it.k it.stands.runs in
    let x = silent-step v preds (tables_in before.loaded) going_it.block s.node it.g it.gs it.e before.store.now.state it.k c.stack silent (node-readable before p s it.g it.gs it.e it.k s.node is.at going_it refl)
    (kind-of-node before p s it.g it.gs it.e it.k s.node is.at going_it refl) in
    let stands : Stands after now x.0 = stands-silent after now _ x.0 x.1 (runs v fits it.g it.gs it.e it.k c.stack is.at it.stands) in
    let d : Config = at_goal before p c it in
    goal-first before after p c v names mode b b now same is.rules is.good it
    (λ good. silent-ticks v names mode b after now d
    (silent-goes v names after now d x.0 (subst (λ l. AreOfRules l.preds) same is.rules) good (ap (λ l. step v l.preds names d) (sym same) ∙ x.1) (is-at v names after now x.0 stands))
    (unspent after mode b now x.0 stands))

-- ---- Ticks

one-tick : (v : View) (preds : List PredTree) (names : List NameSlot) (c d : Config) → Leads v preds names (noted Tick ∷ []) c d → Leads v preds names (some_ticks 1) c d
one-tick v preds names c d leads = leads

pub ticks-on : {M : Type 0} (v : View) (names : List NameSlot) (after : World M) (now : Now) (c d : Config) → AreOfRules after.loaded.preds → IsGood c → step v after.loaded.preds names c ≡ with_tick d → Stands after now d → Goes v names (some_ticks 1) after now c
ticks-on v names after now c d rules good is stands =
    record { comes = d; leads = one-tick v after.loaded.preds names c d (step-ticks v after.loaded.preds names c d rules good is); good = good-tick v after.loaded.preds names c d good is; is = is-at v names after now d stands }

pub quiet-on : {M : Type 0} (v : View) (names : List NameSlot) (after : World M) (now : Now) (c d : Config) → AreOfRules after.loaded.preds → IsGood c → step v after.loaded.preds names c ≡ quietly d → Stands after now d → Goes v names (some_ticks 0) after now c
quiet-on v names after now c d rules good is stands =
    record { comes = d; leads = step-enters v after.loaded.preds names c d rules good is; good = subst GoesOnGood is (step-good v after.loaded.preds names c good); is = is-at v names after now d stands }

pub deeper-on : {M : Type 0} (v : View) (names : List NameSlot) (after : World M) (now : Now) (c d : Config) → AreOfRules after.loaded.preds → IsGood c → step v after.loaded.preds names c ≡ deeper d → Stands after now d → Goes v names (some_ticks 0) after now c
deeper-on v names after now c d rules good is stands =
    record { comes = d; leads = step-deepens v after.loaded.preds names c d rules good is; good = good-deeper v after.loaded.preds names c d good is; is = is-at v names after now d stands }

-- a Tick of the body of a planner call is work
body-ticks : (v : View) (rest : ℤ) → Fits (Mode.Inner rest) v → IsWorkIn v Tick
body-ticks v (pos n) fits = ap is_body fits
body-ticks v (negsuc n) fits = absurd fits

-- the budget has no Tick left
pub ticks-out : {M : Type 0} (v : View) (names : List NameSlot) (mode : Mode) (after : World M) (now : Now) (c d : Config) → AreOfRules after.loaded.preds → IsGood c → step v after.loaded.preds names c ≡ with_tick d → Fits mode v → now ≡ Now.Ended (spent mode) → Goes v names (some_ticks 0) after now c
ticks-out v names Mode.Top after now c d rules good is fits ended =
    record { comes = c; leads = leads-none v after.loaded.preds names c; good = good; is = subst (λ n. IsAt v names after n c) (sym ended) (step-at_tick v after.loaded.preds names c d rules good is) }
ticks-out v names (Mode.Inner rest) after now c d rules good is fits ended =
    record { comes = c; leads = leads-none v after.loaded.preds names c; good = good; is = subst (λ n. IsAt v names after n c) (sym ended) (Tick, body-ticks v rest fits, step-at_tick v after.loaded.preds names c d rules good is) }

-- a step that counts its Tick, or before which the run ends
pub ticks-to : {M : Type 0} (v : View) (names : List NameSlot) (mode : Mode) (old new : Budget) (after : World M) (now : Now) (c d : Config) → AreOfRules after.loaded.preds → IsGood c → step v after.loaded.preds names c ≡ with_tick d → Fits mode v →
    TicksTo (counting mode old new) after now d → TicksOn v names mode old new after now c
ticks-to v names mode old new after now c d rules good is fits (inl it) =
    record {
      goes = subst (λ k. Goes v names (some_ticks k) after now c) (sym it.0) (ticks-on v names after now c d rules good is it.1);
      spent = unspent after mode new now d it.1;
    }
ticks-to v names mode old new after now c d rules good is fits (inr it) =
    record {
      goes = subst (λ k. Goes v names (some_ticks k) after now c) (sym (none-counted mode old new it.0)) (ticks-out v names mode after now c d rules good is fits it.1);
      spent = spent-is mode old new now it.0 it.1 it.2;
    }

-- a `Tick` is counted and passed
tick-of : (g : GoalTree) → GoalKind.Tick ≡ kind_of g → g ≡ tick
unfolding kind_of
tick-of truth h = absurd cc
tick-of fail h = absurd cc
tick-of tick h = refl
tick-of (call name args) h = absurd cc
tick-of (apply name args slot) h = absurd cc
tick-of (seq gs) h = absurd cc
tick-of (alternatives gs) h = absurd cc
tick-of (if_else test g other) h = absurd cc
tick-of (not g) h = absurd cc
tick-of (once g) h = absurd cc
tick-of (collect g value into) h = absurd cc
tick-of (count g into) h = absurd cc
tick-of (catch g ball handler) h = absurd cc

no-value : (n o : Node) (x : Operand) → n ≡ o → (o ≡ Node.Value x → ⊥) → n ≢ Node.Value x
no-value n o x same other is = other (sym same ∙ is)

tick-form : {M : Type 0} (w : World M) (p : Point) (s : Step) (c : Config) (v : View) (names : List NameSlot) → AtGoal w p s c → s.node ≡ Node.Tick → (it : GoalThere w p c) →
    step v w.loaded.preds names (at_goal w p c it) ≡ with_tick (config (going it.gs it.e w.store.now.state it.k) c.stack)
unfolding step goal_step node_kind
tick-form w p s c v names is node it =
    ap (λ g. goal_step v w.loaded.preds g it.e w.store.now.state (with_rest it.gs it.k c.stack))
    (tick-of it.g (kind-of-node w p s it.g it.gs it.e it.k Node.Tick is.at (going-of w p _ it.e w.store.now.state it.k it.stands.runs) node))

pub tick-passes : {M : Type 0} (w : World M) (p q : Point) (s : Step) (mode : Mode) (old new : Budget) → s.node ≡ Node.Tick → counted mode old new ≡ 1 → (p.place + s.size < 2 ^ 32 → q ≡ point_behind p s) → GoalGoes mode old new p s (change w w (Now.Going q))
tick-passes w p q s mode old new node one next v fits names c is =
    let it : GoalThere w p c = goal-there w p s c is (λ o. no-value s.node Node.Tick o node (λ h. absurd cc)) in
    let runs : GoingIs w p (goal it.g it.gs) it.e it.k = going-of w p _ it.e w.store.now.state it.k it.stands.runs in
    let size : (s.size ≡ nodes it.g) × (p.place + nodes it.g < 2 ^ 32) = going-size w p s it.g it.gs it.e it.k is.at runs in
    let d : Config = at_goal w p c it in
    goal-first w w p c v names mode old new (Now.Going q) refl is.rules is.good it
    (λ good. record {
      goes = subst (λ k. Goes v names (some_ticks k) w (Now.Going q) d) (sym one)
          (ticks-on v names w (Now.Going q) d (config (going it.gs it.e w.store.now.state it.k) c.stack) is.rules good (tick-form w p s c v names is node it)
          (subst (λ r. Stands w (Now.Going r) (config (going it.gs it.e w.store.now.state it.k) c.stack)) (sym (next (omega (arith, size.0, size.1))))
          (record { entries = it.stands.entries; runs = going_now (going-behind w p s it.g it.gs it.e it.k is.at runs) })));
      spent = tt;
    })

pub tick-refused : {M : Type 0} (w : World M) (p : Point) (s : Step) (mode : Mode) (old new : Budget) (now : Now) → s.node ≡ Node.Tick → new ≡ old → now ≡ Now.Ended (spent mode) → HasNone mode old → GoalGoes mode old new p s (change w w now)
tick-refused w p s mode old new now node same ended none v fits names c is =
    let it : GoalThere w p c = goal-there w p s c is (λ o. no-value s.node Node.Tick o node (λ h. absurd cc)) in
    let d : Config = at_goal w p c it in
    goal-first w w p c v names mode old new now refl is.rules is.good it
    (λ good. record {
      goes = subst (λ k. Goes v names (some_ticks k) w now d) (sym (none-counted mode old new same))
          (ticks-out v names mode w now d (config (going it.gs it.e w.store.now.state it.k) c.stack) is.rules good (tick-form w p s c v names is node it) fits ended);
      spent = spent-is mode old new now same ended none;
    })

-- ---- calls, by what their step comes to

-- the step of a call at a point
pub record CallThere {M : Type 0} (w : World M) (p : Point) (c : Config) (v : View) (names : List NameSlot) (quiet : Bool) : Type 0 where
  pub it : GoalThere w p c
  pub next : Config
  pub comes : goal_step v w.loaded.preds it.g it.e w.store.now.state (with_rest it.gs it.k c.stack) ≡ call_step quiet next

pub by-goal : {M : Type 0} (w : World M) (p : Point) (c : Config) (v : View) (names : List NameSlot) (it : GoalThere w p c) → step v w.loaded.preds names (at_goal w p c it) ≡ goal_step v w.loaded.preds it.g it.e w.store.now.state (with_rest it.gs it.k c.stack)
unfolding step
by-goal w p c v names it = refl

pub call-counted : {M : Type 0} (w after : World M) (p : Point) (s : Step) (now : Now) (c : Config) (v : View) (names : List NameSlot) (quiet : Bool) (mode : Mode) (old new : Budget) (x y : Now) → w.loaded ≡ after.loaded → AtGoal w p s c → CallThere w p c v names quiet →
    RunsGoal p s (change w after now) → TicksUnless quiet (counting mode old new) x y true → TicksOn v names mode old new after now c
call-counted w after p s now c v names true mode old new x y same is there_it runs ticks =
    let stands : Stands after now there_it.next = subst (StandsAfter after now) there_it.comes (runs v there_it.it.g there_it.it.gs there_it.it.e there_it.it.k c.stack is.at there_it.it.stands) in
    let d : Config = at_goal w p c there_it.it in
    goal-first w after p c v names mode old new now same is.rules is.good there_it.it
    (λ good. record {
      goes = subst (λ k. Goes v names (some_ticks k) after now d) (sym (none-counted mode old new ticks.1))
          (quiet-on v names after now d there_it.next (subst (λ l. AreOfRules l.preds) same is.rules) good (ap (λ l. step v l.preds names d) (sym same) ∙ by-goal w p c v names there_it.it ∙ there_it.comes) stands);
      spent = unspent after mode new now there_it.next stands;
    })
call-counted w after p s now c v names false mode old new x y same is there_it runs ticks =
    let stands : Stands after now there_it.next = subst (StandsAfter after now) there_it.comes (runs v there_it.it.g there_it.it.gs there_it.it.e there_it.it.k c.stack is.at there_it.it.stands) in
    let d : Config = at_goal w p c there_it.it in
    goal-first w after p c v names mode old new now same is.rules is.good there_it.it
    (λ good. record {
      goes = subst (λ k. Goes v names (some_ticks k) after now d) (sym ticks.0)
          (ticks-on v names after now d there_it.next (subst (λ l. AreOfRules l.preds) same is.rules) good (ap (λ l. step v l.preds names d) (sym same) ∙ by-goal w p c v names there_it.it ∙ there_it.comes) stands);
      spent = unspent after mode new now there_it.next stands;
    })

pub call-refused : {M : Type 0} (w : World M) (p : Point) (s : Step) (now : Now) (c : Config) (v : View) (names : List NameSlot) (quiet : Bool) (mode : Mode) (old new : Budget) (x : Now) → Fits mode v → AtGoal w p s c → CallThere w p c v names quiet →
    TicksUnless quiet (counting mode old new) x now false → TicksOn v names mode old new w now c
call-refused w p s now c v names true mode old new x fits is there_it ticks = absurd cc
call-refused w p s now c v names false mode old new x fits is there_it ticks =
    let d : Config = at_goal w p c there_it.it in
    goal-first w w p c v names mode old new now refl is.rules is.good there_it.it
    (λ good. record {
      goes = subst (λ k. Goes v names (some_ticks k) w now d) (sym (none-counted mode old new ticks.0))
          (ticks-out v names mode w now d there_it.next is.rules good (by-goal w p c v names there_it.it ∙ there_it.comes) fits ticks.1);
      spent = spent-is mode old new now ticks.0 ticks.1 ticks.2;
    })

pub call-there : {M : Type 0} (w : World M) (p : Point) (s : Step) (c : Config) (v : View) (names : List NameSlot) (q operands : ℕ) (predicate : Predicate) → AtGoal w p s c → s.node ≡ Node.Call q operands → IsFound w q predicate → CallThere w p c v names predicate.is_quiet
call-there w p s c v names q operands predicate is node known =
    let it : GoalThere w p c = goal-there w p s c is (λ o. no-value s.node (Node.Call q operands) o node (λ h. absurd cc)) in
    let runs : GoingIs w p (goal it.g it.gs) it.e it.k = going-of w p _ it.e w.store.now.state it.k it.stands.runs in
    let calls_it : Calls w it.g q operands predicate = calls w p s it.g it.gs it.e it.k c.stack q operands predicate node is.at it.stands known in
    let form = call-form w q operands predicate v it.g it.gs it.e it.k c.stack calls_it it.stands.entries.code
    (subst (λ n. operands + n ≤ length (tables_in w.loaded).operands) calls_it.it.arities (node-readable w p s it.g it.gs it.e it.k (Node.Call q operands) is.at runs node).0) in
    record { it = it; next = form.0; comes = form.1 }

pub apply-there : {M : Type 0} (w : World M) (p : Point) (s : Step) (c : Config) (v : View) (names : List NameSlot) (q operands into : ℕ) (predicate : Predicate) → AtGoal w p s c → s.node ≡ Node.Apply q operands into → IsFound w q predicate → CallThere w p c v names predicate.is_quiet
apply-there w p s c v names q operands into predicate is node known =
    let it : GoalThere w p c = goal-there w p s c is (λ o. no-value s.node (Node.Apply q operands into) o node (λ h. absurd cc)) in
    let runs : GoingIs w p (goal it.g it.gs) it.e it.k = going-of w p _ it.e w.store.now.state it.k it.stands.runs in
    let applies_it : Applies w it.g q operands into predicate = applies w p s it.g it.gs it.e it.k c.stack q operands into predicate node is.at it.stands known in
    let form = apply-form w q operands into predicate v it.g it.gs it.e it.k c.stack applies_it it.stands.entries.code
    (subst (λ n. operands + n ≤ length (tables_in w.loaded).operands) applies_it.it.arities (node-readable w p s it.g it.gs it.e it.k (Node.Apply q operands into) is.at runs node).0.0) in
    record { it = it; next = form.0; comes = form.1 }

-- the predicate that a call's number stands for
pub record FoundPredicate {M : Type 0} (w : World M) (q : ℕ) : Type 0 where
  pub predicate : Predicate
  pub at : slice_get w.loaded.code.predicates.items q ≡ Some predicate
  pub is_found : IsFound w q predicate

one-found : (o : Option Predicate) (p q : Predicate) → o ≡ Some p → o ≡ Some q → p ≡ q
one-found o p q h k = cc

found-predicate : {M : Type 0} (w : World M) (function : Bool) (q : ℕ) → IsCodeOf w.loaded.code (tables_in w.loaded) w.store.names w.loaded.preds → IsNumberOf w.loaded.preds function q → FoundPredicate w q
found-predicate w function q code number =
    let found = code.predicates q number.0 number.1 in
    record { predicate = found.0; at = found.1; is_found = λ r at. one-found (slice_get w.loaded.code.predicates.items q) found.0 r found.1 at }

pub call-found : {M : Type 0} (w : World M) (p : Point) (s : Step) (c : Config) (q operands : ℕ) → AtGoal w p s c → s.node ≡ Node.Call q operands → FoundPredicate w q
call-found w p s c q operands is node =
    found-predicate w false q (below-lies w c.now c.stack is.stands.entries).code (subst (HasNumber w.loaded.preds) node ((below-lies w c.now c.stack is.stands.entries).code.numbers p.place s is.at))

pub apply-found : {M : Type 0} (w : World M) (p : Point) (s : Step) (c : Config) (q operands into : ℕ) → AtGoal w p s c → s.node ≡ Node.Apply q operands into → FoundPredicate w q
apply-found w p s c q operands into is node =
    found-predicate w true q (below-lies w c.now c.stack is.stands.entries).code (subst (HasNumber w.loaded.preds) node ((below-lies w c.now c.stack is.stands.entries).code.numbers p.place s is.at))

pub no-predicate : {M X : Type 0} (w : World M) (q : ℕ) → FoundPredicate w q → slice_get w.loaded.code.predicates.items q ≡ None → X
no-predicate w q it none =
    let both : Some it.predicate ≡ None = sym it.at ∙ none in
    absurd cc

-- `fail`
fail-of : (g : GoalTree) → GoalKind.Fail ≡ kind_of g → g ≡ fail
unfolding kind_of
fail-of truth h = absurd cc
fail-of fail h = refl
fail-of tick h = absurd cc
fail-of (call name args) h = absurd cc
fail-of (apply name args slot) h = absurd cc
fail-of (seq gs) h = absurd cc
fail-of (alternatives gs) h = absurd cc
fail-of (if_else test g other) h = absurd cc
fail-of (not g) h = absurd cc
fail-of (once g) h = absurd cc
fail-of (collect g value into) h = absurd cc
fail-of (count g into) h = absurd cc
fail-of (catch g ball handler) h = absurd cc

pub fail-step : {M : Type 0} (w : World M) (p : Point) (s : Step) (view : View) (g : GoalTree) (gs : GoalTrees) (e : Places) (k : List Frame) (es : List EntryData) → s.node ≡ Node.Fail → slice_get (steps_of w.loaded) p.place ≡ Some s →
    StandsGoing w p (goal g gs) e k es → StandsAfter w Now.Failing (goal_step view w.loaded.preds g e w.store.now.state (with_rest gs k es))
unfolding node_kind goal_step
fail-step w p s view g gs e k es node at stands =
    let it : g ≡ fail = fail-of g (kind-of-node w p s g gs e k Node.Fail at (going-of w p _ e w.store.now.state k stands.runs) node) in
    subst (λ h. StandsAfter w Now.Failing (goal_step view w.loaded.preds h e w.store.now.state (with_rest gs k es))) (sym it) (record { entries = stack-lies w es stands.entries; runs = failing_now })
