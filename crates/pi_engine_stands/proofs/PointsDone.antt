-- Points whose goals are done, and where a run goes from there.
use Rattle.std.proofs.Common.{◌≡◌, ◌≢◌, ℕ, ◌<◌, Bool, List, [], ◌∷◌, Option, Some, None, refl, sym, ◌∙◌, ap, subst, arith}
use Rattle.std.specs.Prelude.{slice_get, Result, Ok, Err}
use Rattle.pi_terms.specs.Tree.{Tree}
use Rattle.pi_terms.specs.Places.{Places}
use Rattle.pi_meaning.specs.Shared.View.{View}
use Rattle.pi_core.specs.CoreTree.{PredTree}
use Rattle.pi_traces.specs.Trace.{Raise, answered}
use Rattle.pi_meaning.specs.CoreMeaning.Run.{Solution}
use Rattle.pi_core.specs.GoalTree.{GoalTrees, no_goals, goal}
use Rattle.pi_core.specs.declared.core_program.NameSlot.{NameSlot}
use Rattle.pi_core.specs.declared.answer.Answer.{Answer}
use Rattle.pi_terms.proofs.GetLemmas.{get_some}
use Rattle.pi_engine_arenas.specs.declared.frames.Point.{Point}
use Rattle.pi_engine_code.specs.declared.code.Step.{Step}
use Rattle.pi_engine_code.specs.declared.code.Node.{Node}
use Rattle.pi_engine_code.specs.declared.code.Operand.{Operand}
use Rattle.pi_engine_code.specs.declared.code.Code.{Code}
use Rattle.pi_meaning.specs.declared.happening.Budget.{Budget}
use Rattle.pi_meaning.specs.declared.happening.Mode.{Mode}
use Rattle.pi_engine_arenas.specs.declared.run.End.{End as RunEnd}
use Rattle.pi_engine_arenas.specs.declared.run.Now.{Now}
use Rattle.pi_engine_code.specs.Code.{Tables}
use Rattle.pi_engine_arenas.specs.Frames.{frame_at}
use Rattle.pi_meaning.specs.Machine.Configuration.{Frame, Config, config, going, failed, raising, Now as NowData, Entry as EntryData}
use Rattle.pi_meaning.specs.Machine.Step.{ending, raise_step, step}
use Rattle.pi_meaning.specs.Machine.Shape.{IsGood}
use Rattle.pi_meaning.specs.Machine.Built.{AreOfRules}
use Rattle.pi_meaning.specs.Machine.Leads.{Leads, IsAtEnd}
use Rattle.pi_engine_stands.specs.Here.{Block, Here, AreHere, none_here, value_here, last_here, more_here, GoesOn, answers, gives, returns_to_end, more_of_block, returns_to}
use Rattle.pi_engine_stands.specs.Stands.{tables_in, World, steps_of, NowIs, going_now, StackBelow, Stands, StandsGoing, GoingIs, settling_now}
use Rattle.pi_engine_stands.specs.Makes.{SilentlyTo, already, GoesFrom, AnswersOpen}
use Rattle.pi_engine_stands.specs.Answers.{AreNames, IsTold, AnswersQuery}
use Rattle.pi_meaning.specs.Machine.Next.{Tells}
use Rattle.pi_engine_stands.specs.Goes.{IsOther, Goes, IsSpent, TicksOn, AtGoal, IsSilent, PointIsDone}
use Rattle.pi_engine_code.proofs.CodeLemmas.{stands-within}
use Rattle.pi_engine_stands.proofs.PointLemmas.{first-of}
use Rattle.pi_engine_stands.proofs.FramesStand.{going-of}
use Rattle.pi_engine_stands.proofs.GoalsGo.{is-at, unspent, silent-ticks}
use Rattle.pi_meaning.proofs.Machine.LeadLemmas.{leads-on, leads-silent, step-silent, step-answers, step-ends, good-silent, good-answer}
use Rattle.pi_engine_stands.specs.Changes.{change}
use Rattle.pi_engine_stands.proofs.StacksLie.{lies-stand}
use Rattle.pi_engine_stands.proofs.SettlesFirst.{settles-first, silently-then, silently-leads}

-- ---- silent steps in a row

pub silently-goes : {M : Type 0} (v : View) (names : List NameSlot) (after : World M) (now : Now) (c d : Config) → AreOfRules after.loaded.preds → IsGood c → SilentlyTo v after.loaded.preds names c d → Stands after now d → Goes v names [] after now c
silently-goes v names after now c d rules good steps stands =
    let leads : Leads v after.loaded.preds names [] c d × IsGood d = silently-leads v after.loaded.preds names c d rules good steps in
    record { comes = d; leads = leads.0; good = leads.1; is = is-at v names after now d stands }

-- ---- a point whose goals are done

pub record DoneThere {M : Type 0} (w : World M) (p : Point) (c : Config) : Type 0 where
  pub e : Places
  pub k : List Frame
  pub steps : (v : View) (names : List NameSlot) → SilentlyTo v w.loaded.preds names c (config (going no_goals e w.store.now.state k) c.stack)
  pub stands : StandsGoing w p no_goals e k c.stack

done-in : {M : Type 0} (w : World M) (p : Point) (x : NowData) (es : List EntryData) → p.count ≡ 0 → StackBelow w x es → NowIs w (Now.Going p) x → DoneThere w p (config x es)
done-in w p x es none entries (going_now {gs = no_goals} {e = e} {k = k} is) = record { e = e; k = k; steps = λ v names. already; stands = record { entries = entries; runs = going_now is } }
done-in w p x es none entries (going_now {gs = goal g gs} {e = e} {k = k} is) =
    absurd (omega (arith, none, (first-of (tables_in w.loaded) (steps_of w.loaded) is.block p.place p.count g gs is.value is.last is.goals).some))
done-in w p x es none entries (settling_now {before = before} {gs = no_goals} {e = e} {k = k} is rests settled) =
    record { e = e; k = k; steps = λ v names. settles-first v w.loaded.preds names before w.store.now.state no_goals e k es settled; stands = record { entries = lies-stand w es entries rests; runs = going_now is } }
done-in w p x es none entries (settling_now {gs = goal g gs} {e = e} {k = k} is rests settled) =
    absurd (omega (arith, none, (first-of (tables_in w.loaded) (steps_of w.loaded) is.block p.place p.count g gs is.value is.last is.goals).some))

pub done-there : {M : Type 0} (w : World M) (p : Point) (c : Config) → PointIsDone w p c → DoneThere w p c
done-there w p c is = done-in w p c.now c.stack is.none is.stands.entries is.stands.runs

-- a point without a frame has frame 0
no-frame : (t : Tables) (steps : List Step) (h : Here) (b : Block) (leaves : Bool) (n : ℕ) (k : List Frame) → frame_at h.frames n ≡ None → GoesOn t steps h b leaves n k → n ≡ 0
no-frame t steps h b leaves n k none (answers is) = refl
no-frame t steps h b leaves n k none (gives base is lies) = refl
no-frame t steps h b leaves n k none (returns_to_end d is lies holds) = refl
no-frame t steps h b leaves n k none (more_of_block p gs value last out k' at same earlier some here and_leaves rest) = absurd cc
no-frame t steps h b leaves n k none (returns_to p d gs value last out k' at same lies earlier some holds here and_leaves rest) = absurd cc

pub frame-none : {M : Type 0} (w : World M) (p : Point) (c : Config) → PointIsDone w p c → frame_at w.arenas.frames p.frame ≡ None → p.frame ≡ 0
frame-none w p c is none =
    let there : DoneThere w p c = done-there w p c is in
    let going_is : GoingIs w p no_goals there.e there.k = going-of w p no_goals there.e w.store.now.state there.k there.stands.runs in
    no-frame (tables_in w.loaded) (steps_of w.loaded) _ going_is.block going_is.behind.leaves p.frame going_is.rest none going_is.behind.frames

-- ---- where it goes

-- no Tick is counted, and the run hasn't ended for want of one
pub record GoesSilently {M : Type 0} (v : View) (names : List NameSlot) (after : World M) (now : Now) (c : Config) : Type 0 where
  pub goes : Goes v names [] after now c
  pub unspent : (mode : Mode) (b : Budget) → IsSpent mode b now

-- what goals that are done lead to, once they stand in the form of a step
from-done : {M : Type 0} (w after : World M) (p : Point) (v : View) (names : List NameSlot) (c d : Config) (now : Now) → w.loaded ≡ after.loaded → PointIsDone w p c → (it : DoneThere w p c) →
    SilentlyTo v w.loaded.preds names (config (going no_goals it.e w.store.now.state it.k) c.stack) d → Stands after now d → GoesSilently v names after now c
from-done w after p v names c d now same is it steps stands =
    record {
      goes = silently-goes v names after now c d (subst (λ l. AreOfRules l.preds) same is.rules) is.good
          (subst (λ l. SilentlyTo v l.preds names c d) same (silently-then v w.loaded.preds names c (config (going no_goals it.e w.store.now.state it.k) c.stack) d (it.steps v names) steps)) stands;
      unspent = λ mode b. unspent after mode b now d stands;
    }

pub follows-goes : {M : Type 0} (w after : World M) (p : Point) (v : View) (names : List NameSlot) (c : Config) (now : Now) → w.loaded ≡ after.loaded → PointIsDone w p c → GoesFrom p (change w after now) → GoesSilently v names after now c
follows-goes w after p v names c now same is goes =
    let it : DoneThere w p c = done-there w p c is in
    let to = goes v names it.e it.k c.stack it.stands in
    from-done w after p v names c to.0 now same is it to.1 to.2

pub level-goes : {M : Type 0} (w after : World M) (p : Point) (v : View) (names : List NameSlot) (c : Config) (now : Now) → w.loaded ≡ after.loaded → PointIsDone w p c → frame_at w.arenas.frames p.frame ≡ None → 0 < w.arenas.level → AnswersOpen (change w after now) → GoesSilently v names after now c
level-goes w after p v names c now same is none some goes =
    let it : DoneThere w p c = done-there w p c is in
    let to = goes some v names p it.e it.k c.stack it.stands is.none (frame-none w p c is none) is.good.balanced in
    from-done w after p v names c to.0 now same is it to.1 to.2

-- an answer of the query
pub record QueryTold {M : Type 0} (w after : World M) (v : View) (names : List NameSlot) (c : Config) (told : Result Answer Tree) : Type 0 where
  pub solution : Solution
  pub leads : Leads v w.loaded.preds names [] c (config (going no_goals solution.slots solution.state []) c.stack)
  pub good : IsGood (config (going no_goals solution.slots solution.state []) c.stack)
  pub is : IsTold v (change w after Now.Failing) names solution c.stack told

query-told : {M : Type 0} (w after : World M) (p : Point) (v : View) (names : List NameSlot) (c : Config) (told : Result Answer Tree) → PointIsDone w p c → frame_at w.arenas.frames p.frame ≡ None → w.arenas.level ≡ 0 → AreNames w.loaded.query_slots names →
    AnswersQuery names told (change w after Now.Failing) → QueryTold w after v names c told
query-told w after p v names c told is none no_level are answered_so =
    let it : DoneThere w p c = done-there w p c is in
    let to = answered_so v p it.e it.k c.stack it.stands is.none (frame-none w p c is none) no_level are in
    let leads : Leads v w.loaded.preds names [] c (config (going no_goals to.0.slots to.0.state []) c.stack) × IsGood (config (going no_goals to.0.slots to.0.state []) c.stack) =
    silently-leads v w.loaded.preds names c _ is.rules is.good
    (silently-then v w.loaded.preds names c (config (going no_goals it.e w.store.now.state it.k) c.stack) (config (going no_goals to.0.slots to.0.state []) c.stack) (it.steps v names) to.1) in
    record { solution = to.0; leads = leads.0; good = leads.1; is = to.2 }

pub query-answers : {M : Type 0} (w after : World M) (p : Point) (v : View) (names : List NameSlot) (c : Config) (a : Answer) → w.loaded ≡ after.loaded → PointIsDone w p c → frame_at w.arenas.frames p.frame ≡ None → w.arenas.level ≡ 0 → AreNames w.loaded.query_slots names →
    AnswersQuery names (Ok a) (change w after Now.Failing) → (x : Solution) × Tells names x a × Goes v names (answered x ∷ []) after Now.Failing c
query-answers w after p v names c a same is none no_level are answered_so =
    let it : QueryTold w after v names c (Ok a) = query-told w after p v names c (Ok a) is none no_level are answered_so in
    let preds : List PredTree = w.loaded.preds in
    let at : Config = config (going no_goals it.solution.slots it.solution.state []) c.stack in
    let next : Config = config failed c.stack in (
      it.solution,
      it.is.1,
      record {
        comes = next;
        leads = subst (λ l. Leads v l.preds names (answered it.solution ∷ []) c next) same
            (leads-on v preds names [] (answered it.solution ∷ []) c at next it.leads (step-answers v preds names at next it.solution is.rules it.good it.is.0));
        good = good-answer v preds names at next it.solution it.good it.is.0;
        is = it.is.2;
      },
    )

raised-ends : (v : View) (preds : List PredTree) (names : List NameSlot) (ball : Tree) → step v preds names (config (raising ball) []) ≡ ending (Raise ball)
unfolding step raise_step
raised-ends v preds names ball = refl

pub query-raised : {M : Type 0} (w after : World M) (p : Point) (v : View) (names : List NameSlot) (c : Config) (ball : Tree) → w.loaded ≡ after.loaded → PointIsDone w p c → frame_at w.arenas.frames p.frame ≡ None → w.arenas.level ≡ 0 → AreNames w.loaded.query_slots names →
    AnswersQuery names (Err ball) (change w after Now.Failing) → Goes v names [] after (Now.Ended (RunEnd.Raised ball)) c
query-raised w after p v names c ball same is none no_level are answered_so =
    let it : QueryTold w after v names c (Err ball) = query-told w after p v names c (Err ball) is none no_level are answered_so in
    let preds : List PredTree = w.loaded.preds in
    let at : Config = config (going no_goals it.solution.slots it.solution.state []) c.stack in
    let next : Config = config (raising ball) [] in
    let good : IsGood next = good-silent v preds names at next it.good it.is in
    record {
      comes = next;
      leads = subst (λ l. Leads v l.preds names [] c next) same (leads-silent v preds names [] c at next it.leads (step-silent v preds names at next is.rules it.good it.is));
      good = good;
      is = subst (λ l. IsAtEnd v l.preds names (Raise ball) next) same (step-ends v preds names next (Raise ball) is.rules good (λ h. cc) (raised-ends v preds names ball));
    }

-- ---- the step at a point that has goals

step-in : (t : Tables) (steps : List Step) (b : Block) (place n : ℕ) (gs : GoalTrees) (value : Option Tree) (last : Bool) → 0 < n → AreHere t steps b place n gs value last → (s : Step) × (slice_get steps place ≡ Some s)
step-in t steps b place n gs value last some none_here = absurd (omega (arith, some))
step-in t steps b place n gs value last some (value_here is) = (is.step, is.stands)
step-in t steps b place n gs value last some (last_here {g = g} is) = get_some steps place (stands-within t steps place g is.stands)
step-in t steps b place n gs value last some (more_here {g = g} is rest) = get_some steps place (stands-within t steps place g is.stands)

step-now : {M : Type 0} (w : World M) (p : Point) (x : NowData) → 0 < p.count → NowIs w (Now.Going p) x → (s : Step) × (slice_get (steps_of w.loaded) p.place ≡ Some s)
step-now w p x some (settling_now {gs = gs} is rests none) = step-in (tables_in w.loaded) (steps_of w.loaded) is.block p.place p.count gs is.value is.last some is.goals
step-now w p x some (going_now {gs = gs} is) = step-in (tables_in w.loaded) (steps_of w.loaded) is.block p.place p.count gs is.value is.last some is.goals

pub step-there : {M : Type 0} (w : World M) (p : Point) (c : Config) → 0 < p.count → Stands w (Now.Going p) c → (s : Step) × (slice_get (steps_of w.loaded) p.place ≡ Some s)
step-there w p c some stands = step-now w p c.now some stands.runs

-- the step that is found at a place
pub at-step : {M : Type 0} (w : World M) (p : Point) (code : Code) (s : Step) (c : Config) → w.loaded.code ≡ code → slice_get code.steps.items p.place ≡ Some s → 0 < p.count → Stands w (Now.Going p) c → IsGood c → AreOfRules w.loaded.preds → AtGoal w p s c
at-step w p code s c is_code found some stands good rules =
    record { at = ap (λ r. slice_get r.steps.items p.place) is_code ∙ found; some = some; stands = stands; good = good; rules = rules }

-- there is one
pub no-step : {M X : Type 0} (w : World M) (p : Point) (code : Code) (c : Config) → w.loaded.code ≡ code → slice_get code.steps.items p.place ≡ None → 0 < p.count → Stands w (Now.Going p) c → X
no-step w p code c is_code none some stands =
    let there : (r : Step) × (slice_get (steps_of w.loaded) p.place ≡ Some r) = step-there w p c some stands in
    let both : Some there.0 ≡ None = sym there.1 ∙ ap (λ r. slice_get r.steps.items p.place) is_code ∙ none in
    absurd cc

-- a node that is none of those that a turn runs at sight
pub other-node : (n : Node) → n ≢ Node.True → n ≢ Node.Fail → n ≢ Node.Tick → ((count : ℕ) → n ≢ Node.Seq count) → ((p first : ℕ) → n ≢ Node.Call p first) → IsOther n
other-node Node.True no_true no_fail no_tick no_seq no_call = no_true refl
other-node Node.Fail no_true no_fail no_tick no_seq no_call = no_fail refl
other-node Node.Tick no_true no_fail no_tick no_seq no_call = no_tick refl
other-node (Node.Seq n) no_true no_fail no_tick no_seq no_call = no_seq n refl
other-node (Node.Alt n) no_true no_fail no_tick no_seq no_call = tt
other-node Node.If no_true no_fail no_tick no_seq no_call = tt
other-node Node.Not no_true no_fail no_tick no_seq no_call = tt
other-node Node.Once no_true no_fail no_tick no_seq no_call = tt
other-node (Node.Collect value into) no_true no_fail no_tick no_seq no_call = tt
other-node (Node.Count into) no_true no_fail no_tick no_seq no_call = tt
other-node (Node.Catch ball) no_true no_fail no_tick no_seq no_call = tt
other-node (Node.Unify left right) no_true no_fail no_tick no_seq no_call = tt
other-node (Node.Throw ball) no_true no_fail no_tick no_seq no_call = tt
other-node (Node.BuiltIn built name first arity) no_true no_fail no_tick no_seq no_call = tt
other-node (Node.BuiltInValue built name first arity slot) no_true no_fail no_tick no_seq no_call = tt
other-node (Node.Constrain c name first arity) no_true no_fail no_tick no_seq no_call = tt
other-node (Node.DomainValue f name first arity slot) no_true no_fail no_tick no_seq no_call = tt
other-node (Node.Solve name first arity) no_true no_fail no_tick no_seq no_call = tt
other-node (Node.Call p first) no_true no_fail no_tick no_seq no_call = no_call p first refl
other-node (Node.Apply p first into) no_true no_fail no_tick no_seq no_call = tt
other-node (Node.Value o) no_true no_fail no_tick no_seq no_call = tt
other-node (Node.CallTerm first arity) no_true no_fail no_tick no_seq no_call = tt

-- one of them that is no call, of a function or of a term, and no value counts no Tick
pub silent-node : (n : Node) → IsOther n → ((p first into : ℕ) → n ≢ Node.Apply p first into) → ((o : Operand) → n ≢ Node.Value o) → ((first arity : ℕ) → n ≢ Node.CallTerm first arity) → IsSilent n
silent-node Node.True other no_apply no_value no_term = tt
silent-node Node.Fail other no_apply no_value no_term = tt
silent-node Node.Tick other no_apply no_value no_term = other
silent-node (Node.Seq n) other no_apply no_value no_term = tt
silent-node (Node.Alt n) other no_apply no_value no_term = tt
silent-node Node.If other no_apply no_value no_term = tt
silent-node Node.Not other no_apply no_value no_term = tt
silent-node Node.Once other no_apply no_value no_term = tt
silent-node (Node.Collect value into) other no_apply no_value no_term = tt
silent-node (Node.Count into) other no_apply no_value no_term = tt
silent-node (Node.Catch ball) other no_apply no_value no_term = tt
silent-node (Node.Unify left right) other no_apply no_value no_term = tt
silent-node (Node.Throw ball) other no_apply no_value no_term = tt
silent-node (Node.BuiltIn built name first arity) other no_apply no_value no_term = tt
silent-node (Node.BuiltInValue built name first arity slot) other no_apply no_value no_term = tt
silent-node (Node.Constrain c name first arity) other no_apply no_value no_term = tt
silent-node (Node.DomainValue f name first arity slot) other no_apply no_value no_term = tt
silent-node (Node.Solve name first arity) other no_apply no_value no_term = tt
silent-node (Node.Call p first) other no_apply no_value no_term = other
silent-node (Node.Apply p first into) other no_apply no_value no_term = no_apply p first into refl
silent-node (Node.Value o) other no_apply no_value no_term = no_value o refl
silent-node (Node.CallTerm first arity) other no_apply no_value no_term = no_term first arity refl

-- a function's value, which its level has as its answer
pub value-goes : {M : Type 0} (w after : World M) (p : Point) (s : Step) (mode : Mode) (b : Budget) (v : View) (names : List NameSlot) (c : Config) (now : Now) → w.loaded ≡ after.loaded → AtGoal w p s c → (d : Config) × SilentlyTo v w.loaded.preds names c d × Stands after now d →
    TicksOn v names mode b b after now c
value-goes w after p s mode b v names c now same is to =
    silent-ticks v names mode b after now c
    (silently-goes v names after now c to.0 (subst (λ l. AreOfRules l.preds) same is.rules) is.good (subst (λ l. SilentlyTo v l.preds names c to.0) same to.1) to.2) (unspent after mode b now to.0 to.2)
