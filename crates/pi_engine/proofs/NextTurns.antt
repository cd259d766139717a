-- The turns of a call of `next`, and what the call comes to.
use Rattle.std.proofs.Common.{Box, Global, ◌≡◌, ◌≢◌, ◌⊎◌, inl, inr, ℕ, List, [], ◌∷◌, ◌++◌, Some, refl, sym, ◌∙◌, ap, subst}
use Rattle.pi_terms.specs.Tree.{Tree}
use Rattle.pi_meaning.specs.Shared.View.{View}
use Rattle.pi_traces.specs.Trace.{Out, Emitted, noted}
use Rattle.pi_meaning.specs.CoreMeaning.Run.{Solution}
use Rattle.pi_core.specs.declared.core_program.NameSlot.{NameSlot}
use Rattle.pi_core.specs.declared.answer.Answer.{Answer}
use Rattle.pi_engine_code.specs.declared.code.Code.{Code}
use Rattle.pi_meaning.specs.declared.happening.Budget.{Budget}
use Rattle.pi_meaning.specs.declared.happening.Happening.{Happening}
use Rattle.pi_meaning.specs.declared.happening.Mode.{Mode}
use Rattle.pi_engine_arenas.specs.declared.run.End.{End as RunEnd}
use Rattle.pi_engine_arenas.specs.declared.run.Telling.{Telling}
use Rattle.pi_engine_arenas.specs.declared.run.Now.{Now}
use Rattle.pi_engine.specs.declared.turns.Outcome.{Outcome as CodeOutcome}
use Rattle.pi_engine_stands.specs.Answers.{AreNames}
use Rattle.pi_meaning.specs.Machine.Built.{AreOfRules}
use Rattle.pi_meaning.specs.Machine.Configuration.{Config}
use Rattle.pi_meaning.specs.Machine.Leads.{Leads}
use Rattle.pi_engine_stands.specs.Goes.{IsAt, Goes, IsSpent, IsIn}
use Rattle.pi_meaning.specs.Machine.Next.{Tells}
use Rattle.pi_engine_stands.specs.Stands.{World, Loaded}
use Rattle.pi_engine_stands.specs.Views.{Fits}
use Rattle.pi_engine.specs.Seen.{MachineView, told_end, end_in, stopped}
use Rattle.pi_engine.specs.Happens.{IsBuiltSoFar, IsRepeated}
use Rattle.pi_engine.specs.Spends.{Spends}
use Rattle.pi_engine.specs.Turns.{AreCutShort, Counted, StepIs, IsRunning, HappensNext, NextComes, IsAnswered, RepeatsEnd, Lasts, with_budget}
use Rattle.pi_meaning.proofs.Machine.LeadLemmas.{leads-none}
use Rattle.pi_engine.proofs.TurnsGo.{nothing-counted, counted-then, more-goes, answer-goes, told-goes}

-- ---- where a run has ended

pub running-unspent : (mode : Mode) (b : Budget) (now : Now) → IsRunning now → IsSpent mode b now
running-unspent mode b (Now.Going p) running = tt
running-unspent mode b (Now.Settling it) running = tt
running-unspent mode b (Now.Telling told) running = tt
running-unspent mode b Now.Failing running = tt
running-unspent mode b (Now.Raising ball) running = tt
running-unspent mode b (Now.Ended e) running = absurd running

pub running-of : (now : Now) → ((e : RunEnd) → now ≢ Now.Ended e) → IsRunning now
running-of (Now.Going p) other = tt
running-of (Now.Settling it) other = tt
running-of (Now.Telling told) other = tt
running-of Now.Failing other = tt
running-of (Now.Raising ball) other = tt
running-of (Now.Ended e) other = other e refl

pub built-ended : (e : RunEnd) (h : Happening) → IsAnswered e h → IsBuiltSoFar h
built-ended RunEnd.Done h told = subst IsBuiltSoFar (sym told) tt
built-ended (RunEnd.Raised ball) h told = subst IsBuiltSoFar (sym told) tt
built-ended RunEnd.StepsSpent h told = subst IsBuiltSoFar (sym told) tt
built-ended RunEnd.WorkSpent h told = subst IsBuiltSoFar (sym told) tt
built-ended RunEnd.Memory h told = subst IsBuiltSoFar (sym told) tt

pub lasts-memory : (now : Now) (h : Happening) → now ≡ Now.Ended RunEnd.Memory → h ≡ Happening.Memory → Lasts h now
lasts-memory now h ended told = subst (λ x. Lasts x now) (sym told) ended

-- ---- the turns so far

-- From what a call begins with, `first`, to what there is now: what was counted and where the run is. Where it had
-- ended, there was no turn.
pub record Turned {M : Type 0} (v : View) (names : List NameSlot) (mode : Mode) (a b : Budget) (after : World M) (old now : Now) (c : Config) : Type 0 where
  pub notes : List (Emitted Solution)
  pub counts : Counted mode a b now notes
  pub goes : Goes v names notes after now c
  pub spent : IsRunning old → IsSpent mode b now

pub record SoFar {R M : Type 0} (code : Code) (names : List NameSlot) (mode : Mode) (a b : Budget) (first present : R) (before after : Loaded → World M) (old now : Now) (turn : ℕ) : Type 0 where
  pub counts : Spends mode a b
  pub turns : (l : Loaded) → l.code ≡ code → AreNames l.query_slots names → (v : View) → Fits mode v → (c : Config) → IsIn v names (before l) old c → Turned v names mode a b (after l) old now c
  pub still : (e : RunEnd) → old ≡ Now.Ended e → (present ≡ first) × (b ≡ a) × (turn ≡ 0)

pub no-turns : {M : Type 0} (v : View) (names : List NameSlot) (mode : Mode) (b : Budget) (w : World M) (now : Now) (c : Config) → IsIn v names w now c → Turned v names mode b b w now now c
no-turns v names mode b w now c is =
    record {
      notes = [];
      counts = nothing-counted mode b now;
      goes = record { comes = c; leads = leads-none v w.loaded.preds names c; good = is.good; is = is.is };
      spent = λ running. running-unspent mode b now running;
    }

pub one-turn : {M : Type 0} (v : View) (names : List NameSlot) (mode : Mode) (a b d : Budget) (first w after : World M) (old now next : Now) (c : Config) → w.loaded ≡ first.loaded → w.loaded ≡ after.loaded → Spends mode a b → Spends mode b d → IsRunning now → IsIn v names first old c →
    (it : Turned v names mode a b w old now c) → (IsIn v names w now it.goes.comes → StepIs v names mode b d after next it.goes.comes CodeOutcome.More) → Turned v names mode a d after old next c
one-turn v names mode a b d first w after old now next c from same one two on is it steps =
    let step = steps (record { is = it.goes.is; good = it.goes.good; rules = subst (λ l. AreOfRules l.preds) (sym from) is.rules }) in
    record {
      notes = it.notes ++ step.notes;
      counts = counted-then mode a b d now next it.notes step.notes one two on it.counts step.counts;
      goes = more-goes v names it.notes mode b d w after now next c same it.goes step;
      spent = λ running. step.spent;
    }

-- ---- what the call comes to

ended-is : {M : Type 0} (v : View) (names : List NameSlot) (notes : List (Emitted Solution)) (after : World M) (e : RunEnd) (h : Happening) (c : Config) → IsAnswered e h → (it : Goes v names notes after (Now.Ended e) c) → HappensNext v after.loaded.preds names notes h c it.comes
ended-is v names notes after RunEnd.Done h c told it = subst (λ x. HappensNext v after.loaded.preds names notes x c it.comes) (sym told) (it.leads, it.is)
ended-is v names notes after (RunEnd.Raised ball) h c told it = subst (λ x. HappensNext v after.loaded.preds names notes x c it.comes) (sym told) (it.leads, it.is)
ended-is v names notes after RunEnd.StepsSpent h c told it = subst (λ x. HappensNext v after.loaded.preds names notes x c it.comes) (sym told) (it.leads, it.is)
ended-is v names notes after RunEnd.WorkSpent h c told it = subst (λ x. HappensNext v after.loaded.preds names notes x c it.comes) (sym told) (it.leads, it.is)
ended-is v names notes after RunEnd.Memory h c told it = subst (λ x. HappensNext v after.loaded.preds names notes x c it.comes) (sym told) it.leads

-- an end
pub end-comes : {M : Type 0} (v : View) (names : List NameSlot) (mode : Mode) (a b : Budget) (after : World M) (old now : Now) (e : RunEnd) (h : Happening) (c : Config) → now ≡ Now.Ended e → IsAnswered e h → Turned v names mode a b after old now c →
    NextComes v names mode a b after old now c h
end-comes v names mode a b after old now e h c ended told it =
    let goes : Goes v names it.notes after (Now.Ended e) c = subst (λ n. Goes v names it.notes after n c) ended it.goes in
    record {
      notes = it.notes;
      counts = it.counts;
      comes = goes.comes;
      is = ended-is v names it.notes after e h c told goes;
      good = goes.good;
      at = subst (λ n. IsAt v names after n goes.comes) (sym ended) goes.is;
      spent = it.spent;
    }

-- want of memory behind these turns, in which the run comes to its end
pub memory-comes : {M : Type 0} (v : View) (names : List NameSlot) (mode : Mode) (a b : Budget) (w after : World M) (old now next : Now) (h : Happening) (c : Config) → w.loaded ≡ after.loaded → next ≡ Now.Ended RunEnd.Memory → h ≡ Happening.Memory → Turned v names mode a b w old now c →
    NextComes v names mode a b after old next c h
memory-comes v names mode a b w after old now next h c same ended told it =
    record {
      notes = it.notes;
      counts = record {
        kinds = it.counts.kinds;
        ticks = it.counts.ticks;
        finished = it.counts.finished;
        cut_short = it.counts.cut_short;
        runs = it.counts.runs;
        loads = it.counts.loads;
        others = subst (λ n. AreCutShort n it.counts.cut_short) (sym ended) tt;
      };
      comes = it.goes.comes;
      is = subst (λ x. HappensNext v after.loaded.preds names it.notes x c it.goes.comes) (sym told) (subst (λ l. Leads v l.preds names it.notes c it.goes.comes) same it.goes.leads);
      good = it.goes.good;
      at = subst (λ n. IsAt v names after n it.goes.comes) (sym ended) tt;
      spent = λ running. subst (IsSpent mode b) (sym ended) tt;
    }

-- an answer
pub answer-comes : {M : Type 0} (v : View) (names : List NameSlot) (mode : Mode) (a b d : Budget) (first w after : World M) (old now next : Now) (c : Config) (told : Box Answer Global) (x : Answer) → x ≡ told.value → w.loaded ≡ first.loaded → w.loaded ≡ after.loaded → Spends mode a b → Spends mode b d → IsRunning now → IsIn v names first old c →
    (it : Turned v names mode a b w old now c) → (IsIn v names w now it.goes.comes → StepIs v names mode b d after next it.goes.comes (CodeOutcome.Answered told)) → NextComes v names mode a d after old next c (Happening.Answer x)
answer-comes v names mode a b d first w after old now next c told x unboxed from same one two on is it steps =
    let step = steps (record { is = it.goes.is; good = it.goes.good; rules = subst (λ l. AreOfRules l.preds) (sym from) is.rules }) in
    let goes = answer-goes v names it.notes mode b d w after now next c told same it.goes step in
    record {
      notes = it.notes ++ step.notes;
      counts = counted-then mode a b d now next it.notes step.notes one two on it.counts step.counts;
      comes = goes.2.comes;
      is = (goes.0, subst (Tells names goes.0) (sym unboxed) goes.1, goes.2.leads);
      good = goes.2.good;
      at = goes.2.is;
      spent = λ running. step.spent;
    }

-- a text
pub told-comes : {M : Type 0} (v : View) (names : List NameSlot) (mode : Mode) (a b d : Budget) (first w after : World M) (old now next : Now) (c : Config) (told : Box Telling Global) (text : List ℕ) → text ≡ told.value.text → w.loaded ≡ first.loaded → w.loaded ≡ after.loaded → Spends mode a b → Spends mode b d → IsRunning now → IsIn v names first old c →
    (it : Turned v names mode a b w old now c) → (IsIn v names w now it.goes.comes → StepIs v names mode b d after next it.goes.comes (CodeOutcome.Told told)) → NextComes v names mode a d after old next c (Happening.Out text)
told-comes v names mode a b d first w after old now next c told text unboxed from same one two on is it steps =
    let step = steps (record { is = it.goes.is; good = it.goes.good; rules = subst (λ l. AreOfRules l.preds) (sym from) is.rules }) in
    let goes = told-goes v names it.notes mode b d w after now next c told same it.goes step in
    record {
      notes = it.notes ++ step.notes;
      counts = counted-then mode a b d now next it.notes step.notes one two on it.counts step.counts;
      comes = goes.comes;
      is = subst (λ t. Leads v after.loaded.preds names ((it.notes ++ step.notes) ++ noted (Out t) ∷ []) c goes.comes) (sym unboxed) goes.leads;
      good = goes.good;
      at = goes.is;
      spent = λ running. step.spent;
    }

-- ---- an end that is answered again, as it is read of a machine

-- of a run, by what it is part of
raised-in : {R M : Type 0} (f : R → MachineView M) (stop : R → R) (ball : Tree) (old new : R) (h : Happening) → f (stop old) ≡ stopped (f old) → ((h ≡ Happening.Raised ball) × (new ≡ old)) ⊎ ((h ≡ Happening.Memory) × (new ≡ stop old)) →
    ((h ≡ Happening.Raised ball) × (f new ≡ f old)) ⊎ ((h ≡ Happening.Memory) × (f new ≡ stopped (f old)))
raised-in f stop ball old new h stops (inl same) = inl (same.0, ap f same.1)
raised-in f stop ball old new h stops (inr told) = inr (told.0, ap f told.1 ∙ stops)

repeated-in : {R M : Type 0} (f : R → MachineView M) (stop : R → R) (e : RunEnd) (old new : R) (b c : Budget) (h : Happening) → f (stop old) ≡ stopped (f old) → RepeatsEnd stop e (with_budget old b) (with_budget new c) h → IsRepeated (told_end e) (f old) (f new) b c h
repeated-in f stop RunEnd.Done old new b c h stops is = (is.0, ap f is.1, is.2)
repeated-in f stop (RunEnd.Raised ball) old new b c h stops is = (raised-in f stop ball old new h stops is.0, is.1)
repeated-in f stop RunEnd.StepsSpent old new b c h stops is = (is.0, ap f is.1, is.2)
repeated-in f stop RunEnd.WorkSpent old new b c h stops is = (is.0, ap f is.1, is.2)
repeated-in f stop RunEnd.Memory old new b c h stops is = (is.0, ap f is.1, is.2)

one-end : (x y : Happening) → Some x ≡ Some y → x ≡ y
one-end x y same = cc

-- where it is at an end that is told so
pub repeated-as : {R M : Type 0} (f : R → MachineView M) (stop : R → R) (old new : R) (b c : Budget) (end h : Happening) → f (stop old) ≡ stopped (f old) → (now : Now) → end_in now ≡ Some end →
    ((e : RunEnd) → now ≡ Now.Ended e → RepeatsEnd stop e (with_budget old b) (with_budget new c) h) → IsRepeated end (f old) (f new) b c h
repeated-as f stop old new b c end h stops (Now.Going p) at repeats = absurd cc
repeated-as f stop old new b c end h stops (Now.Settling it) at repeats = absurd cc
repeated-as f stop old new b c end h stops (Now.Telling told) at repeats = absurd cc
repeated-as f stop old new b c end h stops Now.Failing at repeats = absurd cc
repeated-as f stop old new b c end h stops (Now.Raising ball) at repeats = absurd cc
repeated-as f stop old new b c end h stops (Now.Ended e) at repeats =
    subst (λ x. IsRepeated x (f old) (f new) b c h) (one-end (told_end e) end at) (repeated-in f stop e old new b c h stops (repeats e refl))
