-- What a planner answers, by the stage that it has come to.
use Rattle.std.proofs.Common.{◌≡◌, ℕ, ◌<◌, List, Some, None, refl, ap, sym, ◌∙◌, subst, arith, pos}
use Rattle.std.specs.Prelude.{slice_get, option_and_then, ◌^◌, Result, Ok, Err, OnErr}
use Rattle.pi_plan.specs.declared.given.GivenState.{GivenState}
use Rattle.pi_plan.specs.Plan.{Wanted}
use Rattle.pi_plan.specs.declared.search.Way.{Way}
use Rattle.pi_plan.specs.declared.search.Search.{Search}
use Rattle.pi_plan.specs.declared.planner.PlanStep.{PlanStep}
use Rattle.pi_plan.specs.declared.planner.Ending.{Ending}
use Rattle.pi_plan.specs.declared.planner.Stage.{Stage}
use Rattle.pi_plan.specs.Searching.{asked_by}
use Rattle.pi_plan.specs.Planner.{asked_at, ended_at, Says, LeavesAt, Repeats, IsSoundAt, StageIs, GoesOn, MayLack, Tells}
use Rattle.pi_plan.proofs.PlannerLemmas.{may_ask}

pub waiting : (ways : List Way) (i : ℕ) (w : Way) → slice_get ways i ≡ Some w → asked_at (Stage.Asked i) ways ≡ Some (asked_by w)
waiting ways i w e = ap (λ o. option_and_then (λ (v : Way). Some (asked_by v)) o) e

pub record AtStage (now : Stage) (w : Wanted) (given : List GivenState) (s : Search) (step : PlanStep) : Type 0 where
  pub sound : IsSoundAt now w given s
  pub says : Says given s.by_rest w step
  pub leaves : LeavesAt step now s.ways.items

at_stage : (now : Stage) (w : Wanted) (given : List GivenState) (s : Search) (step : PlanStep) → StageIs w given s now → Tells now s.ways.items step → AtStage now w given s step
at_stage Stage.Ready w given s step h tells = absurd h
at_stage (Stage.Given i) w given s step h tells = absurd h
at_stage (Stage.Asked i) w given s step h tells =
    let bounded : h.way.rest < 2 ^ 127 = omega (arith, h.within, h.under.within, h.under.bounded) in
    let e : step ≡ PlanStep.Expand h.way.place.state (pos h.way.rest) = tells h.way h.at bounded in
    record {
      sound = h;
      says = subst (λ (x : PlanStep). Says given s.by_rest w x) (sym e) (h.way.rest, refl, may_ask w given s i h);
      leaves = subst (λ (x : PlanStep). LeavesAt x (Stage.Asked i) s.ways.items) (sym e) (h.way.rest, refl, waiting s.ways.items i h.way h.at);
    }
at_stage (Stage.Ended (Ending.Found plan cost)) w given s step h tells = record {
  sound = tt;
  says = subst (λ (x : PlanStep). Says given s.by_rest w x) (sym tells) h;
  leaves = subst (λ (x : PlanStep). LeavesAt x (Stage.Ended (Ending.Found plan cost)) s.ways.items) (sym tells) (refl, refl);
}
at_stage (Stage.Ended Ending.NoPlan) w given s step h tells = record {
  sound = tt;
  says = subst (λ (x : PlanStep). Says given s.by_rest w x) (sym tells) h;
  leaves = subst (λ (x : PlanStep). LeavesAt x (Stage.Ended Ending.NoPlan) s.ways.items) (sym tells) (refl, refl);
}
at_stage (Stage.Ended Ending.Memory) w given s step h tells = absurd h

pub record NextAt (before now : Stage) (w : Wanted) (given : List GivenState) (s : Search) (step : PlanStep) : Type 0 where
  pub sound : IsSoundAt now w given s
  pub says : ended_at before ≡ None → Says given s.by_rest w step
  pub leaves : LeavesAt step now s.ways.items
  pub repeats : (e : PlanStep) → ended_at before ≡ Some e → Repeats e step

not_ended : (step e : PlanStep) → None ≡ Some e → Repeats e step
not_ended step e h = absurd (cc)

from_stage : (before now : Stage) (w : Wanted) (given : List GivenState) (s : Search) (step : PlanStep) → ended_at before ≡ None → AtStage now w given s step → NextAt before now w given s step
from_stage before now w given s step open_yet a = record {
  sound = a.sound;
  says = λ e. a.says;
  leaves = a.leaves;
  repeats = λ e h. not_ended step e (sym open_yet ∙ h);
}

repeated : (e step : PlanStep) → step ≡ e → Repeats e step
repeated (PlanStep.Expand s r) step h = h
repeated (PlanStep.Found plan cost) PlanStep.Memory h = tt
repeated (PlanStep.Found plan cost) PlanStep.NoPlan h = h
repeated (PlanStep.Found plan cost) (PlanStep.Found p c) h = h
repeated (PlanStep.Found plan cost) (PlanStep.Expand s r) h = h
repeated PlanStep.NoPlan step h = h
repeated PlanStep.Memory step h = h

same_ended : (e f : PlanStep) → Some e ≡ Some f → e ≡ f
same_ended e f h = cc

from_end : (before : Stage) (told : PlanStep) (w : Wanted) (given : List GivenState) (s : Search) (step : PlanStep) → ended_at before ≡ Some told → IsSoundAt before w given s → LeavesAt told before s.ways.items → step ≡ told → NextAt before before w given s step
from_end before told w given s step ended sound leaves same = record {
  sound = sound;
  says = λ e. absurd (cc);
  leaves = subst (λ (x : PlanStep). LeavesAt x before s.ways.items) (sym same) leaves;
  repeats = λ e h. repeated e step (same ∙ same_ended told e (sym ended ∙ h));
}

next_at_end : (ending : Ending) (w : Wanted) (given : List GivenState) (s : Search) (step : PlanStep) → Tells (Stage.Ended ending) s.ways.items step → NextAt (Stage.Ended ending) (Stage.Ended ending) w given s step
next_at_end (Ending.Found plan cost) w given s step tells = from_end (Stage.Ended (Ending.Found plan cost)) (PlanStep.Found plan cost) w given s step refl tt (refl, refl) tells
next_at_end Ending.NoPlan w given s step tells = from_end (Stage.Ended Ending.NoPlan) PlanStep.NoPlan w given s step refl tt (refl, refl) tells
next_at_end Ending.Memory w given s step tells = from_end (Stage.Ended Ending.Memory) PlanStep.Memory w given s step refl tt (refl, refl) tells

pub next_at : (before now : Stage) (w : Wanted) (given : List GivenState) (s0 s : Search) (step : PlanStep) → IsSoundAt before w given s0 → asked_at before s0.ways.items ≡ None → GoesOn before now w given s → Tells now s.ways.items step →
    NextAt before now w given s step
next_at Stage.Ready now w given s0 s step sound waits goes tells = from_stage Stage.Ready now w given s step refl (at_stage now w given s step goes tells)
next_at (Stage.Given i) now w given s0 s step sound waits goes tells = from_stage (Stage.Given i) now w given s step refl (at_stage now w given s step goes tells)
next_at (Stage.Asked i) now w given s0 s step sound waits goes tells =
    let it : None ≡ Some (asked_by sound.way) = sym waits ∙ waiting s0.ways.items i sound.way sound.at in absurd (cc)
next_at (Stage.Ended ending) now w given s0 s step sound waits goes tells =
    let told : Tells (Stage.Ended ending) s.ways.items step = subst (λ (x : Stage). Tells x s.ways.items step) goes tells in
    subst (λ (x : Stage). NextAt (Stage.Ended ending) x w given s step) (sym goes) (next_at_end ending w given s step told)

-- ---- memory is wanted

-- where the stage that is come to may lack memory, the one before may
lacks_before : (before now : Stage) (w : Wanted) (given : List GivenState) (s : Search) → GoesOn before now w given s → MayLack now → MayLack before
lacks_before Stage.Ready now w given s goes lacks = tt
lacks_before (Stage.Asked i) now w given s goes lacks = tt
lacks_before (Stage.Given i) now w given s goes lacks = tt
lacks_before (Stage.Ended (Ending.Found plan cost)) now w given s goes lacks = tt
lacks_before (Stage.Ended Ending.NoPlan) now w given s goes lacks = subst (λ (x : Stage). MayLack x) goes lacks
lacks_before (Stage.Ended Ending.Memory) now w given s goes lacks = subst (λ (x : Stage). MayLack x) goes lacks

pub lacks_at : {A E : Type 0} (r : Result A E) (before now : Stage) (w : Wanted) (given : List GivenState) (s : Search) → GoesOn before now w given s → OnErr r (MayLack now) → OnErr r (MayLack before)
lacks_at (Ok x) before now w given s goes lacks = tt
lacks_at (Err e) before now w given s goes lacks = lacks_before before now w given s goes lacks

pub memory_repeats : (before : Stage) (e : PlanStep) → MayLack before → ended_at before ≡ Some e → Repeats e PlanStep.Memory
memory_repeats Stage.Ready e lacks h = not_ended PlanStep.Memory e h
memory_repeats (Stage.Asked i) e lacks h = not_ended PlanStep.Memory e h
memory_repeats (Stage.Given i) e lacks h = not_ended PlanStep.Memory e h
memory_repeats (Stage.Ended (Ending.Found plan cost)) e lacks h = subst (λ (x : PlanStep). Repeats x PlanStep.Memory) (same_ended (PlanStep.Found plan cost) e h) tt
memory_repeats (Stage.Ended Ending.NoPlan) e lacks h = absurd lacks
memory_repeats (Stage.Ended Ending.Memory) e lacks h = absurd lacks
