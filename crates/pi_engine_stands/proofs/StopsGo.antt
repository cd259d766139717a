-- Goals whose step stops for want of memory: the Ticks that it counted come next in the run.
use Rattle.std.proofs.Common.{Bool, true, false, List, Result, Ok, Err, refl, sym, ◌∙◌, subst}
use Rattle.std.specs.Prelude.{◌≡◌, IfErr}
use Rattle.pi_meaning.specs.Shared.View.{View}
use Rattle.pi_core.specs.declared.core_program.NameSlot.{NameSlot}
use Rattle.pi_engine_arenas.specs.declared.frames.Point.{Point}
use Rattle.pi_engine_arenas.specs.declared.run.End.{End as RunEnd}
use Rattle.pi_engine_arenas.specs.declared.run.Now.{Now}
use Rattle.pi_engine_code.specs.declared.code.Step.{Step}
use Rattle.pi_meaning.specs.declared.happening.Budget.{Budget}
use Rattle.pi_meaning.specs.declared.happening.Mode.{Mode}
use Rattle.pi_meaning.specs.Machine.Configuration.{Config}
use Rattle.pi_meaning.specs.Machine.Next.{some_ticks}
use Rattle.pi_meaning.specs.Machine.Shape.{IsGood}
use Rattle.pi_meaning.specs.Machine.Step.{step, with_tick}
use Rattle.pi_meaning.proofs.Machine.LeadLemmas.{leads-none, step-ticks, good-tick}
use Rattle.pi_engine_stands.specs.Stands.{World}
use Rattle.pi_engine_stands.specs.Goes.{TicksUnless, Goes, TicksOn, AtGoal, GoalStops, PointStops, counting}
use Rattle.pi_engine_stands.proofs.GoalsGo.{none-counted, CallThere, by-goal, at_goal, goal-first}
use Rattle.pi_engine_stands.specs.Changes.{change}

-- what holds whatever a result is holds where it is an error
pub so-at-err : {T E : Type 0} (P : Type 0) (r : Result T E) → P → IfErr r (λ _. P)
so-at-err P (Ok x) is = tt
so-at-err P (Err e) is = is

-- no Tick was counted
none-on : {M : Type 0} (v : View) (names : List NameSlot) (mode : Mode) (old new : Budget) (w : World M) (c : Config) → new ≡ old → IsGood c → TicksOn v names mode old new w (Now.Ended RunEnd.Memory) c
none-on v names mode old new w c same good = record {
  goes = subst (λ k. Goes v names (some_ticks k) w (Now.Ended RunEnd.Memory) c) (sym (none-counted mode old new same))
      (record { comes = c; leads = leads-none v w.loaded.preds names c; good = good; is = tt });
  spent = tt;
}

pub goal-stops : {M : Type 0} (w : World M) (p : Point) (s : Step) (mode : Mode) (b : Budget) → GoalStops mode b b p s (change w w Now.Failing)
goal-stops w p s mode b v fits names c is = none-on v names mode b b w c refl is.good

pub point-stops : {M : Type 0} (w : World M) (p : Point) (mode : Mode) (b : Budget) → PointStops mode b b p (change w w Now.Failing)
point-stops w p mode b v fits names c some stands good rules = none-on v names mode b b w c refl good

-- the Tick of a call was counted, where it has one
pub call-stops : {M : Type 0} (w : World M) (p : Point) (s : Step) (c : Config) (v : View) (names : List NameSlot) (quiet : Bool) (mode : Mode) (old new : Budget) (x y : Now) → AtGoal w p s c → CallThere w p c v names quiet →
    TicksUnless quiet (counting mode old new) x y true → TicksOn v names mode old new w (Now.Ended RunEnd.Memory) c
call-stops w p s c v names true mode old new x y is there_it ticks = none-on v names mode old new w c ticks.1 is.good
call-stops w p s c v names false mode old new x y is there_it ticks =
    let next : Config = there_it.next in
    let d : Config = at_goal w p c there_it.it in
    let steps : step v w.loaded.preds names d ≡ with_tick next = by-goal w p c v names there_it.it ∙ there_it.comes in
    goal-first w w p c v names mode old new (Now.Ended RunEnd.Memory) refl is.rules is.good there_it.it
    (λ good. record {
      goes = subst (λ k. Goes v names (some_ticks k) w (Now.Ended RunEnd.Memory) d) (sym ticks.0)
          (record { comes = next; leads = step-ticks v w.loaded.preds names d next is.rules good steps; good = good-tick v w.loaded.preds names d next good steps; is = tt });
      spent = tt;
    })
