use Rattle.std.proofs.Common.{◌≡◌, sym, subst}
use Rattle.std.specs.Prelude.{IsSome}
use Rattle.pi_plan.specs.declared.planner.Planner.{Planner}
use Rattle.pi_plan.specs.Planner.{IsSound, waits_for}
use Rattle.tables_values.proofs.planners.give_first.Goals as goal

pub loop-entry-preserved : goal.loop-entry-preserved
loop-entry-preserved c =
    let same : c.give_entry.new.planner ≡ c.loop-entry.planner = c.give_entry.ensures.refused c.if-give_entry.false in (
      subst (λ (p : Planner). IsSound p) (sym same) c.loop-entry.invariant.0,
      subst (λ (p : Planner). IsSome (waits_for p)) (sym same) c.loop-entry.invariant.1,
    )
