use Rattle.std.proofs.Common.{List, map, sym, subst, Bor}
use Rattle.std.specs.Prelude.{reverse}
use Rattle.pi_terms.specs.Tree.{Tree}
use Rattle.pi_plan.proofs.PlanOfLemmas.{Building, building_start, building_more, building_end, building_lost, begins, reverse_push}
use Rattle.pi_plan.proofs.advance.actions_to.Goals as goal

pub loop-way-init : goal.loop-way-init
loop-way-init c = rw c.new-actions.ensures.items (building_start c.args.ways.now c.args.number)

pub returns-in_default : goal.returns-in_default
returns-in_default c = building_lost c.args.ways.now c.args.number c.loop-way.at (reverse (map (λ (a : Bor Tree). a.now) c.loop-way.actions.items)) c.loop-way.invariant c.in_default.ensures

pub returns-in_default-origin : goal.returns-in_default-origin
returns-in_default-origin c =
    building_end c.args.ways.now c.args.number c.loop-way.at (reverse (map (λ (a : Bor Tree). a.now) c.loop-way.actions.items)) c.in-Some.way.now c.loop-way.invariant (sym c.in-Some.ensures)
    (begins c.in-Some.way.now.origin c.in_default-origin.not-Step)

pub loop-way-preserved : goal.loop-way-preserved
loop-way-preserved c =
    subst (λ (ts : List Tree). Building c.args.ways.now c.args.number c.in-Step.parent ts) (sym (reverse_push (λ (a : Bor Tree). a.now) _ _ _ c.in_ok-push.ensures.items))
    (building_more c.args.ways.now c.args.number c.loop-way.at (reverse (map (λ (a : Bor Tree). a.now) c.loop-way.actions.items)) c.in-Some.way.now _ _ c.loop-way.invariant (sym c.in-Some.ensures) c.in-Step.is)
