use Rattle.std.proofs.Common.{◌≡◌, ◌-◌, ◌<◌, ◌^◌, ℕ, ℤ, List, Some, pos, ap, sym, subst, ◌∙◌, arith}
use Rattle.std.specs.Prelude.{slice_get}
use Rattle.std.proofs.lemmas.Int.{to_z_pos}
use mir.Val.{to_z, of_z}
use mir.Syntax.{w128}
use Rattle.pi_terms.proofs.OptionLemmas.{one-some}
use Rattle.pi_plan.specs.Given.{over}
use Rattle.pi_plan.specs.declared.search.Way.{Way}
use Rattle.pi_plan.specs.Ways.{AreWays}
use Rattle.pi_plan.specs.Planner.{IsPlan}
use Rattle.pi_plan.proofs.PlannerLemmas.{final_way, found_of}
use Rattle.pi_plan.proofs.planner.stages.found.Goals as goal

pub returns : goal.returns
returns c = λ w given h is_final.
    let are : AreWays (over given c.args.search.now.by_rest) w.start c.args.search.now.whole c.deref.result.now =
    subst (λ (ws : List Way). AreWays (over given c.args.search.now.by_rest) w.start c.args.search.now.whole ws) (sym c.deref.ensures.value) h.under.ways in
    let at : slice_get c.deref.result.now c.args.way ≡ Some h.way = ap (λ (ws : List Way). slice_get ws c.args.way) c.deref.ensures.value ∙ h.at in
    let plan : IsPlan given c.args.search.now.by_rest w.start c.args.search.now.whole (c.args.search.now.whole - h.way.rest) c.in_ok-plan.plan =
    c.in_ok-plan.ensures given c.args.search.now.by_rest w.start c.args.search.now.whole h.way are at (final_way w given c.args.search.now c.args.way h is_final) in
    let here : slice_get c.args.search.now.ways.items c.args.way ≡ Some c.in-Some.way.now = ap (λ (ws : List Way). slice_get ws c.args.way) (sym c.deref-2.ensures.value) ∙ sym c.in-Some.ensures in
    let same : c.in-Some.way.now ≡ h.way = one-some (slice_get c.args.search.now.ways.items c.args.way) c.in-Some.way.now h.way here h.at in
    let spent : c.saturating_sub.result ≡ c.args.search.now.whole - h.way.rest = c.saturating_sub.ensures ∙ ap (λ (x : Way). c.args.search.now.whole - x.rest) same in
    let bound : c.saturating_sub.result < 2 ^ 127 = omega (arith, spent, h.under.within, h.under.bounded) in
    let cost : to_z w128 (of_z w128 c.told_number-cost.result) ≡ pos (c.args.search.now.whole - h.way.rest) =
    ap (λ (z : ℤ). to_z w128 (of_z w128 z)) (c.told_number-cost.ensures bound) ∙ (to_z_pos w128 c.saturating_sub.result bound ∙ ap (λ (n : ℕ). pos n) spent) in
    found_of w given c.args.search.now c.args.way c.in_ok-plan.plan (to_z w128 (of_z w128 c.told_number-cost.result)) h plan cost
