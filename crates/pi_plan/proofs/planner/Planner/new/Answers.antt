use Rattle.std.proofs.Common.{◌≡◌, ◌<◌, ◌^◌, ◌∙◌, ap, sym, subst, List, ℤ, None}
use Rattle.std.specs.Prelude.{unsigned_abs}
use Rattle.std.proofs.lemmas.Int.{to_z-of_z}
use mir.Syntax.{w128}
use Rattle.pi_plan.specs.declared.given.GivenState.{GivenState}
use Rattle.pi_plan.specs.Faults.{start_fault}
use Rattle.pi_plan.specs.Planner.{IsReady}
use Rattle.pi_plan.proofs.PlannerLemmas.{limit_bound}
use Rattle.pi_plan.proofs.planner.Planner.new.Goals as goal

pub returns-in-Ok-begin-clause-sound : goal.returns-in-Ok-begin-clause-sound
returns-in-Ok-begin-clause-sound c =
    let fit : start_fault c.args.start c.args.limit ≡ None = subst (λ (z : ℤ). start_fault c.args.start z ≡ None) (to_z-of_z w128 c.args.limit c.ranges.limit) c.in-Ok.ensures.ok in
    let value : c.unsigned_abs-limit.result ≡ unsigned_abs c.args.limit = c.unsigned_abs-limit.ensures.value ∙ ap (λ (z : ℤ). unsigned_abs z) (to_z-of_z w128 c.args.limit c.ranges.limit) in
    let bound : c.unsigned_abs-limit.result < 2 ^ 127 = limit_bound c.args.start c.args.limit c.unsigned_abs-limit.result c.ranges.limit fit value in
    subst (λ (g : List GivenState). IsReady (record { best = c.args.best; start = c.args.start; limit = c.unsigned_abs-limit.result }) g c.in-Ok-begin.search) (sym c.new.ensures)
    (c.in-Ok-begin.ensures.ready bound)
