-- A difference that doesn't fit is refused, by its number of terms or by its width.
use Rattle.std.specs.Prelude.{◌≡◌, false}
use Rattle.std.proofs.Common.{◌∙◌, ap, sym}
use Rattle.pi_constraints.specs.declared.constraint.Rel.{Rel}
use Rattle.pi_prop_spec.specs.PostingSums.{Sum, of_variable, difference}
use Rattle.pi_prop_spec.specs.Steps.{linear}
use Rattle.pi_prop_made.specs.Steps.{fits}
use Rattle.pi_prop_made.proofs.SideLemmas.{apart_refused}
use Rattle.pi_prop_made.proofs.making.Making.define.Goals as goal

pub returns-in-Err-Wide : goal.returns-in-Err-Wide
returns-in-Err-Wide c = λ m s b.
    let wide : fits (difference (of_variable c.args.variable) c.args.sum) ≡ false =
    ap (λ (u : Sum). fits (difference u c.args.sum)) (sym c.in-Ok.ensures.0) ∙ (rw c.in-Err-Wide.field-0-is at c.in-Err-Wide.ensures) in
    c.refuse.ensures m (linear Rel.Equal (difference (of_variable c.args.variable) c.args.sum)) s
    (apart_refused c.args.variable c.args.sum c.limit_with_one_more-limit.result c.limit_with_one_more-limit.ensures.ascend b wide c.limit_with_one_more-limit.ensures.count)
