-- The constraint is kept, or its limit is that of the sum.
use Rattle.std.specs.Prelude.{◌≡◌, ℤ, Some}
use Rattle.std.specs.Int.{w128}
use Rattle.std.proofs.Common.{rules, ◌∙◌, ap, sym, subst, to_z, of_z}
use Rattle.pi_constraints.specs.declared.constraint.Item.{Item}
use Rattle.pi_constraints.specs.declared.constraint.Constraint.{Constraint}
use Rattle.pi_prop_made.specs.Making.{sum_refusal, IsNumber}
use Rattle.pi_prop_made.specs.ToZero.{rel_of, constant_for}
use Rattle.pi_prop_made.proofs.StandingLemmas.{reified-refusal, reified-kept}
use Rattle.pi_prop_made.proofs.making.Making.post_reified.Goals as goal

pub returns-in_ok-keep-in-Ok : goal.returns-in_ok-keep-in-Ok
returns-in_ok-keep-in-Ok c = λ m s.
    let bits : to_z w128 (of_z w128 c.constant.result) ≡ c.constant.result = search rules in
    let number : IsNumber c.constant-2.result (constant_for c.args.how c.args.sum.now.constant) = subst (λ (z : ℤ). IsNumber c.constant-2.result (constant_for c.args.how z)) (bits ∙ c.constant.ensures) c.constant-2.ensures in
    let k : ℤ = to_z w128 (of_z w128 c.in-Ok.constant) in
    let own : k ≡ c.in-Ok.constant = search rules in
    reified-kept c.keep.new.self m c.args.truth c.args.how c.rel.result c.args.sum.now.terms c.in_ok-terms-in-Ok.terms k c.constant-2.result c.args.sum.now.constant c.rel.ensures c.in_ok-terms-in-Ok.ensures (c.in-Ok.ensures.0 ∙ ap Some (sym own))
    (ap (sum_refusal c.args.sum.now.terms) own ∙ c.in-Ok.ensures.1) number
    (λ e. c.in_ok-keep-in-Ok.ensures m e s)

pub returns-in-Err : goal.returns-in-Err
returns-in-Err c = λ m s.
    let k : ℤ = constant_for c.args.how c.args.sum.now.constant in
    let bits : to_z w128 (of_z w128 c.constant.result) ≡ c.constant.result = search rules in
    let number : IsNumber c.constant-2.result k = subst (λ (z : ℤ). IsNumber c.constant-2.result (constant_for c.args.how z)) (bits ∙ c.constant.ensures) c.constant-2.ensures in
    c.refuse.ensures m (Constraint.Reified (Item.Var c.args.truth) (rel_of c.args.how) c.args.sum.now.terms k) s (reified-refusal (rel_of c.args.how) c.args.sum.now.terms k c.args.truth ∙ c.in-Err.ensures k number)
