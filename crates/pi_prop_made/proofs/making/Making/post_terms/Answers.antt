use Rattle.std.specs.Prelude.{◌≡◌, ℤ}
use Rattle.std.specs.Int.{w128}
use Rattle.std.proofs.Common.{rules, ◌∙◌, subst, to_z, of_z}
use Rattle.pi_constraints.specs.declared.constraint.Rel.{Rel}
use Rattle.pi_constraints.specs.declared.constraint.Constraint.{Constraint}
use Rattle.pi_prop_made.specs.Making.{IsNumber, Shows, with_constraint}
use Rattle.pi_prop_made.specs.ToZero.{constant_for}
use Rattle.pi_prop_made.proofs.making.Making.post_terms.Goals as goal

pub returns : goal.returns
returns c = λ m s.
    let k : ℤ = constant_for c.args.how c.args.sum.now.constant in
    let bits : to_z w128 (of_z w128 c.constant.result) ≡ c.constant.result = search rules in
    let number : IsNumber c.constant-2.result k = subst (λ (z : ℤ). IsNumber c.constant-2.result (constant_for c.args.how z)) (bits ∙ c.constant.ensures) c.constant-2.ensures in
    subst (λ (r : Rel). Shows c.post_linear.new.self (with_constraint m (Constraint.Linear r c.args.sum.now.terms k))) c.rel.ensures (c.in_ok-post_linear.ensures m k s number)
