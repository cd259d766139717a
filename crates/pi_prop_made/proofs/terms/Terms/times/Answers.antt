-- One more product is joined, and what is left is what was left behind it.
use Rattle.std.specs.Prelude.{◌≡◌, ◌*ℤ◌, ℕ, ℤ, [], false, Err}
use Rattle.std.specs.Int.{w128}
use Rattle.std.proofs.Common.{rules, ◌∙◌, ap, subst, to_z, of_z}
use Rattle.std.proofs.lemmas.Result.{err_from_is_err_and}
use Rattle.pi_effects.specs.Range.{has_128_bits}
use Rattle.pi_prop_made.specs.Signed.{signed}
use Rattle.pi_prop_made.specs.Kept.{counted}
use Rattle.pi_prop_made.specs.Changes.{Scales, IsTimes}
use Rattle.pi_prop_spec.specs.PostingSums.{coefficient}
use Rattle.pi_prop_made.proofs.AddLemmas.{next_so_far, first_fits, product_too_wide, times_refused, all_times}
use Rattle.pi_prop_made.proofs.TermLemmas.{number_of}
use Rattle.pi_prop_made.proofs.terms.Terms.times.Goals as goal

pub times-requires : goal.times-requires
times-requires c =
    ap has_128_bits c.turned.ensures ∙ (first_fits c.self.inside.negated c.loop-variable.variable-iterator c.next.new.self c.in-Some.variable.now c.in-Some.coefficient.now c.in-Some.ensures.steps c.loop-variable.invariant.1).0

pub returns-in_default : goal.returns-in_default
returns-in_default c =
    let bits : to_z w128 (of_z w128 c.args.factor) ≡ c.args.factor = search rules in
    subst (λ (m : ℤ). (n : ℕ) × (has_128_bits (m *ℤ coefficient c.args.self.now n) ≡ false)) bits
    (product_too_wide (to_z w128 (of_z w128 c.args.factor)) c.self.inside.negated c.loop-variable.product c.args.self.now c.self.inside.entries.entries c.loop-variable.variable-iterator c.next.new.self c.in-Some.variable.now
    c.in-Some.coefficient.now (signed c.turned.result.negated c.turned.result.value) c.loop-variable.invariant.0 c.in-Some.ensures.steps c.turned.ensures c.self.view_is c.in_default.ensures)

pub loop-variable-preserved : goal.loop-variable-preserved
loop-variable-preserved c =
    let value : c.new.result.value ≡ c.in-Some-times.number = search rules in
    let z : signed c.new.result.negated c.new.result.value ≡ to_z w128 (of_z w128 c.args.factor) *ℤ counted c.self.inside.negated c.in-Some.coefficient.now =
    number_of c.new.result c.in-Some-times.number c.new.ensures.sign value ∙ (c.in-Some-times.ensures ∙ ap (λ (x : ℤ). to_z w128 (of_z w128 c.args.factor) *ℤ x) c.turned.ensures) in (
      next_so_far (to_z w128 (of_z w128 c.args.factor)) c.self.inside.negated [] c.loop-variable.product c.join.new.self c.self.inside.entries.entries c.loop-variable.variable-iterator c.next.new.self c.in-Some.variable.now
          c.in-Some.coefficient.now (signed c.new.result.negated c.new.result.value) c.loop-variable.invariant.0 c.in-Some.ensures.steps z c.in_ok-join.ensures,
      (first_fits c.self.inside.negated c.loop-variable.variable-iterator c.next.new.self c.in-Some.variable.now c.in-Some.coefficient.now c.in-Some.ensures.steps c.loop-variable.invariant.1).1,
    )

pub returns-in_err-join : goal.returns-in_err-join
returns-in_err-join c =
    let bits : to_z w128 (of_z w128 c.args.factor) ≡ c.args.factor = search rules in
    let value : c.new.result.value ≡ c.in-Some-times.number = search rules in
    let z : signed c.new.result.negated c.new.result.value ≡ to_z w128 (of_z w128 c.args.factor) *ℤ counted c.self.inside.negated c.in-Some.coefficient.now =
    number_of c.new.result c.in-Some-times.number c.new.ensures.sign value ∙ (c.in-Some-times.ensures ∙ ap (λ (x : ℤ). to_z w128 (of_z w128 c.args.factor) *ℤ x) c.turned.ensures) in
    let p = err_from_is_err_and c.from_residual.result c.from_residual.ensures.1 in
    rw (p.1, p.2)
    (subst (λ (m : ℤ). IsTimes m c.args.self.now (Err c.in_err-join.field-0.0)) bits
    (times_refused (to_z w128 (of_z w128 c.args.factor)) c.self.inside.negated c.loop-variable.product c.join.new.self c.args.self.now c.self.inside.entries.entries c.loop-variable.variable-iterator c.next.new.self c.in-Some.variable.now
    c.in-Some.coefficient.now (signed c.new.result.negated c.new.result.value) c.in_err-join.field-0.0 c.loop-variable.invariant.0 c.in-Some.ensures.steps z c.self.view_is c.in_err-join.ensures))

pub returns : goal.returns
returns c =
    let bits : to_z w128 (of_z w128 c.args.factor) ≡ c.args.factor = search rules in
    subst (λ (m : ℤ). Scales m c.args.self.now c.loop-variable.product) bits
    (all_times (to_z w128 (of_z w128 c.args.factor)) c.self.inside.negated c.loop-variable.product c.args.self.now c.self.inside.entries.entries c.loop-variable.variable-iterator c.loop-variable.invariant.0 c.in-None.ensures.steps.0
    c.self.view_is)
