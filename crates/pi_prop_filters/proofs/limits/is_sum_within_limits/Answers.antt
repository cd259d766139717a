use Rattle.std.proofs.Common.{arith, ◌≤◌, ◌^◌, ◌∙◌, ℤ, nat_abs, sym, subst}
use Rattle.std.specs.Int.{w128}
use Rattle.std.proofs.lemmas.Bool.{false≢true}
use Rattle.std.proofs.lemmas.Int.{to_z-of_z}
use Rattle.pi_prop_filters.proofs.LimitLemmas.{no_terms, some_terms, within_none, within_many, within_wide, within_all}
use Rattle.pi_prop_filters.proofs.limits.is_sum_within_limits.Goals as goal

pub returns-then-is_empty : goal.returns-then-is_empty
returns-then-is_empty c = within_none c.args.terms.now c.args.constant (no_terms c.args.terms.now c.is_empty.result c.is_empty.ensures c.if-is_empty.true)

pub returns-then-terms-gt-MOST_ITEMS : goal.returns-then-terms-gt-MOST_ITEMS
returns-then-terms-gt-MOST_ITEMS c = within_many c.args.terms.now c.args.constant c.if-terms-gt-MOST_ITEMS.true

pub returns-then-not-is_narrow : goal.returns-then-not-is_narrow
returns-then-not-is_narrow c =
    within_wide c.args.terms.now c.args.constant
    (λ h. false≢true (sym c.if-not-is_narrow.true ∙ c.is_narrow.ensures.1 (subst (λ (z : ℤ). nat_abs z ≤ 2 ^ 100) (sym (to_z-of_z w128 c.args.constant c.ranges.constant)) h)))

pub returns : goal.returns
returns c =
    within_all c.args.terms.now c.args.constant _ (some_terms c.args.terms.now c.is_empty.result c.is_empty.ensures c.if-is_empty.false) (omega (arith, c.if-terms-gt-MOST_ITEMS.false))
    (subst (λ (z : ℤ). nat_abs z ≤ 2 ^ 100) (to_z-of_z w128 c.args.constant c.ranges.constant) (c.is_narrow.ensures.0 c.if-not-is_narrow.false)) c.is_sum.ensures
