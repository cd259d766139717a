use Rattle.std.proofs.Common.{arith, rules, ◌≡◌, ◌∙◌, ◌+◌, ◌≤◌, ◌^◌, ℤ, nat_abs, ap, sym, refl, subst, to_z, of_z}
use Rattle.std.specs.Int.{w128}
use Rattle.std.proofs.lemmas.Bool.{false≢true}
use Rattle.std.proofs.lemmas.Int.{to_z-of_z}
use Rattle.pi_prop_spec.specs.Sums.{coefficient_at}
use Rattle.pi_prop_places.proofs.FitLemmas.{unwrapped}
use Rattle.pi_prop_filters.proofs.LimitLemmas.{term_passed, term_wrong, terms_seen}
use Rattle.pi_prop_filters.proofs.limits.is_sum.Goals as goal

pub returns-then-coefficient-eq0 : goal.returns-then-coefficient-eq0
returns-then-coefficient-eq0 c = (
  λ t. absurd (false≢true t),
  λ all. absurd (term_wrong c.args.terms.now c.loop-i.i c.loop-i.least c.loop-i-test.true (λ o narrow low. let h = c.if-coefficient-eq0.true in o (sym (unwrapped (coefficient_at c.args.terms.now c.loop-i.i) (omega (arith, narrow))) ∙ ap (to_z w128) h)) c.loop-i.invariant all),
)

pub returns-then-not-is_narrow : goal.returns-then-not-is_narrow
returns-then-not-is_narrow c = (
  λ t. absurd (false≢true t),
  λ all. absurd (term_wrong c.args.terms.now c.loop-i.i c.loop-i.least c.loop-i-test.true (λ o narrow low. false≢true (sym c.if-not-is_narrow.true ∙ c.is_narrow.ensures.1 (subst (λ (z : ℤ). nat_abs z ≤ 2 ^ 40) (sym (unwrapped (coefficient_at c.args.terms.now c.loop-i.i) (omega (arith, narrow)))) narrow))) c.loop-i.invariant all),
)

pub returns-then-variable-least : goal.returns-then-variable-least
returns-then-variable-least c = (
  λ t. absurd (false≢true t),
  λ all. absurd (term_wrong c.args.terms.now c.loop-i.i c.loop-i.least c.loop-i-test.true (λ o narrow low. omega (arith, c.if-variable-least.true, c.from-variable.ensures, low)) c.loop-i.invariant all),
)

pub loop-i-preserved : goal.loop-i-preserved
loop-i-preserved c =
    let ts = c.args.terms.now in
    let i = c.loop-i.i in
    let value = c.from-variable.ensures in
    let same : to_z w128 (of_z w128 (coefficient_at ts i)) ≡ coefficient_at ts i = to_z-of_z w128 (coefficient_at ts i) (search rules) in
    term_passed ts i c.loop-i.least (c.from-variable.result + 1) c.loop-i-test.true (λ e. c.if-coefficient-eq0.false (ap (of_z w128) e)) (subst (λ (z : ℤ). nat_abs z ≤ 2 ^ 40) same (c.is_narrow.ensures.0 c.if-not-is_narrow.false))
    (omega (arith, c.if-variable-least.false, value)) (omega (arith, value)) c.loop-i.invariant

pub returns : goal.returns
returns c = (λ t. terms_seen c.args.terms.now c.loop-i.i c.loop-i.least c.loop-i-test.false c.loop-i.invariant, λ all. refl)
