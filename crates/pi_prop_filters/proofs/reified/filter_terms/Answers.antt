use Rattle.std.proofs.Common.{◌≡◌, ◌∙◌, ℤ, ap, sym, subst, to_z, of_z}
use Rattle.std.specs.Prelude.{pos}
use Rattle.std.specs.Int.{w64, w128}
use Rattle.std.proofs.lemmas.Int.{to_z-of_z}
use Rattle.std.proofs.lemmas.Result.{IfOk-from_err}
use Rattle.pi_constraints.specs.Constraint.{IsSumWithinLimits}
use Rattle.pi_prop_places.specs.Changes.{AreFilteredFrom}
use Rattle.pi_prop_filters.specs.Terms.{TermKeeps}
use Rattle.pi_prop_filters.proofs.BitLemmas.{value_back_64}
use Rattle.pi_prop_filters.proofs.ReifiedLemmas.{idle_terms, true_terms, false_terms}
use Rattle.pi_prop_filters.proofs.reified.filter_terms.Goals as goal

pub returns-then-truth-greatest : goal.returns-then-truth-greatest
returns-then-truth-greatest g c =
    let least = c.least-truth.ensures.is in
    let greatest = c.greatest.ensures.is in
    let open_ = c.if-truth-greatest.true in
    idle_terms c.args.rel c.args.terms.now c.args.constant (g.P.Places.domains c.args.places.now)
    (λ f. open_ (ap (of_z w64) (least ∙ (f.0 ∙ sym (greatest ∙ f.1)))))
    (λ f. open_ (ap (of_z w64) (least ∙ (f.0 ∙ sym (greatest ∙ f.1)))))

pub filter_sum-requires-clause-count : goal.filter_sum-requires-clause-count
filter_sum-requires-clause-count g c = c.requires.count

pub filter_sum-requires-clause-limits : goal.filter_sum-requires-clause-limits
filter_sum-requires-clause-limits g c = subst (λ (z : ℤ). IsSumWithinLimits c.args.terms.now z) (sym (to_z-of_z w128 c.args.constant c.ranges.constant)) c.requires.limits

pub returns-in_err-filter_sum : goal.returns-in_err-filter_sum
returns-in_err-filter_sum g c = IfOk-from_err c.from_residual.result _ c.from_residual.ensures.0

pub returns-then-truth-eq1 : goal.returns-then-truth-eq1
returns-then-truth-eq1 g c =
    let ds = g.P.Places.domains c.args.places.now in
    let es = g.P.Places.domains c.filter_sum.new.places in
    let low = value_back_64 c.least-truth.result c.least-truth.ensures.within in
    let high = value_back_64 c.greatest.result c.greatest.ensures.within in
    let one : c.least-truth.result ≡ pos 1 = sym low ∙ ap (to_z w64) c.if-truth-eq1.true in
    let same : c.least-truth.result ≡ c.greatest.result = sym low ∙ (ap (to_z w64) c.if-truth-greatest.false ∙ high) in
    subst (λ (z : ℤ). AreFilteredFrom 1 (TermKeeps c.args.rel c.args.terms.now z ds) ds es) (to_z-of_z w128 c.args.constant c.ranges.constant)
    (true_terms c.args.rel c.args.terms.now _ ds es (sym c.least-truth.ensures.is ∙ one, sym c.greatest.ensures.is ∙ (sym same ∙ one)) c.in_ok-filter_sum.ensures)

pub filter_opposite-requires-clause-count : goal.filter_opposite-requires-clause-count
filter_opposite-requires-clause-count g c = c.requires.count

pub filter_opposite-requires-clause-limits : goal.filter_opposite-requires-clause-limits
filter_opposite-requires-clause-limits g c = subst (λ (z : ℤ). IsSumWithinLimits c.args.terms.now z) (sym (to_z-of_z w128 c.args.constant c.ranges.constant)) c.requires.limits

pub returns-in_err-filter_opposite : goal.returns-in_err-filter_opposite
returns-in_err-filter_opposite g c = IfOk-from_err c.from_residual-in_err-filter_opposite.result _ c.from_residual-in_err-filter_opposite.ensures.0

pub returns-then-truth-eq0 : goal.returns-then-truth-eq0
returns-then-truth-eq0 g c =
    let ds = g.P.Places.domains c.args.places.now in
    let es = g.P.Places.domains c.filter_opposite.new.places in
    let low = value_back_64 c.least-truth.result c.least-truth.ensures.within in
    let high = value_back_64 c.greatest.result c.greatest.ensures.within in
    let none : c.least-truth.result ≡ pos 0 = sym low ∙ ap (to_z w64) c.if-truth-eq0.true in
    let same : c.least-truth.result ≡ c.greatest.result = sym low ∙ (ap (to_z w64) c.if-truth-greatest.false ∙ high) in
    subst (λ (z : ℤ). AreFilteredFrom 1 (TermKeeps c.args.rel c.args.terms.now z ds) ds es) (to_z-of_z w128 c.args.constant c.ranges.constant)
    (false_terms c.args.rel c.args.terms.now _ ds es (sym c.least-truth.ensures.is ∙ none, sym c.greatest.ensures.is ∙ (sym same ∙ none)) c.in_ok-filter_opposite.ensures)

pub returns : goal.returns
returns g c =
    let least = c.least-truth.ensures.is in
    idle_terms c.args.rel c.args.terms.now c.args.constant (g.P.Places.domains c.args.places.now)
    (λ f. c.if-truth-eq1.false (ap (of_z w64) (least ∙ f.0)))
    (λ f. c.if-truth-eq0.false (ap (of_z w64) (least ∙ f.0)))
