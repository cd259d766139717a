use Rattle.std.proofs.Common.{ℕ, ◌≡◌, ◌≤◌, List, length, get_or, ap₂, sym, subst, ◌∙◌}
use Rattle.pi_sat_spec.specs.declared.literal.Literal.{Literal}
use Rattle.pi_sat_spec.specs.Domains.{allowed}
use Rattle.pi_sat_spec.specs.Logs.{lemma_at}
use Rattle.pi_sat_spec.proofs.StepLemmas.{lemma-read, led-nothing, led-one, led-more, led-end}
use Rattle.pi_sat_check.proofs.hints.leads_on.Goals as goal

pub returns-in-Nothing : goal.returns-in-Nothing
returns-in-Nothing c =
    let h : ℕ = get_or c.args.hints.now c.loop-hint.hint-index 0 in
    let same : allowed c.as_slice.result.now c.lemma_of-lemma.result.now ≡ allowed c.loop-hint.present.items (lemma_at c.args.earlier.now h) =
    ap₂ allowed c.as_slice.ensures.value (c.lemma_of-lemma.ensures ∙ lemma-read c.args.earlier.now h c.index-earlier-hint.result (c.requires c.loop-hint.hint-index 0 c.loop-hint-test.true) c.index-earlier-hint.is) in
    led-nothing c.args.earlier.now c.loop-hint.present.items c.args.hints.now c.loop-hint.hint-index _ c.loop-hint-test.true c.loop-hint.invariant (sym same ∙ c.in-Nothing.ensures)

pub returns-in-More : goal.returns-in-More
returns-in-More c =
    let h : ℕ = get_or c.args.hints.now c.loop-hint.hint-index 0 in
    let same : allowed c.as_slice.result.now c.lemma_of-lemma.result.now ≡ allowed c.loop-hint.present.items (lemma_at c.args.earlier.now h) =
    ap₂ allowed c.as_slice.ensures.value (c.lemma_of-lemma.ensures ∙ lemma-read c.args.earlier.now h c.index-earlier-hint.result (c.requires c.loop-hint.hint-index 0 c.loop-hint-test.true) c.index-earlier-hint.is) in
    led-more c.args.earlier.now c.loop-hint.present.items c.args.hints.now c.loop-hint.hint-index _ c.loop-hint-test.true c.loop-hint.invariant (subst (λ (ls : List Literal). 2 ≤ length ls) same c.in-More.ensures)

pub loop-hint-preserved : goal.loop-hint-preserved
loop-hint-preserved c =
    let h : ℕ = get_or c.args.hints.now c.loop-hint.hint-index 0 in
    let same : allowed c.as_slice.result.now c.lemma_of-lemma.result.now ≡ allowed c.loop-hint.present.items (lemma_at c.args.earlier.now h) =
    ap₂ allowed c.as_slice.ensures.value (c.lemma_of-lemma.ensures ∙ lemma-read c.args.earlier.now h c.index-earlier-hint.result (c.requires c.loop-hint.hint-index 0 c.loop-hint-test.true) c.index-earlier-hint.is) in
    led-one c.args.earlier.now c.loop-hint.present.items c.cut.new.present.items c.args.hints.now c.loop-hint.hint-index c.in-One.literal _ c.loop-hint-test.true c.loop-hint.invariant (sym same ∙ c.in-One.ensures)
    c.in_ok-cut-in-One.ensures

pub returns : goal.returns
returns c = led-end c.args.earlier.now c.loop-hint.present.items c.args.hints.now c.loop-hint.hint-index _ c.loop-hint-test.false c.loop-hint.invariant
