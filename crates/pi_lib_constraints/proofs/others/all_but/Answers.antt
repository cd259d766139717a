use Rattle.std.proofs.Common.{◌≡◌, ◌∙◌, refl, sym, subst, arith, neg_ℤ, rules, to_z, of_z, w64}
use Rattle.pi_constraints.specs.declared.domain.Span.{Span}
use Rattle.pi_constraints.specs.declared.domain.TheConstants.{MAX_VALUE}
use Rattle.pi_constraints.specs.Domain.{IsDomain}
use Rattle.pi_settling.specs.Values.{gaps_from}
use Rattle.std.specs.Prelude.{pos}
use Rattle.pi_lib_constraints.proofs.SideLemmas.{gaps-more, gaps-end, others-domain, span-within}
use Rattle.pi_lib_constraints.proofs.others.all_but.Goals as goal

pub loop-k-preserved : goal.loop-k-preserved
loop-k-preserved c =
    let none : Span = record { lo = pos 0; hi = pos 0 } in
    let bits : to_z w64 (of_z w64 c.in_ok-least.least) ≡ c.in_ok-least.least = search rules in
    gaps-more c.spans-spans.result.now c.loop-k.k none _ _ (to_z w64 (of_z w64 c.in_ok-least.least)) c.loop-k.gaps.items c.push_gap.new.gaps.items (gaps_from (neg_ℤ MAX_VALUE) c.spans-spans.result.now) c.loop-k-test.true refl c.loop-k.invariant
    (bits ∙ c.in_ok-least.ensures.next) c.in_ok-least.ensures.pushed

pub new-requires : goal.new-requires
new-requires c =
    others-domain c.args.domain.now c.push_between.new.spans.items
    (gaps-end c.spans-spans.result.now c.args.domain.now c.loop-k.k _ c.loop-k.gaps.items c.push_between.new.spans.items (omega (arith, c.loop-k-test.false, c.loop-k.auto.k-end)) c.spans-spans.ensures.all c.loop-k.invariant c.in_ok-push_between.ensures) c.spans-spans.ensures.domain

pub push_gap-requires-clause-low : goal.push_gap-requires-clause-low
push_gap-requires-clause-low c = (span-within c.spans-spans.result.now c.loop-k.k (record { lo = pos 0; hi = pos 0 }) (subst IsDomain (sym c.spans-spans.ensures.all) c.spans-spans.ensures.domain) c.loop-k-test.true).0

pub push_gap-requires-clause-high : goal.push_gap-requires-clause-high
push_gap-requires-clause-high c = (span-within c.spans-spans.result.now c.loop-k.k (record { lo = pos 0; hi = pos 0 }) (subst IsDomain (sym c.spans-spans.ensures.all) c.spans-spans.ensures.domain) c.loop-k-test.true).1

pub returns : goal.returns
returns c =
    c.new.ensures
    ∙ gaps-end c.spans-spans.result.now c.args.domain.now c.loop-k.k _ c.loop-k.gaps.items c.push_between.new.spans.items (omega (arith, c.loop-k-test.false, c.loop-k.auto.k-end)) c.spans-spans.ensures.all c.loop-k.invariant c.in_ok-push_between.ensures
