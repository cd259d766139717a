use Rattle.std.proofs.Common.{sym, subst, pos}
use Rattle.pi_constraints.specs.declared.domain.Span.{Span}
use Rattle.pi_constraints.specs.Domain.{IsDomain}
use Rattle.pi_agent.proofs.LossLemmas.{span-within, span-ordered, lost-turn, lost-done}
use Rattle.pi_agent.proofs.losses.push_lost.Goals as goal

abbrev blank : Span
blank = record { lo = pos 0; hi = pos 0 }

pub push_lost_between-requires-clause-low : goal.push_lost_between-requires-clause-low
push_lost_between-requires-clause-low c =
    let spans : IsDomain c.spans-spans.result.now = subst IsDomain (sym c.spans-spans.ensures.all) c.spans-spans.ensures.domain in
    (span-within c.spans-spans.result.now c.loop-i.i spans c.loop-i-test.true blank).0

pub push_lost_between-requires-clause-high : goal.push_lost_between-requires-clause-high
push_lost_between-requires-clause-high c =
    let spans : IsDomain c.spans-spans.result.now = subst IsDomain (sym c.spans-spans.ensures.all) c.spans-spans.ensures.domain in
    (span-within c.spans-spans.result.now c.loop-i.i spans c.loop-i-test.true blank).1

pub push_lost_between-requires-clause-ordered : goal.push_lost_between-requires-clause-ordered
push_lost_between-requires-clause-ordered c =
    let spans : IsDomain c.spans-spans.result.now = subst IsDomain (sym c.spans-spans.ensures.all) c.spans-spans.ensures.domain in
    span-ordered c.spans-spans.result.now c.loop-i.i spans c.loop-i-test.true blank

pub loop-i-preserved : goal.loop-i-preserved
loop-i-preserved c =
    lost-turn c.args.v c.args.ends c.args.old.now c.spans-spans.result.now c.args.new.now c.loop-i.i blank _ c.loop-i.events c.push_lost_between.new.events c.spans-spans.ensures.all c.loop-i-test.true c.loop-i.invariant c.in_ok-push_lost_between.ensures

pub returns : goal.returns
returns c = lost-done c.args.v c.args.ends c.args.old.now c.spans-spans.result.now c.args.new.now c.loop-i.i c.loop-i.events _ c.spans-spans.ensures.all c.loop-i-test.false c.loop-i.invariant
