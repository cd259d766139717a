use Rattle.std.proofs.Common.{◌≡◌, ◌∙◌, length, arith}
use Rattle.pi_plan.proofs.AdvanceLemmas.{unfold_more, unfold_end}
use Rattle.pi_plan.proofs.advance.unfold.Goals as goal

pub loop-successor-preserved : goal.loop-successor-preserved
loop-successor-preserved c = (
  c.add_step.ensures.keeps.by_rest ∙ c.loop-successor.invariant.0,
  λ w given h last not_final.
      unfold_more w given c.args.search.now c.loop-successor.search c.add_step.new.self c.args.parent c.loop-successor.successor-index c.args.entry.now c.in-Some.way.now c.as_slice-successors.result.now
      c.successor-item.result c.deref.result.now h last c.deref.ensures.value c.in-Some.ensures c.as_slice-successors.ensures c.loop-successor-test.true c.successor-item.is c.in_ok-add_step.ensures.adds
      (c.loop-successor.invariant.1 w given h last not_final),
)

pub returns-clause-ready : goal.returns-clause-ready
returns-clause-ready c = λ w given h last not_final.
    let count : c.loop-successor.successor-index ≡ length c.as_slice-successors.result.now = omega arith in
    unfold_end w given c.args.search.now c.loop-successor.search c.args.parent c.loop-successor.successor-index c.args.entry.now c.as_slice-successors.result.now h last not_final c.as_slice-successors.ensures count
    (c.loop-successor.invariant.1 w given h last not_final)
