use Rattle.std.proofs.Common.{subst, sym}
use Rattle.pi_prog_clauses.specs.Before.{IsBefore, fault_shown}
use Rattle.pi_prog_clauses.proofs.judging.JudgeLemmas.{take_next, fault_found, fault_passed}
use Rattle.pi_prog_clauses.proofs.judging.first_faults.first_faulty.Goals as goal

pub returns-in-Some : goal.returns-in-Some
returns-in-Some c = λ all is.
    fault_found c.args.parts.now c.loop-i.i c.index-parts-i.result c.loop-i-test.true c.index-parts-i.is all (fault_shown c.in-Some.fault)
    (c.loop-i.invariant.same all is) (c.in-Some.ensures all _ is c.loop-i.invariant.before)

pub loop-i-preserved : goal.loop-i-preserved
loop-i-preserved c = record {
  before = subst (IsBefore _) (sym (take_next c.args.parts.now c.loop-i.i c.index-parts-i.result c.loop-i-test.true c.index-parts-i.is)) (c.in_ok-add.ensures _ c.loop-i.invariant.before);
  same = λ all is. fault_passed c.args.parts.now c.loop-i.i c.index-parts-i.result c.loop-i-test.true c.index-parts-i.is all
      (c.loop-i.invariant.same all is) (c.in_default.ensures all _ is c.loop-i.invariant.before);
}
