use Rattle.pi_prog_clauses.specs.Called.{named_by}
use Rattle.pi_prog_clauses.proofs.judging.JudgeLemmas.{set_same, set_more}
use Rattle.pi_prog_clauses.proofs.judging.first_faults.definitions.Goals as goal

pub loop-i-preserved-in_default : goal.loop-i-preserved-in_default
loop-i-preserved-in_default c =
    set_same c.args.parts.now c.loop-i.i c.index-parts-i.result c.loop-i-test.true c.index-parts-i.is c.loop-i.all c.in_default.ensures c.loop-i.invariant

pub loop-i-preserved : goal.loop-i-preserved
loop-i-preserved c =
    set_more c.args.parts.now c.loop-i.i c.index-parts-i.result c.loop-i-test.true c.index-parts-i.is _ (named_by c.in-Some.name) c.in-Some.ensures (c.in_ok-insert.ensures.behind _ c.loop-i.invariant)
