use Rattle.std.proofs.Common.{◌∙◌, sym}
use Rattle.pi_prog_clauses.proofs.judging.JudgeLemmas.{apart_same, apart_more, apart_found}
use Rattle.pi_prog_clauses.proofs.judging.first_faults.first_apart.Goals as goal

pub loop-i-preserved-in_default : goal.loop-i-preserved-in_default
loop-i-preserved-in_default c =
    apart_same c.loop-i.earlier c.loop-i.last c.args.parts.now c.loop-i.i c.index-parts-i.result c.loop-i-test.true c.index-parts-i.is c.in_default.ensures c.loop-i.invariant

pub returns-then-stands_apart : goal.returns-then-stands_apart
returns-then-stands_apart c =
    let old = c.loop-i.invariant in
    apart_found c.loop-i.earlier c.loop-i.last c.in-Some.name c.args.parts.now c.loop-i.i c.index-parts-i.result c.loop-i-test.true c.index-parts-i.is c.in-Some.ensures old
    (sym (c.stands_apart.ensures old.before old.is) ∙ c.if-stands_apart.true)

pub loop-i-preserved : goal.loop-i-preserved
loop-i-preserved c =
    let old = c.loop-i.invariant in
    apart_more c.loop-i.earlier _ c.loop-i.last c.in-Some.name c.args.parts.now c.loop-i.i c.index-parts-i.result c.loop-i-test.true c.index-parts-i.is c.in-Some.ensures old
    (sym (c.stands_apart.ensures old.before old.is) ∙ c.if-stands_apart.false) c.in_ok-insert.ensures.before
