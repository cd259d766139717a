use Rattle.std.proofs.Common.{◌∙◌, sym, ap}
use Rattle.std.specs.Prelude.{option_map}
use Rattle.pi_prog_clauses.specs.Called.{named_by}
use Rattle.pi_prog_clauses.proofs.judging.JudgeLemmas.{unknown_found, unknown_passed}
use Rattle.pi_prog_clauses.proofs.judging.first_faults.first_unknown.Goals as goal

pub returns-in-Some : goal.returns-in-Some
returns-in-Some c = λ all is.
    unknown_found c.args.parts.now c.loop-i.i c.index-parts-i.result c.loop-i-test.true c.index-parts-i.is all (named_by c.in-Some.called)
    (c.loop-i.invariant all is) (ap (option_map named_by) (sym c.in-Some.is) ∙ c.in_ok-unknown.ensures all is)

pub loop-i-preserved : goal.loop-i-preserved
loop-i-preserved c = λ all is.
    unknown_passed c.args.parts.now c.loop-i.i c.index-parts-i.result c.loop-i-test.true c.index-parts-i.is all
    (c.loop-i.invariant all is) (ap (option_map named_by) (sym c.in_default.is) ∙ c.in_ok-unknown.ensures all is)
