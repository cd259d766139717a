use Rattle.std.proofs.Common.{arith}
use Rattle.pi_engine_code.proofs.LaidTerms.{no-variables-none, no-variable-more, ground-all}
use Rattle.pi_engine_code.proofs.build.terms.is_ground.Goals as goal

pub loop-i-init : goal.loop-i-init
loop-i-init c = no-variables-none

pub loop-i-preserved : goal.loop-i-preserved
loop-i-preserved c = no-variable-more c.args.term.now c.loop-i.i c.head_at.result c.head_at.ensures c.in_default.not-Var c.loop-i.invariant

pub returns : goal.returns
returns c = λ yes. ground-all c.args.term.now c.loop-i.i (omega (arith, c.cells-i-end.ensures)) c.loop-i.invariant
