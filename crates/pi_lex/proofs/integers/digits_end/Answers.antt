use Rattle.std.proofs.Common.{arith}
use Rattle.std.proofs.lemmas.Grind.{common_steps}
use Rattle.pi_lex.proofs.LexLemmas.{digits_end-drop}
use Rattle.pi_lex.proofs.integers.digits_end.Goals as goal

pub loop-at-preserved : goal.loop-at-preserved
loop-at-preserved c =
    let turn = digits_end-drop c.args.radix c.loop-at.at c.args.text.now c.loop-at.at c.loop-at-test.true in
    grind (arith, common_steps)
