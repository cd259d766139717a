use Rattle.std.proofs.Common.{◌∙◌, arith}
use Rattle.pi_resume.proofs.TokenLemmas.{bytes-end}
use Rattle.pi_resume.proofs.reader.numbers_between.Goals as goal

pub returns : goal.returns
returns c = c.in_ok-push.ensures.ok ∙ bytes-end c.loop-byte.path c.args.text.now c.loop-byte.byte-index c.loop-byte.value (omega (arith, c.loop-byte-test.false, c.loop-byte.auto.byte-index-end)) c.loop-byte.invariant
