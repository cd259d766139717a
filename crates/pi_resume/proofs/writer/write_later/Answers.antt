use Rattle.std.proofs.Common.{arith}
use Rattle.std.specs.String.{string_bytes}
use Rattle.pi_resume.proofs.TokenLemmas.{number-next, numbers-end}
use Rattle.pi_resume.proofs.writer.write_later.Goals as goal

pub loop-number-preserved : goal.loop-number-preserved
loop-number-preserved c =
    number-next (string_bytes c.loop-number.text) (string_bytes c.write_number.new.text) (string_bytes c.args.text.now) c.args.numbers.now c.loop-number.number-index
    c.loop-number-test.true c.in_ok-write_number.ensures c.loop-number.invariant

pub returns : goal.returns
returns c =
    numbers-end (string_bytes c.loop-number.text) (string_bytes c.args.text.now) c.args.numbers.now c.loop-number.number-index (omega (arith, c.loop-number-test.false, c.loop-number.auto.number-index-end)) c.loop-number.invariant
