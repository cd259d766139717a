use Rattle.pi_top.proofs.Judging.{AreOne, one-line, not-both, one-asked}
use Rattle.pi_top.proofs.laws.judgements_are_one.Goals as goal

pub returns : goal.returns
returns c =
    let o : AreOne = record { reading = c.one_reading.ensures; verdict = c.one_verdict.ensures.program; goal = c.one_verdict.ensures.goal } in
    record { line = one-line o; not_both = not-both o; program = one-asked o }
