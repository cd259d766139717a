use Rattle.pi_top.proofs.AskedOnce.{one-ready, one-unready, ready-or-not, one-asks, one-refuses, asks-or-not}
use Rattle.pi_top.proofs.Judging.{AreOne}
use Rattle.pi_top.proofs.ServedInput.{serves-its-lines}
use Rattle.pi_top.proofs.SessionsOne.{sessions-are-one}
use Rattle.pi_top.proofs.laws.sessions_are_one.Goals as goal

pub returns : goal.returns
returns c =
    let o : AreOne = record { reading = c.one_reading.ensures; verdict = c.one_verdict.ensures.program; goal = c.one_verdict.ensures.goal } in
    record {
      program = one-ready o;
      program_line = one-unready o;
      program_or_line = ready-or-not o;
      goal = one-asks o;
      goal_line = one-refuses o;
      goal_or_line = asks-or-not o;
      lines = serves-its-lines;
      session = sessions-are-one o;
    }
