use Rattle.pi_prog.proofs.OneReadingLemmas.{one_reading, one_program, one_goal}
use Rattle.pi_prog.proofs.laws.one_verdict.Goals as goal

pub returns : goal.returns
returns c = record { parts = one_reading; program = one_program; goal = one_goal }
