use Rattle.std.proofs.Common.{sym, arith}
use Rattle.pi_rewrite_sound.proofs.GoalNames.{no-solve}
use Rattle.pi_rewrite_sound.proofs.names.is_solve.Goals as goal

pub returns-in-Err : goal.returns-in-Err
returns-in-Err c = sym (no-solve c.args.name.now c.args.count (omega (arith, c.in-Err.ensures)))
