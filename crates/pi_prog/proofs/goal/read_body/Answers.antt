use Rattle.std.proofs.Common.{subst}
use Rattle.pi_lex.specs.Kinds.{kinds}
use Rattle.pi_expr.specs.Faults.{IsFault}
use Rattle.pi_prog.proofs.goal.read_body.Goals as goal

pub returns-in-Err-clause-fault : goal.returns-in-Err-clause-fault
returns-in-Err-clause-fault c = λ program. c.unread.ensures (kinds c.args.tokens.now) program (subst (λ ts. IsFault ts c.in-Err.fault) c.goal_end-to.ensures.before c.in-Err.ensures.fault)
