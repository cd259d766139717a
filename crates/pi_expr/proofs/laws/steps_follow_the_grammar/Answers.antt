use Rattle.pi_expr.proofs.Complete.{runs_to}
use Rattle.pi_expr.proofs.Exact.{runs_from}
use Rattle.pi_expr.proofs.laws.steps_follow_the_grammar.Goals as goal

pub returns : goal.returns
returns c = record { all = runs_to; only = runs_from }
