use Rattle.pi_prog_clauses.proofs.clause.ClauseLemmas.{headed_call}
use Rattle.pi_prog_clauses.proofs.clause.read_headed_call.Goals as goal

pub returns-else-is_equation : goal.returns-else-is_equation
returns-else-is_equation c = headed_call _ _ _ c.is_equation.ensures c.if-is_equation.false
