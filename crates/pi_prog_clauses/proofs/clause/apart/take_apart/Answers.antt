use Rattle.pi_prog_clauses.proofs.clause.ClauseLemmas.{shows_apart}
use Rattle.pi_prog_clauses.proofs.clause.apart.take_apart.Goals as goal

pub returns : goal.returns
returns c = shows_apart _ _ c.apart.ensures
