use Rattle.pi_prog_clauses.proofs.restrictions.HeadNameLemmas.{has_other}
use Rattle.pi_prog_clauses.proofs.restrictions.head_names.HeadNames.has.Goals as goal

pub returns : goal.returns
returns c = has_other c.args.self.now c.args.name _ _ c.eq.ensures c.if-eq.false c.contains.ensures
