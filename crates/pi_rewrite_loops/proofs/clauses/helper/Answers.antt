use Rattle.pi_rewrite_loops.proofs.ClauseLemmas.{helper-is}
use Rattle.pi_rewrite_loops.proofs.clauses.helper.Goals as goal

pub returns : goal.returns
returns c = helper-is c.args.name.now c.in_ok-name.name c.args.arity c.args.clauses.items c.from_vec.result c.in_ok-name.ensures.ok c.from_vec.ensures
