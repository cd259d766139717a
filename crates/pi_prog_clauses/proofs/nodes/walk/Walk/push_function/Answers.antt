use Rattle.pi_prog_clauses.proofs.nodes.BelowLemmas.{clause-function}
use Rattle.pi_prog_clauses.proofs.nodes.WalkLemmas.{thrice_ok}
use Rattle.pi_prog_clauses.proofs.nodes.walk.Walk.push_function.Goals as goal

pub returns : goal.returns
returns c = thrice_ok c.push_optional.result c.push_optional-2.result c.push.result c.and.result c.and-2.result c.and.ensures c.and-2.ensures c.push_optional.ensures c.push_optional-2.ensures c.push.ensures (λ one two now. clause-function c.args.function.now _ _ _ _ (rw c.body.ensures at one) (rw c.cond.ensures at two) now)
