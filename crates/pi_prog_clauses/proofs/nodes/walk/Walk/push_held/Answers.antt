use Rattle.pi_prog_clauses.proofs.nodes.BelowLemmas.{held-some}
use Rattle.pi_prog_clauses.proofs.nodes.WalkLemmas.{once_ok}
use Rattle.pi_prog_clauses.proofs.nodes.walk.Walk.push_held.Goals as goal

pub returns-in-Some : goal.returns-in-Some
returns-in-Some c = once_ok c.push.result c.push.ensures (λ now. held-some _ _ _ _ _ c.in-Some.is (rw c.deref.ensures at now))
