use Rattle.pi_prog_clauses.proofs.nodes.WalkLemmas.{taken}
use Rattle.pi_prog_clauses.proofs.nodes.walk.Walk.next.Goals as goal

pub returns : goal.returns
returns c = taken _ _ c.in-Some.row c.place-place.result _ _ c.in-Some.ensures.items c.place-place.ensures c.in_ok-push_row.ensures c.in_ok-push_below.ensures
