use Rattle.pi_prog_clauses.proofs.nodes.BelowLemmas.{head_arguments, head_without}
use Rattle.pi_prog_clauses.proofs.nodes.walk.Walk.of_head.Goals as goal

pub returns-in_ok-push_all-in-Call : goal.returns-in_ok-push_all-in-Call
returns-in_ok-push_all-in-Call c = head_arguments _ _ _ _ _ _ c.in-Call.ensures c.new-walk.ensures c.in_ok-push_all-in-Call.ensures

pub returns-in_default : goal.returns-in_default
returns-in_default c = head_without _ _ _ c.of.ensures c.in_default.not-Call c.new-walk.ensures
