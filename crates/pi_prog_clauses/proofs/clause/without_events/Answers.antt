use Rattle.std.proofs.Common.{refl}
use Rattle.pi_prog_clauses.proofs.clause.ClauseLemmas.{split_none}
use Rattle.pi_prog_clauses.proofs.clause.without_events.Goals as goal

pub returns : goal.returns
returns c = split_none _ _ _ _ c.in_ok-push.ensures.items refl c.new.ensures.items refl
