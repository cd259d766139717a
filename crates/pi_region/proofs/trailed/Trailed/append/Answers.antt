use Rattle.pi_region.proofs.ChangeLemmas.{appended_advances}
use Rattle.pi_region.proofs.trailed.Trailed.append.Goals as goal

pub returns-clause-advances : goal.returns-clause-advances
returns-clause-advances c = rw (c.in_ok-push.ensures.ok, ← c.self.view_is) (appended_advances _ _ c.self.invariant)
