use Rattle.std.proofs.Common.{None, refl}
use Rattle.pi_store.proofs.KeepLemmas.{marks_now}
use Rattle.pi_store.proofs.store.RawStore.mark_now.Goals as goal

pub returns : goal.returns
returns c = rw (← c.self.view_is) (marks_now c.self.inside.names c.self.inside.words (record { length = c.len.result; beside = None }) c.self.invariant c.len.ensures.len refl)
