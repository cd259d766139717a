use Rattle.pi_store.proofs.SoundLemmas.{has_bound}
use Rattle.pi_store.proofs.store.RawStore.read_term.Goals as goal

pub returns : goal.returns
returns c = rw (← c.self.view_is) (λ t is acyclic. c.read.ensures t (has_bound c.self.inside.names c.self.inside.words c.self.invariant, (is, acyclic)))
