use Rattle.pi_store.proofs.SinceLemmas.{changed_are}
use Rattle.pi_store.proofs.store.RawStore.changed_since.Goals as goal

pub returns : goal.returns
returns c = rw (← c.self.view_is) (λ good. changed_are c.self.inside.names c.self.inside.words c.self.invariant c.args.m.now.length c.in_ok-found.found c.in_ok-found.ensures)
