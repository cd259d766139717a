use Rattle.pi_store.proofs.DomainLemmas.{shows_domain}
use Rattle.pi_store.proofs.store.RawStore.domain.Goals as goal

pub returns : goal.returns
returns c = rw (← c.self.view_is) (shows_domain c.self.inside.names c.self.inside.words c.self.invariant c.args.v c.in_ok-found.found c.in_ok-found.ensures)
