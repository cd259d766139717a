use Rattle.pi_store.proofs.StandingLemmas.{span_shown}
use Rattle.pi_store.proofs.store.RawStore.span.Goals as goal

pub returns : goal.returns
returns c = rw (← c.self.view_is) (span_shown c.self.inside.names c.self.inside.words c.args.n c.get.result c.args.k c.span_by.result c.get.ensures c.span_by.ensures)
