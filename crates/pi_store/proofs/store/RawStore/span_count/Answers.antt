use Rattle.pi_store.proofs.StandingLemmas.{count_shown, domain_shown}
use Rattle.pi_store.proofs.store.RawStore.span_count.Goals as goal

pub returns-clause-count : goal.returns-clause-count
returns-clause-count c = rw (← c.self.view_is) (count_shown c.self.inside.names c.self.inside.words c.args.n c.get.result c.span_count_by.result c.get.ensures c.span_count_by.ensures.count)

pub returns-clause-domain : goal.returns-clause-domain
returns-clause-domain c = rw (← c.self.view_is) (domain_shown c.self.inside.names c.self.inside.words c.args.n c.get.result c.get.ensures c.span_count_by.ensures.domain)
