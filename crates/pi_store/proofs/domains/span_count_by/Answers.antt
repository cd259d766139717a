use Rattle.pi_store.proofs.StandingLemmas.{by_domain, no_count, some_count}
use Rattle.pi_store.proofs.domains.span_count_by.Goals as goal

pub returns-then-end-eq0-clause-count : goal.returns-then-end-eq0-clause-count
returns-then-end-eq0-clause-count c = no_count c.args.words.now.region c.args.word c.domain_end-end.result c.domain_end-end.ensures c.if-end-eq0.true

pub returns-then-end-eq0-clause-domain : goal.returns-then-end-eq0-clause-domain
returns-then-end-eq0-clause-domain c = by_domain c.args.words.now.region c.args.word

pub returns-clause-count : goal.returns-clause-count
returns-clause-count c = some_count c.args.words.now.region c.args.word c.domain_end-end.result c.span_count.result c.domain_end-end.ensures (λ z. c.if-end-eq0.false z) c.span_count.ensures

pub returns-clause-domain : goal.returns-clause-domain
returns-clause-domain c = by_domain c.args.words.now.region c.args.word
