use Rattle.pi_store.proofs.StandingLemmas.{no_span, some_span}
use Rattle.pi_store.proofs.domains.span_by.Goals as goal

pub returns-then-end-eq0 : goal.returns-then-end-eq0
returns-then-end-eq0 c = no_span c.args.words.now.region c.args.word c.domain_end-end.result c.args.k _ c.domain_end-end.ensures c.if-end-eq0.true

pub returns : goal.returns
returns c = some_span c.args.words.now.region c.args.word c.domain_end-end.result c.args.k c.span.result c.domain_end-end.ensures (λ z. c.if-end-eq0.false z) c.span.ensures
