use Rattle.pi_queue.proofs.StoreLemmas.{confined}
use Rattle.pi_queue.proofs.leaving.write.Goals as goal

pub returns-clause-more : goal.returns-clause-more
returns-clause-more g c = λ d is has two.
    confined (g.S.StateStore.seen c.args.s.now) (g.S.StateStore.seen c.set_domain.new.self) c.var_ref-at.result c.args.v d c.args.kept.now is has two c.var_ref-at.ensures c.in_ok-set_domain.ensures.ok
