use Rattle.pi_lib_constraints.proofs.KeepLemmas.{confined-at}
use Rattle.pi_lib_constraints.proofs.keeping.leave_values.Goals as goal

pub returns-clause-more : goal.returns-clause-more
returns-clause-more g c = λ n is h two.
    confined-at (g.S.StateStore.seen c.args.s.now) (g.S.StateStore.seen c.set_domain.new.self) c.args.at n c.args.left.now is c.look-root.ensures.below h two c.in_ok-set_domain.ensures.ok
