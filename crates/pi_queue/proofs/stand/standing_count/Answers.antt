use Rattle.pi_queue.proofs.HeldLemmas.{nowhere-domain, one-stands}
use Rattle.pi_queue.proofs.stand.standing_count.Goals as goal

pub returns-in-Nowhere-clause-domain : goal.returns-in-Nowhere-clause-domain
returns-in-Nowhere-clause-domain g c = λ b. nowhere-domain (g.S.StateStore.seen c.args.store.now).now.state c.args.stand c.in-Nowhere.is

pub returns-in-One-clause-domain : goal.returns-in-One-clause-domain
returns-in-One-clause-domain g c = λ b. one-stands (g.S.StateStore.seen c.args.store.now).now.state c.args.stand c.in-One.field-0 c.in-One.is b
