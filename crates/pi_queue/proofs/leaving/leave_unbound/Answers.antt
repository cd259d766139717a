use Rattle.pi_terms.specs.Tree.{var}
use Rattle.pi_settling.proofs.UniqueLemmas.{domain_made}
use Rattle.pi_queue.proofs.StoreLemmas.{domain-read}
use Rattle.pi_queue.proofs.TakeLemmas.{met-takes, met-within, domain-found}
use Rattle.pi_queue.proofs.leaving.leave_unbound.Goals as goal

pub returns-in_default-clause-takes : goal.returns-in_default-clause-takes
returns-in_default-clause-takes g c =
    λ d is has.
    let st = (g.S.StateStore.seen c.args.s.now).now.state in
    let at = c.var_ref-at.ensures (domain_made st c.args.v d has) in
    absurd (c.in_default.not-Some d (domain-read st c.args.v d c.in_ok-found.found has (c.in_ok-found.ensures (var c.args.v) at is.acyclic)))

pub returns-clause-takes : goal.returns-clause-takes
returns-clause-takes g c = λ d is has.
    let st = (g.S.StateStore.seen c.args.s.now).now.state in
    let at = c.var_ref-at.ensures (domain_made st c.args.v d has) in
    let found = domain-read st c.args.v d c.in_ok-found.found has (c.in_ok-found.ensures (var c.args.v) at is.acyclic) in
    let own = domain-found st c.args.v d c.in-Some.had c.in_ok-found.found has found c.in-Some.is in
    met-takes st (g.S.StateStore.seen c.keep.new.s).now.state c.args.v c.in-Some.had c.args.left.now c.in_ok-kept.kept c.args.lost.now.items c.keep.new.lost.items c.in_ok-some.some own c.in_ok-kept.ensures.values
    (c.in_ok-some.ensures.takes is own (met-within c.in-Some.had c.args.left.now c.in_ok-kept.kept c.in_ok-kept.ensures.values))
