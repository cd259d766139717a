use Rattle.std.proofs.Common.{Some, None, sym, ◌∙◌}
use Rattle.std.proofs.lemmas.List.{append-nil}
use Rattle.pi_unify.proofs.DomainsLemmas.{met-again, met-first}
use Rattle.pi_unify.proofs.domains.meet_one.Goals as goal

pub returns-then-len-before : goal.returns-then-len-before
returns-then-len-before g c = λ ns has.
    met-again (g.S.StateStore.seen c.args.store.now).now.state ns c.args.n c.args.met.now c.meet.new.self c.in_ok-meet.ensures.ok (sym c.len.ensures ∙ c.if-len-before.true ∙ c.len-before.ensures) has

pub returns-in_ok-push : goal.returns-in_ok-push
returns-in_ok-push g c = λ ns has.
    met-first (g.S.StateStore.seen c.args.store.now).now.state ns c.args.n c.args.met.now c.meet.new.self c.push.new.self (Some c.in-Some.domain) c.in_ok-meet.ensures.ok
    (λ same. c.if-len-before.false (c.len.ensures ∙ same ∙ sym c.len-before.ensures)) (λ acyclic unbound. sym c.in-Some.is ∙ c.in_ok-domain.ensures acyclic unbound) c.in_ok-push.ensures.ok has

pub returns-in_default : goal.returns-in_default
returns-in_default g c = λ ns has.
    met-first (g.S.StateStore.seen c.args.store.now).now.state ns c.args.n c.args.met.now c.meet.new.self c.args.met.now.domains None c.in_ok-meet.ensures.ok
    (λ same. c.if-len-before.false (c.len.ensures ∙ same ∙ sym c.len-before.ensures)) (λ acyclic unbound. sym c.in_default.is ∙ c.in_ok-domain.ensures acyclic unbound) (sym (append-nil c.args.met.now.domains)) has
