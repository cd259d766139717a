use Rattle.pi_unify.proofs.DomainsLemmas.{met-none, occurring-more}
use Rattle.std.proofs.Common.{take, subst, sym}
use Rattle.pi_unify.specs.Domains.{HasMet, occurring}
use Rattle.pi_unify.proofs.BindLemmas.{if_err}
use Rattle.pi_unify.proofs.domains.domains_in.Goals as goal

pub loop-named-init : goal.loop-named-init
loop-named-init g c = met-none (g.S.StateStore.seen c.args.store.now).now.state (record { variables = c.new.result; domains = c.new-2.result }) c.new.ensures c.new-2.ensures

pub returns-in_err-meet_all : goal.returns-in_err-meet_all
returns-in_err-meet_all g c = if_err c.from_residual.result _ c.from_residual.ensures.0

pub loop-named-preserved : goal.loop-named-preserved
loop-named-preserved g c =
    let i = c.loop-named.named-index in
    let values = c.args.values.now in
    subst (λ ns. HasMet (g.S.StateStore.seen c.args.store.now).now.state ns c.meet_all.new.met) (sym (occurring-more values i c.named-item.result c.loop-named-test.true c.named-item.is))
    (c.in_ok-meet_all.ensures (occurring (take i values)) c.loop-named.invariant)
