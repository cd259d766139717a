use Rattle.std.proofs.Common.{◌<◌, subst}
use Rattle.std.proofs.lemmas.Result.{IfOk-weaker}
use Rattle.pi_unify.proofs.DomainsLemmas.{domain-found}
use Rattle.pi_unify.proofs.domains.domain_of.Goals as goal

pub returns : goal.returns
returns g c =
    IfOk-weaker c.domain.result _ _
    (λ found so acyclic unbound.
    domain-found (g.S.StateStore.seen c.args.store.now) c.args.n c.var_ref.result found (subst (λ k. c.args.n < k) c.vars.ensures c.if-n-vars.false) c.var_ref.ensures so acyclic unbound) c.domain.ensures
