use Rattle.std.specs.Prelude.{◌&&◌}
use Rattle.std.proofs.Common.{sym, ◌∙◌, ap}
use Rattle.pi_constraints.specs.State.{bindings}
use Rattle.pi_agent.proofs.WakeLemmas.{ins-answers, bound-answers, dom-answers, any-answers, posted-answers}
use Rattle.pi_agent.proofs.waking.answers.Goals as goal

pub returns-in-Ins-watch : goal.returns-in-Ins-watch
returns-in-Ins-watch g c = λ w a has. ins-answers (g.S.StateStore.seen c.args.s.now) _ c.args.event.now c.in-Ins.n c.args.watch c.in-Ins-watch.r c.leads_to.result w c.in-Ins.is c.in-Ins-watch.is a c.leads_to.ensures has

pub returns-in-Bound-watch : goal.returns-in-Bound-watch
returns-in-Bound-watch g c = λ w a has. bound-answers (g.S.StateStore.seen c.args.s.now) _ c.args.event.now c.in-Bound.n c.args.watch c.in-Bound-watch.r c.leads_to-in-Bound-watch.result w c.in-Bound.is c.in-Bound-watch.is a c.leads_to-in-Bound-watch.ensures has

pub returns-then-inner : goal.returns-then-inner
returns-then-inner g c = λ w a has. ap (λ q. q && c.leads_to-then-inner.result) (sym c.if-inner.true) ∙
    dom-answers (g.S.StateStore.seen c.args.s.now) (bindings (g.S.StateStore.seen c.args.s.now).now.state) c.args.event.now c.in-Excluded.n c.in-Excluded.field-1 c.in-Excluded.inner c.args.watch c.in-Dom.r c.in-Dom.field-1 c.leads_to-then-inner.result w c.in-Excluded.is c.in-Dom.is a c.leads_to-then-inner.ensures has

pub returns-in-DomAny : goal.returns-in-DomAny
returns-in-DomAny g c = λ w a has. any-answers (g.S.StateStore.seen c.args.s.now) _ c.args.event.now c.in-Excluded.n c.in-Excluded.field-1 c.in-Excluded.inner c.args.watch c.in-DomAny.r c.in-DomAny.field-1 c.leads_to-in-DomAny.result w c.in-Excluded.is c.in-DomAny.is a c.leads_to-in-DomAny.ensures has

pub returns-in-Posted-watch : goal.returns-in-Posted-watch
returns-in-Posted-watch g c = λ w a has. posted-answers (g.S.StateStore.seen c.args.s.now) _ c.args.event.now c.in-Posted.n c.in-Posted.field-1 c.args.watch c.in-Posted-watch.r c.in-Posted-watch.field-1 c.leads_to-in-Posted-watch.result w c.in-Posted.is c.in-Posted-watch.is a c.leads_to-in-Posted-watch.ensures has
