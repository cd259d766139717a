use Rattle.std.proofs.Common.{◌∙◌, Bool}
use Rattle.pi_constraints.specs.Unify.{confined, joined}
use Rattle.pi_constraints.specs.Domain.{IsDomain, values_of}
use Rattle.pi_unify.specs.Answers.{Makes}
use Rattle.pi_unify.specs.Refs.{AreVariables}
use Rattle.pi_constraints.proofs.StateLemmas.{domain_good}
use Rattle.pi_unify.proofs.RefLemmas.{domain_of_variable, tie_is}
use Rattle.pi_unify.proofs.BindLemmas.{joined_free, joined_high, joined_common, common_good, if_ok, if_err}
use Rattle.pi_unify.proofs.KeepsLemmas.{keeps_none}
use Rattle.pi_unify.proofs.variables.join.Goals as goal

pub returns-in_default-clause-makes : goal.returns-in_default-clause-makes
returns-in_default-clause-makes g c = λ p.
    let v = g.S.StateStore.seen c.args.s.now in
    let w = g.S.StateStore.seen c.bind.new.self in
    let a = c.args in
    let hd = domain_of_variable v a.high c.in_ok-high_domain.high_domain p.state p.high c.in_ok-high_domain.ensures in
    joined_free v.now.state w.now.state a.low.number a.high.number (hd ∙ c.in_default.is) (tie_is v w a.low a.high p.state p.low p.high p.less c.in_ok-bind.ensures.ok)

pub returns-in_default-low_domain-clause-makes : goal.returns-in_default-low_domain-clause-makes
returns-in_default-low_domain-clause-makes g c = λ p.
    let v = g.S.StateStore.seen c.args.s.now in
    let a = c.args in
    let hd = domain_of_variable v a.high c.in_ok-high_domain.high_domain p.state p.high c.in_ok-high_domain.ensures in
    let ld = domain_of_variable v a.low c.in_ok-low_domain.low_domain p.state p.low c.in_ok-low_domain.ensures in
    joined_high v.now.state (g.S.StateStore.seen c.narrow.new.s).now.state a.low.number a.high.number _ (ld ∙ c.in_default-low_domain.is) (hd ∙ c.in-Some.is) (c.in_ok-narrow.ensures.ok p (domain_good v.now.state a.high.number c.in-Some.e p.state (hd ∙ c.in-Some.is)).1)

pub returns-clause-makes : goal.returns-clause-makes
returns-clause-makes g c =
    let v = g.S.StateStore.seen c.args.s.now in
    let a = c.args in
    let now = (g.S.StateStore.seen c.confine.new.s).now.state in
    let d = c.in-Some-low_domain.d in
    let e = c.in-Some.e in
    let both = c.in_ok-both.both in
    if_ok c.confine.result (λ (one : Bool). AreVariables v a.low a.high → IsDomain both → Makes (confined v.now.state a.low.number a.high.number both (values_of both)) one now) (λ (one : Bool). AreVariables v a.low a.high → Makes (joined v.now.state a.low.number a.high.number) one now) c.confine.ensures.makes
    (λ one makes p.
    let hd = domain_of_variable v a.high c.in_ok-high_domain.high_domain p.state p.high c.in_ok-high_domain.ensures ∙ c.in-Some.is in
    let ld = domain_of_variable v a.low c.in_ok-low_domain.low_domain p.state p.low c.in_ok-low_domain.ensures ∙ c.in-Some-low_domain.is in
    joined_common v.now.state now one a.low.number a.high.number d e both ld hd c.in_ok-both.ensures.common
    (makes p (common_good v.now.state a.low.number a.high.number d e both p.state ld hd c.in_ok-both.ensures.common)))

pub returns-in_err-high_domain-clause-keeps : goal.returns-in_err-high_domain-clause-keeps
returns-in_err-high_domain-clause-keeps g c = keeps_none (g.S.StateStore.seen c.args.s.now)

pub returns-in_err-high_domain-clause-makes : goal.returns-in_err-high_domain-clause-makes
returns-in_err-high_domain-clause-makes g c = if_err c.from_residual.result _ c.from_residual.ensures.0

pub returns-in_err-high_domain-clause-refused : goal.returns-in_err-high_domain-clause-refused
returns-in_err-high_domain-clause-refused g c = if_err c.from_residual.result _ c.from_residual.ensures.0

pub returns-in_err-bind-clause-keeps : goal.returns-in_err-bind-clause-keeps
returns-in_err-bind-clause-keeps g c = c.bind.ensures.keeps

pub returns-in_err-bind-clause-makes : goal.returns-in_err-bind-clause-makes
returns-in_err-bind-clause-makes g c = if_err c.from_residual-in_err-bind.result _ c.from_residual-in_err-bind.ensures.0

pub returns-in_err-bind-clause-refused : goal.returns-in_err-bind-clause-refused
returns-in_err-bind-clause-refused g c = if_err c.from_residual-in_err-bind.result _ c.from_residual-in_err-bind.ensures.0

pub returns-in_default-clause-keeps : goal.returns-in_default-clause-keeps
returns-in_default-clause-keeps g c = c.in_ok-bind.ensures.keeps

pub returns-in_err-low_domain-clause-keeps : goal.returns-in_err-low_domain-clause-keeps
returns-in_err-low_domain-clause-keeps g c = keeps_none (g.S.StateStore.seen c.args.s.now)

pub returns-in_err-low_domain-clause-makes : goal.returns-in_err-low_domain-clause-makes
returns-in_err-low_domain-clause-makes g c = if_err c.from_residual-in_err-low_domain.result _ c.from_residual-in_err-low_domain.ensures.0

pub returns-in_err-low_domain-clause-refused : goal.returns-in_err-low_domain-clause-refused
returns-in_err-low_domain-clause-refused g c = if_err c.from_residual-in_err-low_domain.result _ c.from_residual-in_err-low_domain.ensures.0

pub returns-in_err-narrow-clause-keeps : goal.returns-in_err-narrow-clause-keeps
returns-in_err-narrow-clause-keeps g c = c.narrow.ensures.keeps

pub returns-in_err-narrow-clause-makes : goal.returns-in_err-narrow-clause-makes
returns-in_err-narrow-clause-makes g c = if_err c.from_residual-in_err-narrow.result _ c.from_residual-in_err-narrow.ensures.0

pub returns-in_err-narrow-clause-refused : goal.returns-in_err-narrow-clause-refused
returns-in_err-narrow-clause-refused g c = if_err c.from_residual-in_err-narrow.result _ c.from_residual-in_err-narrow.ensures.0

pub returns-in_default-low_domain-clause-keeps : goal.returns-in_default-low_domain-clause-keeps
returns-in_default-low_domain-clause-keeps g c = c.in_ok-narrow.ensures.keeps

pub returns-in_err-both-clause-keeps : goal.returns-in_err-both-clause-keeps
returns-in_err-both-clause-keeps g c = keeps_none (g.S.StateStore.seen c.args.s.now)

pub returns-in_err-both-clause-makes : goal.returns-in_err-both-clause-makes
returns-in_err-both-clause-makes g c = if_err c.from_residual-in_err-both.result _ c.from_residual-in_err-both.ensures.0

pub returns-in_err-both-clause-refused : goal.returns-in_err-both-clause-refused
returns-in_err-both-clause-refused g c = if_err c.from_residual-in_err-both.result _ c.from_residual-in_err-both.ensures.0

pub returns-clause-keeps : goal.returns-clause-keeps
returns-clause-keeps g c = c.confine.ensures.keeps

pub returns-clause-refused : goal.returns-clause-refused
returns-clause-refused g c = c.confine.ensures.refused
