use Rattle.std.proofs.Common.{◌≡◌, rules, sym, ◌∙◌, true, false, refl, true≢false}
use Rattle.pi_constraints.proofs.UnifyOutcome.{does_occur_not}
use Rattle.pi_unify.proofs.RefLemmas.{bind_is}
use Rattle.pi_unify.proofs.BindLemmas.{assigned_occurs, assigned_refused, assigned_bound, if_err}
use Rattle.pi_unify.proofs.KeepsLemmas.{keeps_none}
use Rattle.pi_unify.proofs.variables.assign.Goals as goal

pub returns-then-found-clause-makes : goal.returns-then-found-clause-makes
returns-then-found-clause-makes g c = λ p.
    let v = g.S.StateStore.seen c.args.s.now in
    assigned_occurs v v.now.state c.args.x.number c.args.r p.state (sym c.if-found.true ∙ c.in_ok-found.ensures p.state p.term)

pub returns-then-not-can-clause-makes : goal.returns-then-not-can-clause-makes
returns-then-not-can-clause-makes g c = λ p.
    let v = g.S.StateStore.seen c.args.s.now in
    let can_not : c.in_ok-can.can ≡ false = search rules in
    assigned_refused v v.now.state c.args.x.number c.args.r p.state (sym c.if-found.false ∙ c.in_ok-found.ensures p.state p.term) (sym can_not ∙ c.in_ok-can.ensures p)

pub returns-clause-makes : goal.returns-clause-makes
returns-clause-makes g c = λ p.
    let v = g.S.StateStore.seen c.args.s.now in
    let w = g.S.StateStore.seen c.bind.new.self in
    let it_can : c.in_ok-can.can ≡ true = search rules in
    assigned_bound v w.now.state c.args.x.number c.args.r p.state (sym c.if-found.false ∙ c.in_ok-found.ensures p.state p.term) (sym it_can ∙ c.in_ok-can.ensures p)
    (bind_is v w c.args.x c.args.r p.state p.variable p.term (does_occur_not c.args.x.number _ (sym (sym c.if-found.false ∙ c.in_ok-found.ensures p.state p.term))) c.in_ok-bind.ensures.ok)

pub returns-in_err-found-clause-keeps : goal.returns-in_err-found-clause-keeps
returns-in_err-found-clause-keeps g c = keeps_none (g.S.StateStore.seen c.args.s.now)

pub returns-in_err-found-clause-makes : goal.returns-in_err-found-clause-makes
returns-in_err-found-clause-makes g c = if_err c.from_residual.result _ c.from_residual.ensures.0

pub returns-in_err-found-clause-refused : goal.returns-in_err-found-clause-refused
returns-in_err-found-clause-refused g c = if_err c.from_residual.result _ c.from_residual.ensures.0

pub returns-then-found-clause-keeps : goal.returns-then-found-clause-keeps
returns-then-found-clause-keeps g c = keeps_none (g.S.StateStore.seen c.args.s.now)

pub returns-then-found-clause-refused : goal.returns-then-found-clause-refused
returns-then-found-clause-refused g c = λ e. refl

pub returns-in_err-can-clause-keeps : goal.returns-in_err-can-clause-keeps
returns-in_err-can-clause-keeps g c = keeps_none (g.S.StateStore.seen c.args.s.now)

pub returns-in_err-can-clause-makes : goal.returns-in_err-can-clause-makes
returns-in_err-can-clause-makes g c = if_err c.from_residual-in_err-can.result _ c.from_residual-in_err-can.ensures.0

pub returns-in_err-can-clause-refused : goal.returns-in_err-can-clause-refused
returns-in_err-can-clause-refused g c = if_err c.from_residual-in_err-can.result _ c.from_residual-in_err-can.ensures.0

pub returns-then-not-can-clause-keeps : goal.returns-then-not-can-clause-keeps
returns-then-not-can-clause-keeps g c = keeps_none (g.S.StateStore.seen c.args.s.now)

pub returns-then-not-can-clause-refused : goal.returns-then-not-can-clause-refused
returns-then-not-can-clause-refused g c = λ e. refl

pub returns-in_err-bind-clause-keeps : goal.returns-in_err-bind-clause-keeps
returns-in_err-bind-clause-keeps g c = c.bind.ensures.keeps

pub returns-in_err-bind-clause-makes : goal.returns-in_err-bind-clause-makes
returns-in_err-bind-clause-makes g c = if_err c.from_residual-in_err-bind.result _ c.from_residual-in_err-bind.ensures.0

pub returns-in_err-bind-clause-refused : goal.returns-in_err-bind-clause-refused
returns-in_err-bind-clause-refused g c = if_err c.from_residual-in_err-bind.result _ c.from_residual-in_err-bind.ensures.0

pub returns-clause-keeps : goal.returns-clause-keeps
returns-clause-keeps g c = c.in_ok-bind.ensures.keeps

pub returns-clause-refused : goal.returns-clause-refused
returns-clause-refused g c = λ e. absurd (true≢false e)
