use Rattle.std.proofs.Common.{◌≡◌, rules, ◌∙◌, refl, true≢false}
use Rattle.pi_constraints.specs.Domain.{size_of}
use Rattle.pi_unify.proofs.BindLemmas.{confined_none, confined_fixed_at, confined_narrowed, not_empty, two_or_more, if_err}
use Rattle.pi_unify.proofs.KeepsLemmas.{keeps_none}
use Rattle.pi_unify.proofs.variables.confine.Goals as goal

pub returns-in_default-clause-makes : goal.returns-in_default-clause-makes
returns-in_default-clause-makes g c =
    let s = (g.S.StateStore.seen c.args.s.now).now.state in
    λ p domain. confined_none s s c.args.low.number c.args.high.number c.args.both.now (search rules)

pub returns-in_ok-fix-clause-makes : goal.returns-in_ok-fix-clause-makes
returns-in_ok-fix-clause-makes g c =
    let s = (g.S.StateStore.seen c.args.s.now).now.state in
    let now = (g.S.StateStore.seen c.fix.new.s).now.state in
    let one : size_of c.args.both.now ≡ 1 = search rules in
    λ p domain. confined_fixed_at s now c.args.low.number c.args.high.number c.args.both.now _ _ domain one c.in-Some.ensures.some.is_value (c.in_ok-fix.ensures.ok p) (search rules)

pub returns-in_ok-narrow-clause-makes : goal.returns-in_ok-narrow-clause-makes
returns-in_ok-narrow-clause-makes g c =
    let s = (g.S.StateStore.seen c.args.s.now).now.state in
    let now = (g.S.StateStore.seen c.narrow.new.s).now.state in
    let some = not_empty c.args.both.now c.min.result c.in-Some.least c.in-Some.is c.min.ensures.none.1 in
    let many : size_of c.args.both.now ≡ 1 → ⊥ = λ one. c.if-size-eq1.false (c.size.ensures ∙ one) in
    λ p domain. confined_narrowed s now c.args.low.number c.args.high.number c.args.both.now some many (c.in_ok-narrow.ensures.ok p (two_or_more c.args.both.now some many))

pub returns-in_default-clause-keeps : goal.returns-in_default-clause-keeps
returns-in_default-clause-keeps g c = keeps_none (g.S.StateStore.seen c.args.s.now)

pub returns-in_default-clause-refused : goal.returns-in_default-clause-refused
returns-in_default-clause-refused g c = λ e. refl

pub returns-in_err-fix-clause-keeps : goal.returns-in_err-fix-clause-keeps
returns-in_err-fix-clause-keeps g c = c.fix.ensures.keeps

pub returns-in_err-fix-clause-makes : goal.returns-in_err-fix-clause-makes
returns-in_err-fix-clause-makes g c = if_err c.from_residual.result _ c.from_residual.ensures.0

pub returns-in_err-fix-clause-refused : goal.returns-in_err-fix-clause-refused
returns-in_err-fix-clause-refused g c = if_err c.from_residual.result _ c.from_residual.ensures.0

pub returns-in_ok-fix-clause-keeps : goal.returns-in_ok-fix-clause-keeps
returns-in_ok-fix-clause-keeps g c = c.in_ok-fix.ensures.keeps

pub returns-in_ok-fix-clause-refused : goal.returns-in_ok-fix-clause-refused
returns-in_ok-fix-clause-refused g c = λ e. absurd (true≢false e)

pub returns-in_err-narrow-clause-keeps : goal.returns-in_err-narrow-clause-keeps
returns-in_err-narrow-clause-keeps g c = c.narrow.ensures.keeps

pub returns-in_err-narrow-clause-makes : goal.returns-in_err-narrow-clause-makes
returns-in_err-narrow-clause-makes g c = if_err c.from_residual-in_err-narrow.result _ c.from_residual-in_err-narrow.ensures.0

pub returns-in_err-narrow-clause-refused : goal.returns-in_err-narrow-clause-refused
returns-in_err-narrow-clause-refused g c = if_err c.from_residual-in_err-narrow.result _ c.from_residual-in_err-narrow.ensures.0

pub returns-in_ok-narrow-clause-keeps : goal.returns-in_ok-narrow-clause-keeps
returns-in_ok-narrow-clause-keeps g c = c.in_ok-narrow.ensures.keeps

pub returns-in_ok-narrow-clause-refused : goal.returns-in_ok-narrow-clause-refused
returns-in_ok-narrow-clause-refused g c = λ e. absurd (true≢false e)
