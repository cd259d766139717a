use Rattle.std.proofs.Common.{rules, ap, ap₂, sym, ◌∙◌}
use Rattle.std.proofs.lemmas.Result.{IfOk-from_err}
use Rattle.pi_constraints.specs.declared.constraint.Constraint.TheVariants.{Linear, Different, Element, Reified, Distinct}
use Rattle.pi_constraints.proofs.constraint.Constraint.copy.Goals as goal

pub returns-in_err-copy-in-Linear : goal.returns-in_err-copy-in-Linear
returns-in_err-copy-in-Linear c = record { ok = IfOk-from_err c.from_residual.result _ c.from_residual.ensures.0 }

pub returns-in_err-copy-in-Different : goal.returns-in_err-copy-in-Different
returns-in_err-copy-in-Different c = record { ok = IfOk-from_err c.from_residual-in_err-copy-in-Different.result _ c.from_residual-in_err-copy-in-Different.ensures.0 }

pub returns-in_err-copy-in-Element : goal.returns-in_err-copy-in-Element
returns-in_err-copy-in-Element c = record { ok = IfOk-from_err c.from_residual-in_err-copy-in-Element.result _ c.from_residual-in_err-copy-in-Element.ensures.0 }

pub returns-in_err-copy-in-Reified : goal.returns-in_err-copy-in-Reified
returns-in_err-copy-in-Reified c = record { ok = IfOk-from_err c.from_residual-in_err-copy-in-Reified.result _ c.from_residual-in_err-copy-in-Reified.ensures.0 }

pub returns-in_err-copy-in-Distinct : goal.returns-in_err-copy-in-Distinct
returns-in_err-copy-in-Distinct c = record { ok = IfOk-from_err c.from_residual-in_err-copy-in-Distinct.result _ c.from_residual-in_err-copy-in-Distinct.ensures.0 }

pub returns-in-Product : goal.returns-in-Product
returns-in-Product c = record { ok = sym c.in-Product.is }

pub returns-in-Absolute : goal.returns-in-Absolute
returns-in-Absolute c = record { ok = sym c.in-Absolute.is }

pub returns-in_ok-copy-in-Linear : goal.returns-in_ok-copy-in-Linear
returns-in_ok-copy-in-Linear c = record { ok = ap₂ (λ made constant. Linear c.in-Linear.rel made constant) c.in_ok-copy-in-Linear.ensures.ok (search rules) ∙ sym c.in-Linear.is }

pub returns-in_ok-copy-in-Different : goal.returns-in_ok-copy-in-Different
returns-in_ok-copy-in-Different c = record { ok = ap Different c.in_ok-copy-in-Different.ensures.ok ∙ sym c.in-Different.is }

pub returns-in_ok-copy-in-Element : goal.returns-in_ok-copy-in-Element
returns-in_ok-copy-in-Element c = record { ok = ap (λ made. Element c.in-Element.index made c.in-Element.value) c.in_ok-copy-in-Element.ensures.ok ∙ sym c.in-Element.is }

pub returns-in_ok-copy-in-Reified : goal.returns-in_ok-copy-in-Reified
returns-in_ok-copy-in-Reified c = record { ok = ap₂ (λ made constant. Reified c.in-Reified.truth c.in-Reified.rel made constant) c.in_ok-copy-in-Reified.ensures.ok (search rules) ∙ sym c.in-Reified.is }

pub returns-in_ok-copy-in-Distinct : goal.returns-in_ok-copy-in-Distinct
returns-in_ok-copy-in-Distinct c = record { ok = ap Distinct c.in_ok-copy-in-Distinct.ensures.ok ∙ sym c.in-Distinct.is }
