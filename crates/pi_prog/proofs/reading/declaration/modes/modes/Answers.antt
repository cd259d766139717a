use Rattle.std.proofs.Common.{refl, sym, ◌∙◌, arith}
use Rattle.pi_prog.proofs.reading.declaration.ModesLemmas.{walked_not, walked_last, walked_stop, walked_more, walked_end}
use Rattle.pi_prog.proofs.reading.declaration.modes.modes.Goals as goal

pub returns-in_default : goal.returns-in_default
returns-in_default c = walked_not _ _ _ _ _ _ c.modes-test.true c.kind.ensures.token (sym c.in_default.ensures) c.modes.invariant.walked

pub returns-then-is_sign : goal.returns-then-is_sign
returns-then-is_sign c =
    walked_last _ _ _ _ _ _ _ _ _ _ c.modes.invariant.ordered refl c.modes-test.true c.kind.ensures.token c.kind-behind.ensures.token (sym c.in-Some.ensures) (sym c.is_sign.ensures ∙ c.if-is_sign.true) c.in_ok-push.ensures.ok c.modes.invariant.walked

pub returns-then-not-is_sign : goal.returns-then-not-is_sign
returns-then-not-is_sign c =
    walked_stop _ _ _ _ _ _ _ _ c.modes-test.true c.kind.ensures.token c.kind-behind.ensures.token (sym c.in-Some.ensures) (sym c.is_sign.ensures ∙ c.if-is_sign.false) (sym c.is_sign-in-modes.ensures ∙ c.if-not-is_sign.true) c.modes.invariant.walked

pub modes-preserved : goal.modes-preserved
modes-preserved c = record {
  walked = walked_more _ _ _ _ _ _ _ _ _ _ refl c.modes-test.true c.kind.ensures.token c.kind-behind.ensures.token (sym c.in-Some.ensures) (sym c.is_sign-in-modes.ensures ∙ c.if-not-is_sign.false) c.in_ok-push.ensures.ok c.modes.invariant.walked;
  ordered = omega arith;
  within = omega arith;
}

pub returns : goal.returns
returns c = walked_end _ _ _ _ _ c.modes-test.false c.modes.invariant.walked
