use Rattle.std.proofs.Common.{refl, sym, ◌∙◌}
use Rattle.pi_prog.proofs.reading.declaration.ModesLemmas.{list_not, list_found}
use Rattle.pi_prog.proofs.reading.declaration.modes.mode_list.Goals as goal

pub returns-then-not-is_sign : goal.returns-then-not-is_sign
returns-then-not-is_sign c = list_not _ _ _ _ c.if-from-to.false c.kind-first.ensures.token (sym c.is_sign.ensures ∙ c.if-not-is_sign.true)

pub returns : goal.returns
returns c = list_found _ _ _ _ _ _ refl c.if-from-to.false c.kind-first.ensures.token (sym c.is_sign.ensures ∙ c.if-not-is_sign.false) c.in_ok-found.ensures
