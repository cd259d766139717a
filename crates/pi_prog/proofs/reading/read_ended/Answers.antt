use Rattle.std.proofs.Common.{refl, sym, ◌∙◌}
use Rattle.pi_prog.proofs.reading.PartLemmas.{so_far_on, so_far_push}
use Rattle.pi_prog.proofs.reading.read_ended.Goals as goal

pub returns-then-not-is_end : goal.returns-then-not-is_end
returns-then-not-is_end c = λ far. so_far_on _ _ _ _ _ _ refl c.kind-token.ensures.token (sym c.is_end.ensures ∙ c.if-not-is_end.true) far

pub returns : goal.returns
returns c = λ far. so_far_push _ _ _ _ _ _ _ _ refl c.kind-token.ensures.token (sym c.is_end.ensures ∙ c.if-not-is_end.false) c.in_ok-push.ensures.items c.in_ok-part.ensures far
