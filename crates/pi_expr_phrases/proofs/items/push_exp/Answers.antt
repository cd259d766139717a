use Rattle.std.proofs.Common.{◌∷◌, [], ◌++◌, ap, ◌∙◌}
use Rattle.pi_expr_phrases.proofs.items.push_exp.Goals as goal

pub returns : goal.returns
returns c = c.in_ok-push.ensures.items ∙ ap (λ es. es ++ c.args.exp ∷ []) c.make_room.ensures
