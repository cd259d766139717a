use Rattle.pi_expr_phrases.proofs.items.Items.one.Goals as goal

pub returns : goal.returns
returns c = λ e h. c.in_ok-made.ensures e h
