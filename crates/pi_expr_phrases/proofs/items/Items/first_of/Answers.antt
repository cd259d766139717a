use Rattle.pi_syntax.specs.ExpTree.{no_exps}
use Rattle.pi_expr_phrases.proofs.TreeLemmas.{no_items-shown}
use Rattle.pi_expr_phrases.proofs.items.Items.first_of.Goals as goal

pub returns-in_ok-made-in-Ok : goal.returns-in_ok-made-in-Ok
returns-in_ok-made-in-Ok c = λ e h. c.in_ok-made-in-Ok.ensures no_exps e (no_items-shown _ c.in-Ok.ensures.items) h
