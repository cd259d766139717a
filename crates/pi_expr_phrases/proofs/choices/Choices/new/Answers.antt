use Rattle.pi_expr_phrases.proofs.TreeLemmas.{no_choices-shown}
use Rattle.pi_expr_phrases.proofs.choices.Choices.new.Goals as goal

pub returns : goal.returns
returns c = no_choices-shown _ c.new.ensures.items
