use Rattle.pi_expr_phrases.proofs.TreeLemmas.{no_items-shown}
use Rattle.pi_expr_phrases.proofs.items.Items.new.Goals as goal

pub returns : goal.returns
returns c = no_items-shown _ c.new.ensures.items
