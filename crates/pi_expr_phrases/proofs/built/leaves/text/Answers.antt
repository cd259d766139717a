use Rattle.pi_expr_phrases.proofs.TreeLemmas.{str-shown}
use Rattle.pi_expr_phrases.proofs.built.leaves.text.Goals as goal

pub returns : goal.returns
returns c = str-shown _ _ c.in_ok-text.ensures.ok
