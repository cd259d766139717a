use Rattle.pi_expr_phrases.proofs.TreeLemmas.{var-shown}
use Rattle.pi_expr_phrases.proofs.built.leaves.variable.Goals as goal

pub returns : goal.returns
returns c = var-shown _ _ c.in_ok-name.ensures.ok
