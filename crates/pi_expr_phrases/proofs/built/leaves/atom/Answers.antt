use Rattle.pi_expr_phrases.proofs.TreeLemmas.{atom-shown}
use Rattle.pi_expr_phrases.proofs.built.leaves.atom.Goals as goal

pub returns : goal.returns
returns c = atom-shown _ _ c.in_ok-name.ensures.ok
