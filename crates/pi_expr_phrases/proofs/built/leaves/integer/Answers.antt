use Rattle.std.proofs.Common.{rules}
use Rattle.pi_expr_phrases.proofs.TreeLemmas.{int-shown}
use Rattle.pi_expr_phrases.proofs.built.leaves.integer.Goals as goal

pub returns : goal.returns
returns c = int-shown _ _ (search rules)
