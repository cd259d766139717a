use Rattle.pi_expr_phrases.proofs.TreeLemmas.{deep_is_no_atom}
use Rattle.pi_expr_phrases.proofs.built.Built.is_atom.Goals as goal

pub returns-in-Deep : goal.returns-in-Deep
returns-in-Deep c = λ e h. deep_is_no_atom e (rw c.in-Deep.is at h)
