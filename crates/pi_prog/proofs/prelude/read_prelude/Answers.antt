use Rattle.pi_prog.proofs.PreludeLemmas.{prelude-is}
use Rattle.pi_prog.proofs.prelude.read_prelude.Goals as goal

pub returns : goal.returns
returns c = prelude-is _ _ _ c.in_ok-tokens.ensures c.in_ok-parts.ensures c.in_ok-program.ensures
