use Rattle.pi_prog.proofs.PreludeLemmas.{prelude-reads}
use Rattle.pi_prog.proofs.prelude_laws.prelude_is_its_text.Goals as goal

pub returns : goal.returns
returns c = prelude-reads
