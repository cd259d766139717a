use Rattle.pi_outside.proofs.Kept.{kept-tells}
use Rattle.pi_outside.proofs.laws.first_bytes_tell.Goals as goal

pub returns : goal.returns
returns c = kept-tells
