use Rattle.std.proofs.Common.{refl}
use Rattle.pi_prog.proofs.reading.ReadingLemmas.{part_written}
use Rattle.pi_prog.proofs.reading.with_modes.Goals as goal

pub returns : goal.returns
returns c = λ part ts o of marked. part_written part ts o _ _ _ refl of marked
