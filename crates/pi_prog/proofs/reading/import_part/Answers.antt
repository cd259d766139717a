use Rattle.pi_prog.proofs.reading.ReadingLemmas.{part_import, part_open, import_sound}
use Rattle.pi_prog.proofs.reading.import_part.Goals as goal

pub returns-then-ended : goal.returns-then-ended
returns-then-ended c = λ ts few opens. part_import ts _ _ c.if-ended.true few opens

pub returns-else-ended : goal.returns-else-ended
returns-else-ended c = λ ts few opens. part_open ts _ _ c.if-ended.false few opens (import_sound _)
