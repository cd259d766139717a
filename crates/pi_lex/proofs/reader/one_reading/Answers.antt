use Rattle.pi_lex.proofs.ReaderLemmas.{one_reading_lem}
use Rattle.pi_lex.proofs.reader.one_reading.Goals as goal

pub returns : goal.returns
returns c = one_reading_lem
