use Rattle.pi_lex.proofs.TotalLemmas.{every_text_lexes_lem}
use Rattle.pi_lex.proofs.laws.every_text_lexes.Goals as goal

pub returns : goal.returns
returns c = every_text_lexes_lem
