use Rattle.pi_lex.proofs.SignsLemmas.{sign_len-fits, sign_len-longest}
use Rattle.pi_lex.proofs.laws.longest_sign.Goals as goal

pub returns-clause-fits : goal.returns-clause-fits
returns-clause-fits c = sign_len-fits

pub returns-clause-longest : goal.returns-clause-longest
returns-clause-longest c = sign_len-longest
