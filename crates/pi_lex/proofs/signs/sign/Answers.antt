use Rattle.std.proofs.Common.{arith}
use Rattle.pi_lex.proofs.ItemLemmas.{sign-none, sign-some}
use Rattle.pi_lex.proofs.signs.sign.Goals as goal

pub returns-in-0-clause-value : goal.returns-in-0-clause-value
returns-in-0-clause-value c = sign-none _ _ c.sign_len.ensures.value c.in-0.is

pub returns-in_default-clause-value : goal.returns-in_default-clause-value
returns-in_default-clause-value c = sign-some _ _ c.sign_len.ensures.value (omega arith)
