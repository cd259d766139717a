use Rattle.pi_effects.proofs.QuotientLaws.{modulo_rest, remainder_rest}
use Rattle.pi_effects.proofs.laws.rests.Goals as goal

pub returns-clause-modulo : goal.returns-clause-modulo
returns-clause-modulo c = modulo_rest

pub returns-clause-remainder : goal.returns-clause-remainder
returns-clause-remainder c = remainder_rest
