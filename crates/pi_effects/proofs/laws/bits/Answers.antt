use Rattle.pi_effects.proofs.BitLaws.{same_from_bit_of}
use Rattle.pi_effects.proofs.BitLemmas.{bit_of-and, bit_of-or, bit_of-xor}
use Rattle.pi_effects.proofs.laws.bits.Goals as goal

pub returns-clause-known : goal.returns-clause-known
returns-clause-known c = same_from_bit_of

pub returns-clause-and : goal.returns-clause-and
returns-clause-and c = bit_of-and

pub returns-clause-or : goal.returns-clause-or
returns-clause-or c = bit_of-or

pub returns-clause-xor : goal.returns-clause-xor
returns-clause-xor c = bit_of-xor
