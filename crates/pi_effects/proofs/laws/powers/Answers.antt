use Rattle.pi_effects.proofs.PowerLemmas.{power-zero, power-add, power-one}
use Rattle.pi_effects.proofs.laws.powers.Goals as goal

pub returns-clause-zero : goal.returns-clause-zero
returns-clause-zero c = power-zero

pub returns-clause-sum : goal.returns-clause-sum
returns-clause-sum c = power-add

pub returns-clause-one : goal.returns-clause-one
returns-clause-one c = power-one
