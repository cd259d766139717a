use Rattle.pi_meaning.proofs.Machine.LeaveLemmas.{levels-leave-nothing}
use Rattle.pi_meaning.proofs.Machine.MachineSteps.{step-comes}
use Rattle.pi_meaning.proofs.Machine.GoodSteps.{step-good}
use Rattle.pi_meaning.proofs.Machine.WeightSteps.{step-lighter}
use Rattle.pi_meaning.proofs.laws.machine.steps_are_right.Goals as goal

pub returns-clause-right : goal.returns-clause-right
returns-clause-right c = step-comes

pub returns-clause-good : goal.returns-clause-good
returns-clause-good c = step-good

pub returns-clause-lighter : goal.returns-clause-lighter
returns-clause-lighter c = step-lighter

pub returns-clause-nothing : goal.returns-clause-nothing
returns-clause-nothing c = levels-leave-nothing
