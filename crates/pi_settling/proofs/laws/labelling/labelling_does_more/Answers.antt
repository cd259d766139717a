use Rattle.pi_settling.proofs.DepthLemmas.{labelling_nothing, labelling_does_more, solving_does_more}
use Rattle.pi_settling.proofs.laws.labelling.labelling_does_more.Goals as goal

pub returns-clause-nothing : goal.returns-clause-nothing
returns-clause-nothing c = labelling_nothing

pub returns-clause-labels : goal.returns-clause-labels
returns-clause-labels c = labelling_does_more

pub returns-clause-rounds : goal.returns-clause-rounds
returns-clause-rounds c = solving_does_more
