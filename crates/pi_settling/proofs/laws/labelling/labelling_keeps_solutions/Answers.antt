use Rattle.pi_settling.proofs.LabelKeeps.{labelling_keeps_solutions}
use Rattle.pi_settling.proofs.ApartLemmas.{answers_part_the_solutions}
use Rattle.pi_settling.proofs.EndLemmas.{labelling_ends}
use Rattle.pi_settling.proofs.laws.labelling.labelling_keeps_solutions.Goals as goal

pub returns-clause-ends : goal.returns-clause-ends
returns-clause-ends c = labelling_ends

pub returns-clause-kept : goal.returns-clause-kept
returns-clause-kept c = labelling_keeps_solutions

pub returns-clause-once : goal.returns-clause-once
returns-clause-once c = answers_part_the_solutions
