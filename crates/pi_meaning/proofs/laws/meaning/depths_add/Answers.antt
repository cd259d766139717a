use Rattle.pi_meaning.proofs.CoreMeaning.MeaningLemmas.{meaning-below}
use Rattle.pi_meaning.proofs.Shared.LevelLemmas.{level-itself, level-further, quiet-keeps-depth}
use Rattle.pi_meaning.proofs.CoreMeaning.RuleLemmas.{level-below, quiet-deeper}
use Rattle.pi_meaning.proofs.CoreMeaning.QueryLemmas.{query-deeper}
use Rattle.pi_meaning.proofs.laws.meaning.depths_add.Goals as goal

pub returns-clause-goals : goal.returns-clause-goals
returns-clause-goals c = meaning-below

pub returns-clause-order : goal.returns-clause-order
returns-clause-order c = (level-itself, level-further)

pub returns-clause-levels : goal.returns-clause-levels
returns-clause-levels c = level-below

pub returns-clause-quiet : goal.returns-clause-quiet
returns-clause-quiet c = quiet-deeper

pub returns-clause-quiet_depth : goal.returns-clause-quiet_depth
returns-clause-quiet_depth c = quiet-keeps-depth

pub returns-clause-queries : goal.returns-clause-queries
returns-clause-queries c = query-deeper
