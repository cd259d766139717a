use Rattle.pi_meaning.proofs.CoreMeaning.QuietRules.{depth-reaches, query-runs}
use Rattle.pi_meaning.proofs.laws.meaning.queries_run.Goals as goal

pub returns-clause-reaches : goal.returns-clause-reaches
returns-clause-reaches c = depth-reaches

pub returns-clause-runs : goal.returns-clause-runs
returns-clause-runs c = query-runs

pub returns-clause-sound : goal.returns-clause-sound
returns-clause-sound c = λ v program q sound n. query-runs v program q sound.preds.ticks n
