use Rattle.pi_settling.proofs.RunLemmas.{failures_empty}
use Rattle.pi_settling.proofs.WakeLemmas.{runs_reach_stable_domains}
use Rattle.pi_settling.proofs.laws.runs.runs_reach_stable_domains.Goals as goal

pub returns-clause-stable : goal.returns-clause-stable
returns-clause-stable c = runs_reach_stable_domains

pub returns-clause-emptied : goal.returns-clause-emptied
returns-clause-emptied c = failures_empty
