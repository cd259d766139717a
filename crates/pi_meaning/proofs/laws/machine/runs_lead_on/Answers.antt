use Rattle.pi_meaning.proofs.Machine.LeadLemmas.{remaining-deeper, starts, leads-on}
use Rattle.pi_meaning.proofs.Machine.RunLaws.{depth-suffices}
use Rattle.pi_meaning.proofs.laws.machine.runs_lead_on.Goals as goal

pub returns-clause-more : goal.returns-clause-more
returns-clause-more c = remaining-deeper

pub returns-clause-starts : goal.returns-clause-starts
returns-clause-starts c = starts

pub returns-clause-on : goal.returns-clause-on
returns-clause-on c = leads-on

pub returns-clause-depth : goal.returns-clause-depth
returns-clause-depth c = depth-suffices
