use Rattle.pi_meaning.proofs.OverNames.ClausalLemmas.{clauses-count_alone}
use Rattle.pi_meaning.proofs.laws.names.clauses_count_alone.Goals as goal

pub returns : goal.returns
returns c = clauses-count_alone
