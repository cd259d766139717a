use Rattle.pi_label.proofs.WordLemmas.{calls-go_by_options}
use Rattle.pi_label.proofs.laws.calls_go_by_options.Goals as goal

pub returns : goal.returns
returns c = calls-go_by_options
