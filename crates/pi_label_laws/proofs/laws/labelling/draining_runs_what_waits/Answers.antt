use Rattle.pi_settling.proofs.DrainLemmas.{draining_nothing}
use Rattle.pi_label_laws.proofs.laws.labelling.draining_runs_what_waits.Goals as goal

pub returns : goal.returns
returns g c = λ lower d s none. draining_nothing (lower d) s none
