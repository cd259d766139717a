use Rattle.pi_constraints.proofs.MeetLemmas.{is_common}
use Rattle.pi_constraints.proofs.meets.meet.Goals as goal

pub returns-clause-common : goal.returns-clause-common
returns-clause-common c = is_common c.args.d.now c.args.e.now c.kept_values.result c.kept_values.ensures.domain c.kept_values.ensures.kept c.kept_values.ensures.made c.kept_values.ensures.values
