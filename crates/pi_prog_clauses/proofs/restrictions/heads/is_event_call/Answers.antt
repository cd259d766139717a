use Rattle.pi_prog_clauses.specs.HeadNames.{has}
use Rattle.pi_prog_clauses.proofs.nodes.ExpFormLemmas.{event_with_others}
use Rattle.pi_prog_clauses.proofs.restrictions.heads.is_event_call.Goals as goal

pub returns : goal.returns
returns c = event_with_others (has c.args.names.now) c.args.name.now c.args.args.now c.if-args-eq1.false c.if-args-eq2.false
