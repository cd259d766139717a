use Rattle.std.proofs.Common.{◌∙◌, ap}
use Rattle.pi_prog_clauses.specs.Form.{is_event_form}
use Rattle.pi_prog_clauses.specs.HeadNames.{has}
use Rattle.pi_prog_clauses.proofs.restrictions.heads.is_event.Goals as goal

pub returns : goal.returns
returns c = c.is_event_form.ensures ∙ ap (is_event_form (has c.args.names.now)) c.of-form.ensures
