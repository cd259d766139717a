use Rattle.std.proofs.Common.{◌≡◌, length, rules}
use Rattle.pi_prog_clauses.proofs.nodes.ExpFormLemmas.{form-call}
use Rattle.pi_prog_clauses.proofs.nodes.form.Form.of.Goals as goal

pub returns-in-Call : goal.returns-in-Call
returns-in-Call c =
    let count : c.len.result ≡ length c.in-Call.args.items = search rules in
    form-call _ _ _ _ _ _ c.in-Call.is c.as_str-in-Call.ensures count c.as_slice.ensures.value
