use Rattle.std.proofs.Common.{◌<◌, length, rules}
use Rattle.std.specs.String.{string_bytes}
use Rattle.pi_print_program.proofs.ClauseLemmas.{events-some}
use Rattle.pi_print_program.proofs.PartedLemmas.{three}
use Rattle.pi_print_program.proofs.clauses.write_events.Goals as goal

pub returns : goal.returns
returns c =
    let some : 0 < length c.args.events.now = search rules in
    events-some c.args.events.now (string_bytes c.args.out.now) (string_bytes c.push_str-2.new.self) some
    (three _ _ _ _ _ _ _ c.in_ok-push_str.ensures.bytes c.in_ok-write_exps.ensures c.in_ok-push_str-2.ensures.bytes)
