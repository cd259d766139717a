use Rattle.std.proofs.Common.{◌≡◌, length, rules}
use Rattle.pi_print_program.proofs.ExpTexts.{structure-is}
use Rattle.pi_print_program.proofs.expressions.is_structure_of.Goals as goal

pub returns : goal.returns
returns c =
    let count : c.len-count.result ≡ length c.in-Call.args.items = search rules in
    structure-is c.args.exp.now c.in-Call.name c.as_str-name.result.now c.in-Call.args c.len-count.result c.is_two_place.result c.is_prefix_word.result c.is_prefix_sign.result
    c.in-Call.is c.as_str-name.ensures count c.is_two_place.ensures c.is_prefix_word.ensures c.is_prefix_sign.ensures
