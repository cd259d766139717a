use Rattle.std.proofs.Common.{rules}
use Rattle.std.proofs.lemmas.Str.{chars_from_encodes}
use Rattle.pi_print_terms.proofs.characters.is_one_character.Goals as goal

pub returns : goal.returns
returns c = search (rules, chars_from_encodes)
