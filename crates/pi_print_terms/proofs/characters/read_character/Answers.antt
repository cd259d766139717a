use Rattle.std.proofs.Common.{sym, ◌∙◌}
use Rattle.pi_print_terms.proofs.CharacterLemmas.{one_tree, no_atom, none_left, shown_atom}
use Rattle.pi_print_terms.proofs.characters.read_character.Goals as goal

pub returns-in_default : goal.returns-in_default
returns-in_default c = absurd (none_left _ c.requires c.in_default.ensures.root)

pub returns-in_default-head : goal.returns-in_default-head
returns-in_default-head c = record {
  item = tt;
  character = tt;
  fewer = tt;
  other = one_tree _ _ _ c.requires c.in-Some.ensures.root (no_atom c.in-Some.head _ c.in_default-head.not-Atom);
}

pub returns-else-is_one_character-clause-other : goal.returns-else-is_one_character-clause-other
returns-else-is_one_character-clause-other c =
    one_tree _ _ _ c.requires c.in-Some.ensures.root (shown_atom _ _ _ c.in-Atom.is (sym c.is_one_character.ensures ∙ c.if-is_one_character.false))
