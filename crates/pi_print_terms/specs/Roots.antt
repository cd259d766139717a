-- What the printer asks of the root of a term.
use Rattle.std.specs.Prelude.{◌≡◌, ◌≤◌, ℕ, ◌==◌, Bool, true, false, ◌&&◌, List, ◌++◌}
use Rattle.std.specs.Str.{bytes_eq}
use Rattle.std.specs.String.{string_bytes}
use Rattle.pi_terms.specs.Tree.{Trees, tree_count, drop_trees}
use Rattle.pi_terms.specs.TermCells.{take_trees}
use Rattle.pi_syntax.specs.PrintAtom.{nil}
use Rattle.pi_syntax.specs.PrintTerm.{cell_name, cell_is_characters, cell_characters}
use Rattle.pi_terms.specs.declared.term.TermHead.{TermHead}
use Rattle.pi_print_terms.specs.declared.characters.Characters.{Characters}

-- the root of a list cell
abbrev pub root_is_cell : TermHead → Bool
root_is_cell (TermHead.Var n) = false
root_is_cell (TermHead.Int n) = false
root_is_cell (TermHead.Atom name) = false
root_is_cell (TermHead.Comp name count) = bytes_eq name.now cell_name && (count == 2)

-- the empty list
abbrev pub root_is_nil : TermHead → Bool
root_is_nil (TermHead.Var n) = false
root_is_nil (TermHead.Int n) = false
root_is_nil (TermHead.Atom name) = bytes_eq name.now nil
root_is_nil (TermHead.Comp name count) = false

-- the characters of the list whose first cell was read, and what is ahead behind it
pub record AreCharacters (ahead : Trees) (found : Characters) : Type 0 where
  pub proper : cell_is_characters (take_trees 2 ahead) ≡ true
  pub text : string_bytes found.text ≡ cell_characters (take_trees 2 ahead)
  pub behind : found.behind ≡ drop_trees 2 ahead

-- after some characters the rest of a list is ahead, behind its first cell's root
pub record SameList (ahead : Trees) (text : List ℕ) (rest : Trees) : Type 0 where
  pub enough : 2 ≤ tree_count rest
  pub proper : cell_is_characters (take_trees 2 rest) ≡ cell_is_characters (take_trees 2 ahead)
  pub characters : text ++ cell_characters (take_trees 2 rest) ≡ cell_characters (take_trees 2 ahead)
  pub behind : drop_trees 2 rest ≡ drop_trees 2 ahead
