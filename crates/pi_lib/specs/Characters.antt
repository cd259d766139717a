-- What the walk over a text finds, for the private functions of this crate.
use Rattle.std.specs.Prelude.{◌≡◌, ℕ, suc, ◌*◌, ◌==◌, true, false, List, length, Option, Some, None}
use Rattle.std.specs.Str.{chars}
use Rattle.pi_terms.specs.Tree.{Tree, atom, cells}
use Rattle.pi_terms.specs.ListNames.{nil}
use Rattle.pi_terms.specs.ListCopies.{list_cell}
use Rattle.pi_constraints.specs.Store.{StoreView, IsName}
use Rattle.pi_constraints.specs.declared.store.Ref.{Ref}
use Rattle.pi_syntax.specs.PrintTerm.{is_characters, characters}
use Rattle.pi_unify.specs.Terms.{IsGiven, value_of}
use Rattle.pi_lib.specs.declared.characters.Characters.{Characters}
use Rattle.pi_lib.specs.declared.characters.Link.{Link}

-- the characters of a text, and how many they are: it has two cells for each, and one at the end
pub record AreCharacters (t : Tree) (found : Characters) : Type 0 where
  pub proper : is_characters t ≡ true
  pub text : found.text ≡ characters t
  pub many : cells t ≡ suc (2 * found.count)

-- and None of any other term
abbrev pub ShowsCharacters : Tree → Option Characters → Type 0
ShowsCharacters t None = is_characters t ≡ false
ShowsCharacters t (Some found) = AreCharacters t found

-- a character in front of the rest of a text
pub record IsCharacter {M : Type 0} (v : StoreView M) (t : Tree) (k : ℕ) (rest : Ref) : Type 0 where
  pub name : List ℕ
  pub named : IsName v k name
  pub one : (length (chars name) == 1) ≡ true
  pub given : IsGiven v rest
  pub cell : t ≡ list_cell (atom name) (value_of v rest)

-- what a term is as the rest of a text
abbrev pub ShowsLink : {M : Type 0} → StoreView M → Tree → Link → Type 0
ShowsLink v t (Link.Character k rest) = IsCharacter v t k rest
ShowsLink v t Link.End = t ≡ atom nil
ShowsLink v t Link.Other = is_characters t ≡ false
