-- That the canonical text of a program that was read is read as that program. What it asks for: that the text isn't too long, that no part of
-- it is crowded, and that no atom of the text that was read spells a sign, `[]` or a reserved word, as only a quoted one does. (The conditions are
-- own.)
use Rattle.std.specs.Prelude.{◌≤◌, ℕ, Bool, false, ◌≡◌, ◌||◌, List, length}
use Rattle.std.specs.List.{All, list_any}
use Rattle.std.specs.Str.{bytes_eq}
use Rattle.pi_terms.specs.ListNames.{nil}
use Rattle.pi_syntax.specs.Crowding.{IsCrowded}
use Rattle.pi_syntax.specs.ExpTree.{ExpTree}
use Rattle.pi_syntax.specs.Grammar.{HasExp}
use Rattle.pi_syntax.specs.ProgramTree.{ProgramTree}
use Rattle.pi_syntax.specs.Tokens.{Token, Atom, Located, HasTokens, most_bytes, is_one_of, reserved_words}
use Rattle.pi_lex.specs.Forms.{is_sign}
use Rattle.pi_lex.specs.Kinds.{kinds}
use Rattle.pi_prog_clauses.specs.Stretch.{Stretch, stretches}
use Rattle.pi_prog_clauses.specs.Verdict.{HasVerdict, a_program}
use Rattle.pi_print_program.specs.CanonicalExp.{exp_text}
use Rattle.pi_print_program.specs.Canonical.{canonical_text}
use Rattle.pi_print_program.specs.Patterns.{Fine}

-- a sign, `[]` or a reserved word
unfoldable pub is_spelling : List ℕ → Bool
is_spelling name = is_sign name || (bytes_eq name nil || is_one_of reserved_words name)

abbrev pub spells_other : Token → Bool
spells_other (Atom name) = is_spelling name
spells_other token = false

abbrev pub HasPlainAtoms : List Token → Type 0
HasPlainAtoms tokens = list_any spells_other tokens ≡ false

-- no part is crowded
abbrev pub HasFewInParts : List Token → Type 0
HasFewInParts tokens = All (λ (s : Stretch). ¬ IsCrowded s.tokens) (stretches tokens)

-- ---- expressions

-- the text is that of the expression
pub record ReadsAsExp (text : List ℕ) (e : ExpTree) : Type 0 where
  pub tokens : List Located
  pub has : HasTokens text tokens
  pub read : HasExp (kinds tokens) e

abbrev pub ExpIsReread : Type 0
ExpIsReread = (text : List ℕ) (tokens : List Located) (e : ExpTree) → HasTokens text tokens → HasPlainAtoms (kinds tokens) → HasExp (kinds tokens) e → Fine e
    → length (exp_text e) ≤ most_bytes → ReadsAsExp (exp_text e) e

-- ---- programs

-- the text is that of the program
pub record ReadsAs (text : List ℕ) (program : ProgramTree) : Type 0 where
  pub tokens : List Located
  pub has : HasTokens text tokens
  pub verdict : HasVerdict (kinds tokens) (a_program program)

abbrev pub CanonicalIsReread : Type 0
CanonicalIsReread = (text : List ℕ) (tokens : List Located) (program : ProgramTree) → HasTokens text tokens → HasVerdict (kinds tokens) (a_program program)
    → HasPlainAtoms (kinds tokens) → length (canonical_text program) ≤ most_bytes
    → ((again : List Located) → HasTokens (canonical_text program) again → HasFewInParts (kinds again)) → ReadsAs (canonical_text program) program
