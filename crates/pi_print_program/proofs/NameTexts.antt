-- The texts of variables and of names, and their tokens.
use Rattle.std.proofs.Common.{◌≡◌, ℕ, Bool, true, false, not, ◌&&◌, List, [], ◌∷◌, ◌++◌, length, refl, sym, subst, arith, encode_utf8_all, chars, IsUtf8, inl, inr, flat_map}
use Rattle.std.proofs.lemmas.Bool.{cases_Bool, and_parts, false≢true}
use Rattle.std.proofs.lemmas.Bool.Decides.{nat_tests}
use Rattle.std.proofs.lemmas.Str.{encodes-chars, scalars-chars}
use Rattle.std.specs.List.{list_all}
use Rattle.std.specs.Str.{bytes_eq}
use lib.Utf8.{scalars}
use Rattle.pi_syntax.specs.PrintAtom.{nil, is_unquoted_atom, stands_bare, atom_text, in_quotes}
use Rattle.pi_print_program.specs.Texts.{name_text, string_text, in_double_quotes}
use Rattle.pi_syntax.specs.Tokens.{Token, Lexeme, item_at, Var, Atom, Str, first, is_name_part, is_variable_start, is_atom_start, is_reserved}
use Rattle.pi_print_program.proofs.Says.{Says, says-token, Stops, Begins}
use Rattle.pi_print_program.proofs.NameTokens.{variable_token, name_token}
use Rattle.pi_print_program.proofs.QuotedTokens.{says-quoted, says-text, between}
use Rattle.pi_print_program.proofs.Punctuation.{says-stops}

-- the name of a variable
pub record IsVariableName (name : List ℕ) : Type 0 where
  pub utf8 : IsUtf8 name
  pub starts : is_variable_start (first (chars name)) ≡ true
  pub parts : list_all is_name_part (chars name) ≡ true

-- a name that stands in tokens as an atom, and for no list
pub record IsAtomName (name : List ℕ) : Type 0 where
  pub utf8 : IsUtf8 name
  pub other : bytes_eq name nil ≡ false

-- a text of one token
pub record OneToken (text : List ℕ) (t : Token) : Type 0 where
  pub cs : List ℕ → List ℕ
  pub says : Says text cs (λ u. t ∷ u) Stops
  pub begins : (more : List ℕ) → Begins (cs more)

begins_variable : (c : ℕ) (more : List ℕ) → is_variable_start c ≡ true → Begins (c ∷ more)
begins_variable c more is = record {
  white = grind (arith, nat_tests);
  less = grind (arith, nat_tests);
  equal = grind (arith, nat_tests);
  greater = grind (arith, nat_tests);
}

begins_atom : (c : ℕ) (more : List ℕ) → is_atom_start c ≡ true → Begins (c ∷ more)
begins_atom c more is = record {
  white = grind (arith, nat_tests);
  less = grind (arith, nat_tests);
  equal = grind (arith, nat_tests);
  greater = grind (arith, nat_tests);
}

variable_of : (name cs : List ℕ) → encode_utf8_all cs ≡ name → scalars cs ≡ true → is_variable_start (first cs) ≡ true → list_all is_name_part cs ≡ true
    → OneToken name (Var name)
variable_of name [] same valid starts parts = absurd (false≢true starts)
variable_of name (c ∷ cs) same valid starts parts = record {
  cs = λ m. c ∷ (cs ++ m);
  says = says-token name (c ∷ cs) (Var name) Stops same valid refl (λ more h. rw (sym same) (variable_token c cs more starts parts h));
  begins = λ more. begins_variable c (cs ++ more) starts;
}

pub variable_text : (name : List ℕ) → IsVariableName name → OneToken name (Var name)
variable_text name is = variable_of name (chars name) (encodes-chars name is.utf8) (scalars-chars name is.utf8) is.starts is.parts

bare_of : (name cs : List ℕ) → encode_utf8_all cs ≡ name → scalars cs ≡ true → is_atom_start (first cs) ≡ true → list_all is_name_part cs ≡ true
    → is_reserved cs ≡ false → OneToken name (Atom name)
bare_of name [] same valid starts parts free = absurd (false≢true starts)
bare_of name (c ∷ cs) same valid starts parts free =
    let item : (more : List ℕ) → Stops more → item_at (c ∷ (cs ++ more)) ≡ Lexeme (Atom (encode_utf8_all (c ∷ cs))) (length (c ∷ cs)) =
    λ more h. rw free at (name_token c cs more starts parts h) in
    record {
      cs = λ m. c ∷ (cs ++ m);
      says = says-token name (c ∷ cs) (Atom name) Stops same valid refl (λ more h. rw (sym same) (item more h));
      begins = λ more. begins_atom c (cs ++ more) starts;
    }

bare : (name cs : List ℕ) → encode_utf8_all cs ≡ name → scalars cs ≡ true → is_unquoted_atom cs ≡ true → OneToken name (Atom name)
unfolding is_unquoted_atom
bare name cs same valid is =
    let (form, free) = and_parts (is_atom_start (first cs) && list_all is_name_part cs) (not (is_reserved cs)) is in
    let (starts, parts) = and_parts (is_atom_start (first cs)) (list_all is_name_part cs) form in
    bare_of name cs same valid starts parts (not_true (is_reserved cs) free)
  where
    not_true : (b : Bool) → not b ≡ true → b ≡ false
    not_true true n = absurd (false≢true n)
    not_true false n = refl

quoted_of : (name : List ℕ) → IsUtf8 name → OneToken (39 ∷ (flat_map in_quotes (chars name) ++ 39 ∷ [])) (Atom name)
quoted_of name utf8 = record {
  cs = λ m. between 39 (chars name) ++ m;
  says = subst (λ (n : List ℕ). Says (39 ∷ (flat_map in_quotes (chars name) ++ 39 ∷ [])) (λ m. between 39 (chars name) ++ m) (λ u. Atom n ∷ u) Stops) (encodes-chars name utf8) (says-stops (says-quoted (chars name) (scalars-chars name utf8)));
  begins = λ more. record { white = refl; less = refl; equal = refl; greater = refl };
}

pub atom_token_text : (name : List ℕ) → IsAtomName name → OneToken (name_text name) (Atom name)
unfolding atom_text stands_bare
atom_token_text name is =
    elim (cases_Bool (is_unquoted_atom (chars name))) [
      | inl free ↦ rw (is.other, free) (bare name (chars name) (encodes-chars name is.utf8) (scalars-chars name is.utf8) free)
      | inr quoted ↦ rw (is.other, quoted) (quoted_of name is.utf8)
    ]

pub string_token_text : (text : List ℕ) → IsUtf8 text → OneToken (string_text text) (Str text)
unfolding string_text
string_token_text text utf8 = record {
  cs = λ m. between 34 (chars text) ++ m;
  says = subst (λ (n : List ℕ). Says (34 ∷ (flat_map in_double_quotes (chars text) ++ 34 ∷ [])) (λ m. between 34 (chars text) ++ m) (λ u. Str n ∷ u) Stops) (encodes-chars text utf8) (says-stops (says-text (chars text) (scalars-chars text utf8)));
  begins = λ more. record { white = refl; less = refl; equal = refl; greater = refl };
}
