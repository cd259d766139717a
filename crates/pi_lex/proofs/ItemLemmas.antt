-- What stands at the front of a text, test by test.
use Rattle.std.proofs.Common.{◌≡◌, ◌≢◌, ℕ, ◌<◌, Bool, true, false, cond, ◌||◌, ◌==◌, List, [], ◌∷◌, length, codes, take, get_or, ◌≤◌, inl, inr, sym, ◌∙◌, ap, refl, subst, arith}
use Rattle.std.proofs.lemmas.Bool.{cases_lt, ne_eqb, cond-true, cond-false}
use Rattle.std.proofs.lemmas.Bool.Decides.{nat_tests}
use Rattle.std.proofs.lemmas.List.{take_all}
use Rattle.std.specs.Char.{is_ascii_digit}
use Rattle.pi_lex.proofs.SignsLemmas.{HaveLength, is_one_of-length, is_one_of-front}
use Rattle.pi_syntax.specs.Tokens.{Item, Blank, Lexeme, End, Atom, Str, first, percent, apostrophe, quotation_mark, is_white, white_len, line_comment_len, starts_comment, comment, is_variable_start, variable, is_atom_start, atom_or_word, quoted, integer, is_end_point, sign, item_at, Bad, Sign, spelled, begins_with, begins_with_one_of, signs_of_three, signs_of_two, signs_of_one, sign_len}

-- what a test chooses
pub met : {X : Type 0} (test : Bool) (x y : X) → true ≡ test → cond test x y ≡ x
met test x y is = cond-true test x y (sym is)

pub passed : {X : Type 0} (test : Bool) (x y z : X) → false ≡ test → y ≡ z → cond test x y ≡ z
passed test x y z is same = cond-false test x y (sym is) ∙ same

pub same_character : (c d : ℕ) → c ≡ d → true ≡ (c == d)
same_character c d is = grind (arith, nat_tests)

pub other_character : (c d : ℕ) → c ≢ d → false ≡ (c == d)
other_character c d is = sym (ne_eqb c d is)

-- what the tests from a place on make of a text that begins with c
abbrev pub from_digits : ℕ → List ℕ → Item
from_digits c text = cond (is_ascii_digit c) (integer text) (cond (is_end_point text) (Lexeme End 1) (sign text))

abbrev pub from_quotes : ℕ → List ℕ → Item
from_quotes c text = cond (c == apostrophe) (quoted Atom text) (cond (c == quotation_mark) (quoted Str text) (from_digits c text))

abbrev pub from_names : ℕ → List ℕ → Item
from_names c text = cond (is_variable_start c) (variable text) (cond (is_atom_start c) (atom_or_word text) (from_quotes c text))

abbrev pub from_blanks : ℕ → List ℕ → Item
from_blanks c text =
    cond (is_white c) (Blank (white_len text))
    (cond (c == percent) (Blank (line_comment_len text)) (cond (starts_comment text) (comment text) (from_names c text)))

-- what holds of the character that was read holds of the first
pub of_first : (P : ℕ → Type 0) (text : List ℕ) (c : ℕ) → 0 < length text → c ≡ get_or text 0 c → P c → P (first text)
of_first P [] c some is holds = absurd (omega arith)
of_first P (x ∷ text) c some is holds = subst P is holds

pub item_at_first : (text : List ℕ) (c : ℕ) → 0 < length text → c ≡ get_or text 0 c → item_at text ≡ from_blanks c text
unfolding item_at
item_at_first [] c some is = absurd (omega arith)
item_at_first (x ∷ text) c some is =
    passed _ _ _ _ (other_character (length (x ∷ text)) 0 (omega arith)) (ap (λ (y : ℕ). from_blanks y (x ∷ text)) (sym is))

pub behind_blanks : (c : ℕ) (text : List ℕ) → false ≡ is_white c → c ≢ percent → false ≡ starts_comment text → from_blanks c text ≡ from_names c text
behind_blanks c text white line comments =
    passed _ _ _ _ white (passed _ _ _ _ (other_character c percent line) (passed _ _ _ _ comments refl))

pub behind_names : (c : ℕ) (text : List ℕ) → false ≡ is_variable_start c → false ≡ is_atom_start c → from_names c text ≡ from_quotes c text
behind_names c text variables atoms = passed _ _ _ _ variables (passed _ _ _ _ atoms refl)

pub behind_quotes : (c : ℕ) (text : List ℕ) → c ≢ apostrophe → c ≢ quotation_mark → from_quotes c text ≡ from_digits c text
behind_quotes c text atoms texts =
    passed _ _ _ _ (other_character c apostrophe atoms) (passed _ _ _ _ (other_character c quotation_mark texts) refl)

pub at_quoted_atom : (c : ℕ) (text : List ℕ) → c ≡ apostrophe → from_quotes c text ≡ quoted Atom text
at_quoted_atom c text is = met _ _ _ (same_character c apostrophe is)

pub at_quoted_text : (c : ℕ) (text : List ℕ) → c ≢ apostrophe → c ≡ quotation_mark → from_quotes c text ≡ quoted Str text
at_quoted_text c text other is = passed _ _ _ _ (other_character c apostrophe other) (met _ _ _ (same_character c quotation_mark is))

-- what stands at the front as a sign
only_one : (x : Bool) → (x || false) ≡ x
only_one true = refl
only_one false = refl

pub sign_len-four : (text : List ℕ) → true ≡ begins_with text (codes "#<=>") → 4 ≡ sign_len text
sign_len-four text is = sym (met _ _ _ (is ∙ sym (only_one _)))

pub sign_len-three : (text : List ℕ) → false ≡ begins_with text (codes "#<=>") → true ≡ begins_with_one_of signs_of_three text → 3 ≡ sign_len text
sign_len-three text four is = sym (passed _ _ _ _ (four ∙ sym (only_one _)) (met _ _ _ is))

pub sign_len-two : (text : List ℕ) → false ≡ begins_with text (codes "#<=>") → false ≡ begins_with_one_of signs_of_three text
    → true ≡ begins_with_one_of signs_of_two text → 2 ≡ sign_len text
sign_len-two text four three is = sym (passed _ _ _ _ (four ∙ sym (only_one _)) (passed _ _ _ _ three (met _ _ _ is)))

pub sign_len-one : (text : List ℕ) → false ≡ begins_with text (codes "#<=>") → false ≡ begins_with_one_of signs_of_three text
    → false ≡ begins_with_one_of signs_of_two text → true ≡ begins_with_one_of signs_of_one text → 1 ≡ sign_len text
sign_len-one text four three two is =
    sym (passed _ _ _ _ (four ∙ sym (only_one _)) (passed _ _ _ _ three (passed _ _ _ _ two (met _ _ _ is))))

pub sign_len-none : (text : List ℕ) → false ≡ begins_with text (codes "#<=>") → false ≡ begins_with_one_of signs_of_three text
    → false ≡ begins_with_one_of signs_of_two text → false ≡ begins_with_one_of signs_of_one text → 0 ≡ sign_len text
sign_len-none text four three two one =
    sym (passed _ _ _ _ (four ∙ sym (only_one _)) (passed _ _ _ _ three (passed _ _ _ _ two (passed _ _ _ _ one refl))))

-- a sign of so many characters fits into the text
pub begins_with_one_of-within : (n : ℕ) (signs : List (List ℕ)) (text : List ℕ) → HaveLength n signs → true ≡ begins_with_one_of signs text → n ≤ length text
begins_with_one_of-within n signs text have is =
    let whole = is_one_of-length n signs (take n text) have (is_one_of-front n signs text have (sym is)) in
    elim (cases_lt (length text) n) [
      | inl short ↦ absurd (omega (arith, whole, ap length (take_all n text (omega arith))))
      | inr long ↦ long
    ]

pub sign-none : (text : List ℕ) (n : ℕ) → n ≡ sign_len text → n ≡ 0 → Bad ≡ sign text
unfolding sign
sign-none text n same none = sym (met _ _ _ (same_character (sign_len text) 0 (sym same ∙ none)))

pub sign-some : (text : List ℕ) (n : ℕ) → n ≡ sign_len text → n ≢ 0 → Lexeme (Sign (spelled n text)) n ≡ sign text
unfolding sign
sign-some text n same some =
    ap (λ k. Lexeme (Sign (spelled k text)) k) same
    ∙ sym (passed _ _ _ _ (other_character (sign_len text) 0 (λ none. some (same ∙ none))) refl)
