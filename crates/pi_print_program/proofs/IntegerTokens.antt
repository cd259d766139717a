-- The tokens of decimal numbers.
use Rattle.std.proofs.Common.{◌≡◌, ℕ, zero, suc, ◌+◌, ◌-◌, ◌*◌, ◌/◌, ◌%◌, ◌^◌, ◌<◌, ◌≤◌, ◌==◌, Bool, true, false, cond, not, nat_le, List, [], ◌∷◌, ◌++◌, drop, take, length, pos, refl, sym, ap, ◌∙◌, arith, pow-suc, encode_utf8_all, filter, if◌then◌else◌, ◌⊎◌, inl, inr}
use Rattle.std.proofs.lemmas.Bool.{cases_Bool, eqb-true, eqb-false, lt-ltb}
use Rattle.std.proofs.lemmas.Bool.Decides.{nat_tests}
use Rattle.std.proofs.lemmas.List.{take_at}
use Rattle.std.specs.Char.{is_digit, is_ascii_digit, digit_value}
use Rattle.std.specs.Fmt.{digit_glyph, digits_onto, digits, decimal}
use Rattle.std.specs.Prelude.{slice_index}
use Rattle.std.specs.Str.Parse.{digits_value, digits_value_after}
use Rattle.std.proofs.lemmas.Str.{encode_ascii}
use lib.Utf8.{scalars, encode, low_scalar}
use Rattle.pi_lex.specs.Forms.{IsDigits, last, digit}
use Rattle.pi_lex.proofs.FormsLemmas.{digits_end-digits}
use Rattle.pi_syntax.specs.Tokens.{Item, Lexeme, item_at, Int, integer, integer_between, radix_of, digits_end, largest, is_letter, first, letter_x, letter_o, letter_b, is_white, is_variable_start, is_atom_start}
use Rattle.pi_print_program.proofs.Says.{Says, item_some, says-token, Stops, Begins}

-- a digit
abbrev is_ten : ℕ → Bool
is_ten c = is_digit c 10

glyph : (d : ℕ) → d < 10 → digit_glyph false d ≡ 48 + d
glyph d small = ap (λ (b : Bool). cond b (48 + d) (87 + d)) (lt-ltb d 10 small)

glyph_value : (d : ℕ) → d < 10 → digit_value (digit_glyph false d) ≡ d
glyph_value d small = rw (glyph d small) (grind (arith, nat_tests))

-- a number is ten times what stands before its last digit, and that
last-value : (n : ℕ) → (n / 10) * 10 + digit_value (digit_glyph false (n % 10)) ≡ n
last-value n = rw (glyph_value (n % 10) (omega arith)) (omega arith)

step-value : (b : Bool) (n k : ℕ) (ds : List ℕ) → (n / 10 == 0) ≡ b
    → (b ≡ false → digits_value_after 10 0 (digits_onto k 10 false (n / 10) (digit_glyph false (n % 10) ∷ ds)) ≡ digits_value_after 10 (n / 10) (digit_glyph false (n % 10) ∷ ds))
    → digits_value_after 10 0 (cond b (digit_glyph false (n % 10) ∷ ds) (digits_onto k 10 false (n / 10) (digit_glyph false (n % 10) ∷ ds))) ≡ digits_value_after 10 n ds
step-value true n k ds is rest =
    let none : n / 10 ≡ 0 = eqb-true (n / 10) 0 is in
    ap (λ (m : ℕ). digits_value_after 10 m ds) (ap (λ (m : ℕ). m * 10 + digit_value (digit_glyph false (n % 10))) (sym none) ∙ last-value n)
step-value false n k ds is rest = rest refl ∙ ap (λ (m : ℕ). digits_value_after 10 m ds) (last-value n)

-- with room for them the digits write the number
onto-value : (k n : ℕ) (ds : List ℕ) → n < 10 ^ suc k → digits_value_after 10 0 (digits_onto (suc k) 10 false n ds) ≡ digits_value_after 10 n ds
onto-value zero n ds few = step-value (n / 10 == 0) n zero ds refl (λ more. let some = eqb-false (n / 10) 0 more in absurd (omega (arith, few, some)))
onto-value (suc k) n ds few =
    step-value (n / 10 == 0) n (suc k) ds refl (λ more. onto-value k (n / 10) (digit_glyph false (n % 10) ∷ ds) (omega (arith, few, pow-suc 10 (suc k))))

-- digits, one or more
glyph_digit : (n : ℕ) → is_ten (digit_glyph false (n % 10)) ≡ true
glyph_digit n = rw (glyph_value (n % 10) (omega arith)) (lt-ltb (n % 10) 10 (omega arith))

-- digits alone, one or more
data Tens : List ℕ → Type 0 where
  last_ten : (c : ℕ) → is_ten c ≡ true → Tens (c ∷ [])
  more_tens : {ds : List ℕ} (c : ℕ) → is_ten c ≡ true → Tens ds → Tens (c ∷ ds)

abbrev AreTens : List ℕ → Type 0
AreTens ds = (ds ≡ []) ⊎ Tens ds

one_more : (c : ℕ) (ds : List ℕ) → is_ten c ≡ true → AreTens ds → Tens (c ∷ ds)
one_more c ds is (inl none) = rw none (last_ten c is)
one_more c ds is (inr some) = more_tens c is some

onto-digits : (k n : ℕ) (ds : List ℕ) → AreTens ds → (k ≡ 0 → Tens ds) → Tens (digits_onto k 10 false n ds)
onto-digits zero n ds are some = some refl
onto-digits (suc k) n ds are some =
    let here = one_more (digit_glyph false (n % 10)) ds (glyph_digit n) are in
    elim (cases_Bool (n / 10 == 0)) [
      | inl ends ↦ rw ends here
      | inr others ↦ rw others (onto-digits k (n / 10) (digit_glyph false (n % 10) ∷ ds) (inr here) (λ none. here))
    ]

decimal-digits : (n : ℕ) → Tens (decimal n)
unfolding digits
decimal-digits n = onto-digits 64 n [] (inl refl) (λ none. absurd (omega (arith, none)))

decimal-value : (n : ℕ) → n < 2 ^ 127 → digits_value 10 (decimal n) ≡ n
unfolding digits
decimal-value n fits = onto-value 63 n [] (omega (arith, fits))

-- ---- what else is known of digits

is_digits : {ds : List ℕ} → Tens ds → IsDigits 10 ds
is_digits (last_ten c is) = last c is
is_digits (more_tens c is rest) = digit c is (is_digits rest)

abbrev no_underscore : ℕ → Bool
no_underscore c = not (c == 95)

plain : (c : ℕ) → is_ten c ≡ true → no_underscore c ≡ true
plain c is = grind (arith, nat_tests)

filter-tens : {ds : List ℕ} → Tens ds → filter no_underscore ds ≡ ds
filter-tens (last_ten c is) = rw (plain c is) refl
filter-tens (more_tens c is rest) = rw (plain c is, filter-tens rest) refl

small : (c : ℕ) → is_ten c ≡ true → (48 ≤ c) × (c < 58)
small c is = (grind (arith, nat_tests), grind (arith, nat_tests))

alone : (c : ℕ) → is_ten c ≡ true → encode c ≡ c ∷ []
alone c is = encode_ascii c (omega (arith, small c is))

bytes-tens : {ds : List ℕ} → Tens ds → encode_utf8_all ds ≡ ds
bytes-tens (last_ten c is) = rw (alone c is) refl
bytes-tens (more_tens {ds} c is rest) = rw (alone c is, bytes-tens rest) refl

scalars-tens : {ds : List ℕ} → Tens ds → scalars ds ≡ true
scalars-tens (last_ten c is) = rw (low_scalar c (omega (arith, small c is))) refl
scalars-tens (more_tens c is rest) = rw (low_scalar c (omega (arith, small c is)), scalars-tens rest) refl

-- ---- the token

digit_item : (c : ℕ) (text : List ℕ) → is_ten c ≡ true → item_at (c ∷ text) ≡ integer (c ∷ text)
digit_item c text is =
    let white : is_white c ≡ false = grind (arith, nat_tests) in
    let percent : (c == 37) ≡ false = grind (arith, nat_tests) in
    let slash : (c == 47) ≡ false = grind (arith, nat_tests) in
    let upper : is_variable_start c ≡ false = grind (arith, nat_tests) in
    let lower : is_atom_start c ≡ false = grind (arith, nat_tests) in
    let single : (c == 39) ≡ false = grind (arith, nat_tests) in
    let double : (c == 34) ≡ false = grind (arith, nat_tests) in
    let ten : is_ascii_digit c ≡ true = grind (arith, nat_tests) in
    item_some c text ∙ rw (white, percent, slash, upper, lower, single, double, ten) refl

no_mark : (c : ℕ) → is_ten c ≡ true → ((c == letter_x) ≡ false) × ((c == letter_o) ≡ false) × ((c == letter_b) ≡ false)
no_mark c is = (grind (arith, nat_tests), grind (arith, nat_tests), grind (arith, nat_tests))

-- the character behind the first one
abbrev second : List ℕ → ℕ
second text = slice_index text 1

radix_ten : (first_is : ℕ) (text : List ℕ) → (second text == letter_x) ≡ false → (second text == letter_o) ≡ false → (second text == letter_b) ≡ false
    → radix_of text ≡ 10
radix_ten c text sixteen eight two = rw (sixteen, eight, two) (either (not (first text == 48)))
  where
    either : (b : Bool) → ◌≡◌ {A = ℕ} (if b then 10 else 10) 10
    either true = refl
    either false = refl

radix-tens : {ds : List ℕ} (more : List ℕ) → Tens ds → Stops more → radix_of (ds ++ more) ≡ 10
radix-tens [] (last_ten c is) stops = radix_ten c (c ∷ []) stops.sixteen stops.eight stops.two
radix-tens (d ∷ rest) (last_ten c is) stops = radix_ten c (c ∷ d ∷ rest) stops.sixteen stops.eight stops.two
radix-tens rest (more_tens c is (last_ten d next)) stops = let (x, o, b) = no_mark d next in radix_ten c (c ∷ d ∷ rest) x o b
radix-tens rest (more_tens c is (more_tens {ds} d next others)) stops = let (x, o, b) = no_mark d next in radix_ten c (c ∷ d ∷ (ds ++ rest)) x o b

at_end : (ds rest : List ℕ) → slice_index (ds ++ rest) (length ds) ≡ first rest
at_end [] rest = refl
at_end (c ∷ cs) rest = at_end cs rest

abbrev between : ℕ → ℕ → List ℕ → Item
between start end text = integer_between 10 start end text

whole : (ds rest : List ℕ) (n : ℕ) → digits_value 10 ds ≡ n → filter no_underscore ds ≡ ds → n < 2 ^ 127 → is_letter (first rest) ≡ false
    → between 0 (length ds) (ds ++ rest) ≡ Lexeme (Int (pos n)) (length ds)
whole ds rest n value plain' fits letter =
    let front : take (length ds - 0) (drop 0 (ds ++ rest)) ≡ ds = take_at ds rest (length ds - 0) (omega arith) in
    let within : nat_le n largest ≡ true = grind (arith, nat_tests) in
    rw (front, plain', value, within, at_end ds rest, letter) refl

integer_whole : {ds : List ℕ} (rest : List ℕ) (n : ℕ) → Tens ds → digits_value 10 ds ≡ n → n < 2 ^ 127 → Stops rest
    → integer (ds ++ rest) ≡ Lexeme (Int (pos n)) (length ds)
unfolding integer
integer_whole {ds} rest n are value fits stops =
    let ends : digits_end 10 0 (ds ++ rest) ≡ length ds = digits_end-digits 10 0 ds rest (is_digits are) stops.digits ∙ omega arith in
    rw (radix-tens rest are stops, ends) (whole ds rest n value (filter-tens are) fits stops.letter)

tens_item : {ds : List ℕ} (rest : List ℕ) → Tens ds → item_at (ds ++ rest) ≡ integer (ds ++ rest)
tens_item rest (last_ten c is) = digit_item c rest is
tens_item rest (more_tens {ds} c is others) = digit_item c (ds ++ rest) is

pub says-natural : (n : ℕ) → n < 2 ^ 127 → Says (decimal n) (λ m. decimal n ++ m) (λ u. Int (pos n) ∷ u) Stops
says-natural n fits =
    let are = decimal-digits n in
    says-token (decimal n) (decimal n) (Int (pos n)) Stops (bytes-tens are) (scalars-tens are) refl
    (λ more h. tens_item more are ∙ integer_whole more n are (decimal-value n fits) fits h)

begins_digit : (c : ℕ) (rest : List ℕ) → is_ten c ≡ true → Begins (c ∷ rest)
begins_digit c rest is = record {
  white = grind (arith, nat_tests);
  less = grind (arith, nat_tests);
  equal = grind (arith, nat_tests);
  greater = grind (arith, nat_tests);
}

begins_tens : {ds : List ℕ} (rest : List ℕ) → Tens ds → Begins (ds ++ rest)
begins_tens rest (last_ten c is) = begins_digit c rest is
begins_tens rest (more_tens {ds} c is others) = begins_digit c (ds ++ rest) is

-- it begins with a digit
pub decimal_begins : (n : ℕ) (more : List ℕ) → Begins (decimal n ++ more)
decimal_begins n more = begins_tens more (decimal-digits n)
