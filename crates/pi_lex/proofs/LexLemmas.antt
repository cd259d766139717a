-- Turns of the loops of the definition.
use Rattle.std.proofs.Common.{◌≡◌, ◌≢◌, ℕ, ◌+◌, ◌*◌, ◌<◌, ◌≤◌, List, [], ◌∷◌, filter, not, ◌==◌, arith, get_or, drop, IsTrue, le_refl, le_trans, zero, suc, mul-le-mul_left, inl, inr, length, true, false, cond, Bool, ◌||◌, ◌&&◌, sym, ◌∙◌, ap, refl, Option, None, Some, is_some}
use Rattle.std.proofs.lemmas.Bool.{cases_Bool, false≢true, or_left, and_left, and_right, and_from, ne_eqb, cond-true, cond-false, not_from_true, not_from_false}
use Rattle.std.proofs.lemmas.Bool.Decides.{nat_tests}
use Rattle.std.proofs.lemmas.List.{drop_more, get_or-drop, get_or_read}
use Rattle.std.specs.Char.{is_digit, digit_value, is_ascii_digit}
use Rattle.std.specs.Str.Parse.{digits_value_after}
use Rattle.pi_syntax.specs.Tokens.{underscore, digits_end, goes_on, radix_of, zero_digit, letter_x, letter_o, letter_b, line_feed, backslash, star, slash, escaped, closing_place, comment_end}

-- digits go on only to make the number larger
pub le-digits_value_after : (radix n : ℕ) (ds : List ℕ) → 1 ≤ radix → n ≤ digits_value_after radix n ds
le-digits_value_after radix n [] h = le_refl n
le-digits_value_after radix n (d ∷ ds) h =
    let step : n ≤ n * radix + digit_value d = omega (arith, mul-le-mul_left n h) in
    le_trans step (le-digits_value_after radix (n * radix + digit_value d) ds h)

-- the number that digits with `_` between them write when they follow those of n
abbrev pub number_after : ℕ → ℕ → List ℕ → ℕ
number_after radix n ds = digits_value_after radix n (filter (λ c. not (c == underscore)) ds)

-- one character of it
pub number_after-cons : (radix n c : ℕ) (ds : List ℕ)
    → number_after radix n (c ∷ ds) ≡ cond (c == underscore) (number_after radix n ds) (number_after radix (n * radix + digit_value c) ds)
number_after-cons radix n c ds =
    elim (cases_Bool (c == underscore)) [ inl same ↦ rw same | inr other ↦ rw other ]

pub number_after-drop : (radix n : ℕ) (ds : List ℕ) (i : ℕ) → i < length ds
    → number_after radix n (drop i ds)
    ≡ cond (get_or ds i 0 == underscore) (number_after radix n (drop (i + 1) ds)) (number_after radix (n * radix + digit_value (get_or ds i 0)) (drop (i + 1) ds))
number_after-drop radix n ds i h = rw (drop_more ds i 0 h) (number_after-cons radix n (get_or ds i 0) (drop (i + 1) ds))

pub le-number_after : (radix n : ℕ) (ds : List ℕ) → 1 ≤ radix → n ≤ number_after radix n ds
le-number_after radix n ds h = le-digits_value_after radix n (filter (λ c. not (c == underscore)) ds) h

-- one place of `digits_end`
pub digits_end-drop : (radix place : ℕ) (text : List ℕ) (i : ℕ) → i < length text
    → digits_end radix place (drop i text) ≡ cond (goes_on radix (drop i text)) (digits_end radix (place + 1) (drop (i + 1) text)) place
digits_end-drop radix place text i h = rw (drop_more text i 0 h)

pub le-digits_end : (radix place : ℕ) (text : List ℕ) → place ≤ digits_end radix place text
le-digits_end radix place [] = le_refl place
le-digits_end radix place (c ∷ rest) =
    elim (cases_Bool (goes_on radix (c ∷ rest))) [
      | inl more ↦ rw more (omega (arith, le-digits_end radix (place + 1) rest))
      | inr stops ↦ rw stops (le_refl place)
    ]

-- a first digit is one of the digits
pub digits_end-grows : (radix place : ℕ) (text : List ℕ) → 0 < length text → goes_on radix text ≡ true → place < digits_end radix place text
digits_end-grows radix place [] some h = absurd (omega arith)
digits_end-grows radix place (c ∷ rest) some h = rw h (omega (arith, le-digits_end radix (place + 1) rest))

pub first_digit : (text : List ℕ) → IsTrue (is_ascii_digit (get_or text 0 0)) → 0 < digits_end 10 0 text
first_digit [] h = absurd (false≢true h)
first_digit (c ∷ rest) h = digits_end-grows 10 0 (c ∷ rest) (omega arith) (grind (arith, nat_tests))

-- whether digits go on at a place of the text
pub goes_on-drop : (radix at : ℕ) (text : List ℕ) (c : ℕ) → at < length text → c ≡ get_or text at c
    → goes_on radix (drop at text) ≡ (is_digit c radix || (c == underscore && is_digit (get_or text (at + 1) 0) radix))
goes_on-drop radix at text c within read =
    let place : at + 1 + 0 ≡ at + 1 = omega arith in
    ap (goes_on radix) (drop_more text at 0 within)
    ∙ ap (λ d. is_digit (get_or text at 0) radix || (get_or text at 0 == underscore && is_digit d radix)) (get_or-drop (at + 1) text 0 0 ∙ ap (λ (k : ℕ). get_or text k 0) place)
    ∙ ap (λ x. is_digit x radix || (x == underscore && is_digit (get_or text (at + 1) 0) radix)) (sym (get_or_read text at c within read 0))

second : (x y z : Bool) → x ≡ false → y ≡ true → (x || (y && z)) ≡ z
second x y z none is = rw (none, is) refl

neither : (x y z : Bool) → x ≡ false → y ≡ false → (x || (y && z)) ≡ false
neither x y z none other = rw (none, other) refl

same_read : (text : List ℕ) (at c u : ℕ) → at < length text → c ≡ get_or text at c → u ≡ get_or text at u → u ≡ c
same_read text at c u within read again = get_or_read text at u within again 0 ∙ sym (get_or_read text at c within read 0)

pub goes_on-digit : (radix at : ℕ) (text : List ℕ) (c : ℕ) → at < length text → c ≡ get_or text at c → true ≡ is_digit c radix
    → goes_on radix (drop at text) ≡ true
goes_on-digit radix at text c within read is = goes_on-drop radix at text c within read ∙ or_left _ _ (sym is)

pub goes_on-behind : (radix at : ℕ) (text : List ℕ) (c u d : ℕ) → at < length text → c ≡ get_or text at c → u ≡ get_or text at u → false ≡ is_digit c radix
    → u ≡ underscore → d ≡ get_or text (at + 1) 0 → goes_on radix (drop at text) ≡ is_digit d radix
goes_on-behind radix at text c u d within read again none is next =
    let mark : (c == underscore) ≡ true = grind (arith, nat_tests, same_read text at c u within read again) in
    goes_on-drop radix at text c within read ∙ second _ _ _ (sym none) mark ∙ ap (λ x. is_digit x radix) (sym next)

pub goes_on-other : (radix at : ℕ) (text : List ℕ) (c u : ℕ) → at < length text → c ≡ get_or text at c → u ≡ get_or text at u → false ≡ is_digit c radix
    → u ≢ underscore → goes_on radix (drop at text) ≡ false
goes_on-other radix at text c u within read again none other =
    goes_on-drop radix at text c within read
    ∙ neither _ _ _ (sym none) (ne_eqb c underscore (λ is. other (same_read text at c u within read again ∙ is)))

-- the base that a mark and the character behind it name, where the text begins with `0`
abbrev pub marked : ℕ → ℕ → ℕ
marked mark digit =
    cond (mark == letter_x && is_digit digit 16) 16
    (cond (mark == letter_o && is_digit digit 8) 8 (cond (mark == letter_b && is_digit digit 2) 2 10))

pub radix_of-plain : (text : List ℕ) (c : ℕ) → c ≡ get_or text 0 0 → c ≢ zero_digit → 10 ≡ radix_of text
radix_of-plain text c is other = sym (cond-true _ _ _ (not_from_false _ (ne_eqb (get_or text 0 0) zero_digit (λ same. other (is ∙ same)))))

pub radix_of-marked : (text : List ℕ) (c mark digit : ℕ) → c ≡ get_or text 0 0 → c ≡ zero_digit → mark ≡ get_or text 1 0 → digit ≡ get_or text 2 0
    → marked mark digit ≡ radix_of text
radix_of-marked text c mark digit is zero_first one two =
    let test : (get_or text 0 0 == zero_digit) ≡ true = ap (λ x. x == zero_digit) (sym is ∙ zero_first) in
    ap (λ m. marked m digit) one ∙ ap (marked (get_or text 1 0)) two ∙ sym (cond-false _ _ _ (not_from_true _ test))

-- each mark, with a digit of its base behind it and without one
pub marked-x : (mark digit radix : ℕ) → mark ≡ letter_x → radix ≡ 16 → true ≡ is_digit digit radix → radix ≡ marked mark digit
marked-x mark digit radix is base some =
    base ∙ sym (ap (λ m. marked m digit) is ∙ cond-true _ _ _ (ap (is_digit digit) (sym base) ∙ sym some))

pub marked-o : (mark digit radix : ℕ) → mark ≡ letter_o → radix ≡ 8 → true ≡ is_digit digit radix → radix ≡ marked mark digit
marked-o mark digit radix is base some =
    base ∙ sym (ap (λ m. marked m digit) is ∙ cond-true _ _ _ (ap (is_digit digit) (sym base) ∙ sym some))

pub marked-b : (mark digit radix : ℕ) → mark ≡ letter_b → radix ≡ 2 → true ≡ is_digit digit radix → radix ≡ marked mark digit
marked-b mark digit radix is base some =
    base ∙ sym (ap (λ m. marked m digit) is ∙ cond-true _ _ _ (ap (is_digit digit) (sym base) ∙ sym some))

pub unmarked-x : (mark digit radix : ℕ) → mark ≡ letter_x → radix ≡ 16 → false ≡ is_digit digit radix → 10 ≡ marked mark digit
unmarked-x mark digit radix is base none =
    sym (ap (λ m. marked m digit) is ∙ cond-false _ _ _ (ap (is_digit digit) (sym base) ∙ sym none))

pub unmarked-o : (mark digit radix : ℕ) → mark ≡ letter_o → radix ≡ 8 → false ≡ is_digit digit radix → 10 ≡ marked mark digit
unmarked-o mark digit radix is base none =
    sym (ap (λ m. marked m digit) is ∙ cond-false _ _ _ (ap (is_digit digit) (sym base) ∙ sym none))

pub unmarked-b : (mark digit radix : ℕ) → mark ≡ letter_b → radix ≡ 2 → false ≡ is_digit digit radix → 10 ≡ marked mark digit
unmarked-b mark digit radix is base none =
    sym (ap (λ m. marked m digit) is ∙ cond-false _ _ _ (ap (is_digit digit) (sym base) ∙ sym none))

pub unmarked : (mark digit : ℕ) → mark ≢ letter_x → mark ≢ letter_o → mark ≢ letter_b → 10 ≡ marked mark digit
unmarked mark digit x o b =
    sym (cond-false _ _ _ (and_left _ _ (ne_eqb mark letter_x x))
    ∙ cond-false _ _ _ (and_left _ _ (ne_eqb mark letter_o o))
    ∙ cond-false _ _ _ (and_left _ _ (ne_eqb mark letter_b b)))

no_digit : (radix : ℕ) → radix ≤ 16 → true ≡ is_digit 0 radix → ⊥
no_digit radix small is = grind (arith, nat_tests)

-- a digit that was read at the third place stands in the text
pub third_digit : (text : List ℕ) (c radix : ℕ) → radix ≤ 16 → c ≡ get_or text 2 0 → true ≡ is_digit c radix → 2 < length text
third_digit [] c radix small is digit = absurd (no_digit radix small (digit ∙ ap (λ x. is_digit x radix) is))
third_digit (x ∷ []) c radix small is digit = absurd (no_digit radix small (digit ∙ ap (λ y. is_digit y radix) is))
third_digit (x ∷ y ∷ []) c radix small is digit = absurd (no_digit radix small (digit ∙ ap (λ z. is_digit z radix) is))
third_digit (x ∷ y ∷ z ∷ text) c radix small is digit = omega arith

-- one place of `closing_place`
pub closing_place-drop : (quote place : ℕ) (behind : Bool) (text : List ℕ) (i c : ℕ) → i < length text → c ≡ get_or text i c
    → closing_place quote behind place (drop i text) ≡ closing_place quote behind place (c ∷ drop (i + 1) text)
closing_place-drop quote place behind text i c within read =
    ap (closing_place quote behind place) (drop_more text i 0 within)
    ∙ ap (λ x. closing_place quote behind place (x ∷ drop (i + 1) text)) (sym (get_or_read text i c within read 0))

pub closing-escape : (quote place : ℕ) (behind : Bool) (c : ℕ) (rest : List ℕ) → behind ≡ true → is_some (escaped c) ≡ true
    → closing_place quote behind place (c ∷ rest) ≡ closing_place quote false (place + 1) rest
closing-escape quote place true c rest is some = cond-true _ _ _ some
closing-escape quote place false c rest is some = absurd (false≢true is)

pub closing-bad_escape : (quote place : ℕ) (behind : Bool) (c : ℕ) (rest : List ℕ) → behind ≡ true → is_some (escaped c) ≡ false
    → closing_place quote behind place (c ∷ rest) ≡ None
closing-bad_escape quote place true c rest is none = cond-false _ _ _ none
closing-bad_escape quote place false c rest is none = absurd (false≢true is)

pub closing-quote : (quote place : ℕ) (behind : Bool) (c : ℕ) (rest : List ℕ) → behind ≡ false → c ≡ quote
    → closing_place quote behind place (c ∷ rest) ≡ Some place
closing-quote quote place true c rest is same = absurd (false≢true (sym is))
closing-quote quote place false c rest is same =
    let test : (c == quote) ≡ true = grind (arith, nat_tests) in
    cond-true _ _ _ test

pub closing-break : (quote place : ℕ) (behind : Bool) (c : ℕ) (rest : List ℕ) → behind ≡ false → c ≢ quote → c ≡ line_feed
    → closing_place quote behind place (c ∷ rest) ≡ None
closing-break quote place true c rest is unquoted same = absurd (false≢true (sym is))
closing-break quote place false c rest is unquoted same =
    cond-false _ _ _ (ne_eqb c quote unquoted) ∙ cond-true _ _ _ (ap (λ x. x == line_feed) same)

pub closing-plain : (quote place : ℕ) (behind : Bool) (c : ℕ) (rest : List ℕ) → behind ≡ false → c ≢ quote → c ≢ line_feed
    → closing_place quote behind place (c ∷ rest) ≡ closing_place quote (c == backslash) (place + 1) rest
closing-plain quote place true c rest is unquoted unbroken = absurd (false≢true (sym is))
closing-plain quote place false c rest is unquoted unbroken =
    cond-false _ _ _ (ne_eqb c quote unquoted) ∙ cond-false _ _ _ (ne_eqb c line_feed unbroken)

-- the quote that was read is the first character
pub closing-first : (text : List ℕ) (quote : ℕ) (found : Option ℕ) → 0 < length text → quote ≡ get_or text 0 quote
    → closing_place quote false 1 (drop 1 text) ≡ found → found ≡ closing_place (get_or text 0 0) false 1 (drop 1 text)
closing-first text quote found some read is = sym is ∙ ap (λ q. closing_place q false 1 (drop 1 text)) (get_or_read text 0 quote some read 0)

-- one place of `comment_end`
pub comment_end-drop : (place : ℕ) (text : List ℕ) (i c : ℕ) → i < length text → c ≡ get_or text i c
    → comment_end place (drop i text)
    ≡ cond (c == star && get_or (drop (i + 1) text) 0 0 == slash) (Some (place + 2)) (comment_end (place + 1) (drop (i + 1) text))
comment_end-drop place text i c within read =
    ap (comment_end place) (drop_more text i 0 within)
    ∙ ap (λ x. comment_end place (x ∷ drop (i + 1) text)) (sym (get_or_read text i c within read 0))

pub comment-other : (place : ℕ) (text : List ℕ) (i c : ℕ) → i < length text → c ≡ get_or text i c → c ≢ star
    → comment_end place (drop i text) ≡ comment_end (place + 1) (drop (i + 1) text)
comment-other place text i c within read other =
    comment_end-drop place text i c within read ∙ cond-false _ _ _ (and_left _ _ (ne_eqb c star other))

pub comment-star : (place : ℕ) (text : List ℕ) (i c d : ℕ) → i < length text → c ≡ get_or text i c → d ≡ get_or text (i + 1) 0 → d ≢ slash
    → comment_end place (drop i text) ≡ comment_end (place + 1) (drop (i + 1) text)
comment-star place text i c d within read next other =
    let at : i + 1 + 0 ≡ i + 1 = omega arith in
    let behind : get_or (drop (i + 1) text) 0 0 ≡ d = get_or-drop (i + 1) text 0 0 ∙ ap (λ (k : ℕ). get_or text k 0) at ∙ sym next in
    comment_end-drop place text i c within read
    ∙ cond-false _ _ _ (and_right _ _ (ne_eqb (get_or (drop (i + 1) text) 0 0) slash (λ same. other (sym behind ∙ same))))

pub comment-found : (place : ℕ) (text : List ℕ) (i c d : ℕ) → i < length text → c ≡ get_or text i c → d ≡ get_or text (i + 1) 0 → c ≡ star → d ≡ slash
    → comment_end place (drop i text) ≡ Some (place + 2)
comment-found place text i c d within read next first_is second_is =
    let at : i + 1 + 0 ≡ i + 1 = omega arith in
    let behind : get_or (drop (i + 1) text) 0 0 ≡ slash = get_or-drop (i + 1) text 0 0 ∙ ap (λ (k : ℕ). get_or text k 0) at ∙ sym next ∙ second_is in
    comment_end-drop place text i c within read
    ∙ cond-true _ _ _ (and_from _ _ (ap (λ x. x == star) first_is) (ap (λ x. x == slash) behind))

-- a character that isn't 0 was read in the text
pub read_within : (text : List ℕ) (i d : ℕ) → d ≡ get_or text i 0 → 0 < d → i < length text
read_within [] i d is some = absurd (omega (arith, is, some))
read_within (x ∷ text) zero d is some = omega arith
read_within (x ∷ text) (suc i) d is some = omega (arith, read_within text i d is some)
