-- Texts of paths, and what is scanned of them.
use Rattle.std.proofs.Common.{◌≡◌, ◌≢◌, ℕ, zero, suc, ◌+◌, ◌-◌, ◌*◌, ◌^◌, ◌<◌, ◌≤◌, ◌==◌, ◌&&◌, nat_lt, Bool, true, false, cond, List, [], ◌∷◌, ◌++◌, length, take, drop, get_or, refl, sym, ap, ◌∙◌, subst, inl, inr, arith, append_assoc, append-nil, length-append}
use Rattle.std.specs.Prelude.{All, ⊤}
use Rattle.std.specs.Fmt.{decimal}
use Rattle.std.specs.Char.{digit_value}
use Rattle.std.specs.Str.Parse.{AllDigits, digits_value_after}
use Rattle.std.proofs.lemmas.Fmt.{decimal_is_IsNumeral, decimal_nonempty}
use Rattle.std.proofs.lemmas.Str.Parse.{digit_from_value}
use Rattle.std.proofs.lemmas.Str.{digit_value_digit}
use Rattle.std.proofs.lemmas.Bool.{eqb-true, lt-ltb, ltb-true}
use Rattle.std.proofs.lemmas.List.{get_or_push, at_drop_more}
use Rattle.std.proofs.Math.ListN.{drop_of_length-le}
use Rattle.pi_resume.specs.Token.{later_numbers, token, IsNumber, most_numbers, IsToken}
use Rattle.pi_resume.specs.Scanned.{with_digit, scanned_on, scanned, ends_line, without_feed}

-- ---- numbers, one by one

abbrev pub Numbers : List ℕ → Type 0
Numbers [] = ⊤
Numbers (n ∷ ns) = IsNumber n × Numbers ns

pub numbers-of : (ns : List ℕ) → All IsNumber ns → Numbers ns
numbers-of [] all = tt
numbers-of (n ∷ ns) all = (all 0 0 (omega arith), numbers-of ns (λ i d within. all (suc i) d (omega arith)))

-- ---- digits

-- a digit as a number
digit-is : (c : ℕ) → digit_value c < 10 → c - 48 ≡ digit_value c
digit-is c h = let within = digit_from_value c h in let same = digit_value_digit c within in omega (arith, same)

not-point : (c : ℕ) → digit_value c < 10 → (c == 46) ≡ false
not-point c h = let within = digit_from_value c h in neq (c == 46) refl within
  where
    neq : (b : Bool) → (c == 46) ≡ b → (48 ≤ c) × (c ≤ 57) → b ≡ false
    neq true e within = let is = eqb-true c 46 e in absurd (omega (arith, is, within.0))
    neq false e within = refl

-- a number only grows by more digits
grows : (ds : List ℕ) (v : ℕ) → v ≤ digits_value_after 10 v ds
grows [] v = omega arith
grows (c ∷ cs) v = let more = grows cs (v * 10 + digit_value c) in omega (arith, more)

put : (v c : ℕ) → digit_value c < 10 → v * 10 + digit_value c < 2 ^ 64 → with_digit v c ≡ v * 10 + digit_value c
put v c h small =
    let same = digit-is c h in
    let fits : v * 10 + (c - 48) < 2 ^ 64 = subst (λ (d : ℕ). v * 10 + d < 2 ^ 64) (sym same) small in
    ap (λ (b : Bool). cond b (v * 10 + (c - 48)) (2 ^ 64 - 1)) (lt-ltb (v * 10 + (c - 48)) (2 ^ 64) fits) ∙ ap (λ (d : ℕ). v * 10 + d) same

scan-digits : (ds rest : List ℕ) (v : ℕ) → AllDigits 10 ds → digits_value_after 10 v ds < 2 ^ 64 → scanned_on (ds ++ rest) v ≡ scanned_on rest (digits_value_after 10 v ds)
unfolding scanned_on
scan-digits [] rest v all small = refl
scan-digits (c ∷ cs) rest v all small =
    let more = grows cs (v * 10 + digit_value c) in
    let here : v * 10 + digit_value c < 2 ^ 64 = omega (arith, more, small) in
    ap (λ (b : Bool). cond b (v ∷ scanned_on (cs ++ rest) 0) (scanned_on (cs ++ rest) (with_digit v c))) (not-point c all.0)
    ∙ (ap (λ (w : ℕ). scanned_on (cs ++ rest) w) (put v c all.0 here) ∙ scan-digits cs rest (v * 10 + digit_value c) all.1 small)

scan-number : (n : ℕ) (rest : List ℕ) → n < 2 ^ 64 → scanned_on (decimal n ++ rest) 0 ≡ scanned_on rest n
scan-number n rest small =
    let is = decimal_is_IsNumeral n small in
    scan-digits (decimal n) rest 0 is.0.1 (subst (λ (m : ℕ). m < 2 ^ 64) (sym is.1) small) ∙ ap (λ (m : ℕ). scanned_on rest m) is.1

scan-numbers : (n : ℕ) (ns : List ℕ) → n < 2 ^ 64 → Numbers ns → scanned_on (decimal n ++ later_numbers ns) 0 ≡ n ∷ ns
unfolding scanned_on later_numbers
scan-numbers n [] small all = scan-number n [] small
scan-numbers n (k ∷ ks) small all =
    scan-number n (46 ∷ decimal k ++ later_numbers ks) small ∙ ap (λ (ms : List ℕ). n ∷ ms) (scan-numbers k ks all.0.1 all.1)

long-text : (n : ℕ) (ns : List ℕ) → n < 2 ^ 64 → nat_lt (length (token (n ∷ ns))) 2 ≡ false
long-text n ns small =
    let some = decimal_nonempty n small in
    let long = length-append (decimal n) (later_numbers ns) in
    neq (nat_lt (length (token (n ∷ ns))) 2) refl (omega (arith, some, long))
  where
    neq : (b : Bool) → nat_lt (length (token (n ∷ ns))) 2 ≡ b → 2 ≤ length (token (n ∷ ns)) → b ≡ false
    neq true e two = let less = ltb-true (length (token (n ∷ ns))) 2 e in absurd (omega (arith, less, two))
    neq false e two = refl

pub scan-token : (path : List ℕ) → Numbers path → scanned (token path) ≡ path
scan-token [] all = refl
scan-token (n ∷ ns) all =
    ap (λ (b : Bool). cond b [] (scanned_on (drop 1 (token (n ∷ ns))) 0)) (long-text n ns all.0.1) ∙ scan-numbers n ns all.0.1 all.1

-- ---- line feeds

abbrev Clear : List ℕ → Type 0
Clear [] = ⊤
Clear (b ∷ bs) = (b ≢ 10) × Clear bs

clear-append : (xs ys : List ℕ) → Clear xs → Clear ys → Clear (xs ++ ys)
clear-append [] ys a b = b
clear-append (x ∷ xs) ys a b = (a.0, clear-append xs ys a.1 b)

clear-digits : (ds : List ℕ) → AllDigits 10 ds → Clear ds
clear-digits [] all = tt
clear-digits (c ∷ cs) all = let within = digit_from_value c all.0 in (λ e. omega (arith, e, within.0), clear-digits cs all.1)

clear-decimal : (n : ℕ) → n < 2 ^ 64 → Clear (decimal n)
clear-decimal n small = clear-digits (decimal n) (decimal_is_IsNumeral n small).0.1

clear-later : (ns : List ℕ) → Numbers ns → Clear (later_numbers ns)
unfolding later_numbers
clear-later [] all = tt
clear-later (n ∷ ns) all = (λ e. omega (arith, e), clear-append (decimal n) (later_numbers ns) (clear-decimal n all.0.1) (clear-later ns all.1))

clear-token : (path : List ℕ) → Numbers path → Clear (token path)
clear-token [] all = (λ e. omega (arith, e), tt)
clear-token (n ∷ ns) all = (λ e. omega (arith, e), clear-append (decimal n) (later_numbers ns) (clear-decimal n all.0.1) (clear-later ns all.1))

clear-at : (bs : List ℕ) (i : ℕ) → Clear bs → i < length bs → get_or bs i 0 ≢ 10
clear-at [] i all within = absurd (omega arith)
clear-at (b ∷ bs) zero all within = all.0
clear-at (b ∷ bs) (suc i) all within = clear-at bs i all.1 (omega arith)

no-line : (text : List ℕ) → Clear text → 0 < length text → ends_line text ≡ false
no-line text clear some = other (get_or text (length text - 1) 0 == 10) refl
  where
    other : (b : Bool) → (get_or text (length text - 1) 0 == 10) ≡ b → (nat_lt 0 (length text) && b) ≡ false
    other true e = absurd (clear-at text (length text - 1) clear (omega (arith, some)) (eqb-true (get_or text (length text - 1) 0) 10 e))
    other false e = ap (λ (b : Bool). b && false) (lt-ltb 0 (length text) some)

last-at : (xs : List ℕ) → get_or (xs ++ 10 ∷ []) (length (xs ++ 10 ∷ []) - 1) 0 ≡ 10
last-at xs = let long = length-append xs (10 ∷ []) in get_or_push xs 10 0 (length (xs ++ 10 ∷ []) - 1) (omega (arith, long))

front-taken : (xs : List ℕ) → take (length xs) (xs ++ 10 ∷ []) ≡ xs
front-taken [] = refl
front-taken (x ∷ xs) = ap (λ (ys : List ℕ). x ∷ ys) (front-taken xs)

front-of : (xs : List ℕ) → take (length (xs ++ 10 ∷ []) - 1) (xs ++ 10 ∷ []) ≡ xs
front-of xs =
    let long = length-append xs (10 ∷ []) in
    ap (λ (n : ℕ). take n (xs ++ 10 ∷ [])) (omega (arith, long)) ∙ front-taken xs

line-ends : (xs : List ℕ) → ends_line (xs ++ 10 ∷ []) ≡ true
line-ends xs =
    let long = length-append xs (10 ∷ []) in
    ap (λ (n : ℕ). nat_lt 0 (length (xs ++ 10 ∷ [])) && (n == 10)) (last-at xs) ∙ ap (λ (b : Bool). b && true) (lt-ltb 0 (length (xs ++ 10 ∷ [])) (omega (arith, long)))

-- the text of a path without its line feed is the path's token
pub body-is : (text path : List ℕ) → IsToken text path → without_feed text ≡ token path
body-is text path is = elim is.is_text [
  | inl plain ↦ subst (λ (t : List ℕ). without_feed t ≡ token path) (sym plain) (ap (λ (b : Bool). cond b (take (length (token path) - 1) (token path)) (token path)) (no-line (token path) (clear-token path (numbers-of path is.numbers)) (omega arith)))
  | inr fed ↦ subst (λ (t : List ℕ). without_feed t ≡ token path) (sym fed) (ap (λ (b : Bool). cond b (take (length (token path ++ 10 ∷ []) - 1) (token path ++ 10 ∷ [])) (token path ++ 10 ∷ [])) (line-ends (token path)) ∙ front-of (token path))
]

-- so what is scanned of it is the path
pub scanned-is : (text path : List ℕ) → IsToken text path → scanned (without_feed text) ≡ path
scanned-is text path is = ap scanned (body-is text path is) ∙ scan-token path (numbers-of path is.numbers)

-- a text whose last byte is a line feed is the rest of it, and that
last-split : (b : ℕ) (bs : List ℕ) → get_or (b ∷ bs) (length bs) 0 ≡ 10 → b ∷ bs ≡ take (length bs) (b ∷ bs) ++ 10 ∷ []
last-split b [] h = ap (λ (c : ℕ). c ∷ []) h
last-split b (c ∷ cs) h = ap (λ (ys : List ℕ). b ∷ ys) (last-split c cs h)

fed-text : (text : List ℕ) → ends_line text ≡ true → text ≡ take (length text - 1) text ++ 10 ∷ []
fed-text [] ends = absurd (cc)
fed-text (b ∷ bs) ends =
    let one : length (b ∷ bs) - 1 ≡ length bs = omega arith in
    let last : get_or (b ∷ bs) (length bs) 0 ≡ 10 = ap (λ (n : ℕ). get_or (b ∷ bs) n 0) (sym one) ∙ is-ten (get_or (b ∷ bs) (length (b ∷ bs) - 1) 0) (lt-ltb 0 (length (b ∷ bs)) (omega arith)) ends in
    last-split b bs last ∙ ap (λ (n : ℕ). take n (b ∷ bs) ++ 10 ∷ []) (sym one)
  where
    is-ten : (c : ℕ) → nat_lt 0 (length (b ∷ bs)) ≡ true → (nat_lt 0 (length (b ∷ bs)) && (c == 10)) ≡ true → c ≡ 10
    is-ten c some both = eqb-true c 10 (sym (ap (λ (x : Bool). x && (c == 10)) some) ∙ both)

-- and a text whose body is a path's token names that path
pub names-path : (text path : List ℕ) → All IsNumber path → length path ≤ most_numbers → token path ≡ without_feed text → IsToken text path
names-path text path numbers long same = record {
  numbers = numbers;
  long = long;
  is_text = by (ends_line text) refl;
}
  where
    by : (b : Bool) → ends_line text ≡ b → Rattle.std.specs.Prelude.◌⊎◌ (text ≡ token path) (text ≡ token path ++ 10 ∷ [])
    by true e = inr (fed-text text e ∙ ap (λ (t : List ℕ). t ++ 10 ∷ []) (sym (same ∙ ap (λ (b : Bool). cond b (take (length text - 1) text) text) e)))
    by false e = inl (sym (same ∙ ap (λ (b : Bool). cond b (take (length text - 1) text) text) e))

-- ---- one byte after another

pub point-ends : (path rest : List ℕ) (value byte : ℕ) → byte ≡ 46 → (path ++ value ∷ []) ++ scanned_on rest 0 ≡ path ++ scanned_on (byte ∷ rest) value
unfolding scanned_on
point-ends path rest value byte is =
    append_assoc path (value ∷ []) (scanned_on rest 0)
    ∙ ap (λ (b : Bool). path ++ cond b (value ∷ scanned_on rest 0) (scanned_on rest (with_digit value byte))) (sym (ap (λ (n : ℕ). n == 46) is))

pub digit-goes-on : (path rest : List ℕ) (value byte next : ℕ) → (byte ≡ 46 → ⊥) → next ≡ with_digit value byte → path ++ scanned_on rest next ≡ path ++ scanned_on (byte ∷ rest) value
unfolding scanned_on
digit-goes-on path rest value byte next other is =
    ap (λ (n : ℕ). path ++ scanned_on rest n) is
    ∙ ap (λ (b : Bool). path ++ cond b (value ∷ scanned_on rest 0) (scanned_on rest (with_digit value byte))) (sym (no (byte == 46) refl))
  where
    no : (b : Bool) → (byte == 46) ≡ b → (byte == 46) ≡ false
    no true e = absurd (other (eqb-true byte 46 e))
    no false e = e

pub bytes-end : (path text : List ℕ) (i value : ℕ) → length text ≤ i → path ++ scanned_on (drop i text) value ≡ scanned_on text 0 → path ++ value ∷ [] ≡ scanned_on text 0
unfolding scanned_on
bytes-end path text i value over same = ap (λ (bs : List ℕ). path ++ scanned_on bs value) (sym (drop_of_length-le text over)) ∙ same

-- ---- one number after another

pub number-next : (text more start numbers : List ℕ) (i : ℕ) → i < length numbers → more ≡ text ++ (46 ∷ [] ++ decimal (get_or numbers i 0)) →
    text ++ later_numbers (drop i numbers) ≡ start ++ later_numbers numbers → more ++ later_numbers (drop (i + 1) numbers) ≡ start ++ later_numbers numbers
unfolding later_numbers
number-next text more start numbers i within is same =
    ap (λ (t : List ℕ). t ++ later_numbers (drop (i + 1) numbers)) is
    ∙ (append_assoc text (46 ∷ [] ++ decimal (get_or numbers i 0)) (later_numbers (drop (i + 1) numbers))
    ∙ (sym (at_drop_more (λ (ns : List ℕ). text ++ later_numbers ns) numbers i 0 within) ∙ same))

pub numbers-end : (text start numbers : List ℕ) (i : ℕ) → length numbers ≤ i → text ++ later_numbers (drop i numbers) ≡ start ++ later_numbers numbers → text ≡ start ++ later_numbers numbers
unfolding later_numbers
numbers-end text start numbers i over same = sym (append-nil text) ∙ (ap (λ (ns : List ℕ). text ++ later_numbers ns) (sym (drop_of_length-le numbers over)) ∙ same)

-- ---- a path that is followed

drop-none : {A : Type 0} (n : ℕ) → ◌≡◌ {A = List A} (drop n []) []
drop-none zero = refl
drop-none (suc n) = refl

passed-suc : {A : Type 0} (path : List A) (i : ℕ) → drop (suc i) path ≡ drop 1 (drop i path)
passed-suc [] i = drop-none (suc i) ∙ sym (ap (λ (xs : List _). drop 1 xs) (drop-none i) ∙ drop-none 1)
passed-suc (x ∷ xs) zero = refl
passed-suc (x ∷ xs) (suc i) = passed-suc xs i

pub passed-one : {A : Type 0} (path : List A) (i : ℕ) → drop (i + 1) path ≡ drop 1 (drop i path)
passed-one path i = let next : i + 1 ≡ suc i = omega arith in ap (λ (n : ℕ). drop n path) next ∙ passed-suc path i
