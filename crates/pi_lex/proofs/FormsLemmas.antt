-- The forms of quoted characters and of digits are what the definition finds.
use Rattle.std.proofs.Common.{◌≡◌, ◌≢◌, ℕ, suc, ◌+◌, ◌≤◌, true, false, ◌==◌, List, [], ◌∷◌, ◌++◌, length, refl, sym, ◌∙◌, subst, arith, Option, Some, None, inl, inr}
use Rattle.std.proofs.lemmas.Bool.{cases_Bool, cases_eq}
use Rattle.std.proofs.lemmas.Bool.Decides.{nat_tests}
use Rattle.std.specs.Char.{is_digit}
use Rattle.pi_lex.specs.Forms.{Spells, nothing, plain, escape, IsDigits, last, digit, underscored, IsClosed, EndsDigits}
use Rattle.pi_syntax.specs.Tokens.{line_feed, backslash, underscore, escaped, closing_place, unescaped, digits_end, goes_on, first}

-- what is spelled is found, up to the closing quote
pub closing_place-spelled : (quote place : ℕ) (body meaning rest : List ℕ) → quote ≢ backslash → Spells quote body meaning
    → closing_place quote false place (body ++ quote ∷ rest) ≡ Some (place + length body)
closing_place-spelled quote place _ _ rest other nothing = grind (arith, nat_tests)
closing_place-spelled quote place _ _ rest other (plain {body = body} {meaning = meaning} c unquoted unbroken plain' more) =
    let here = closing_place-spelled quote (place + 1) body meaning rest other more in
    grind (arith, nat_tests)
closing_place-spelled quote place _ _ rest other (escape {body = body} {meaning = meaning} c d is more) =
    let here = closing_place-spelled quote (place + 1 + 1) body meaning rest other more in
    rw is (grind (arith, nat_tests))

pub unescaped-spelled : (quote : ℕ) (body meaning : List ℕ) → Spells quote body meaning → unescaped false body ≡ meaning
unescaped-spelled quote _ _ nothing = refl
unescaped-spelled quote _ _ (plain {body = body} {meaning = meaning} c unquoted unbroken plain' more) =
    let here = unescaped-spelled quote body meaning more in
    grind (arith, nat_tests)
unescaped-spelled quote _ _ (escape {body = body} {meaning = meaning} c d is more) =
    let here = unescaped-spelled quote body meaning more in
    rw is (grind (arith, nat_tests))

pub IsClosed-here : (quote place c : ℕ) (rest : List ℕ) (found : ℕ) → c ≡ quote → place ≡ found → IsClosed quote place (c ∷ rest) found
IsClosed-here quote place c rest found same at = (0, omega arith, nothing, same, omega arith)

pub IsClosed-plain : (quote place c : ℕ) (rest : List ℕ) (found : ℕ) → c ≢ quote → c ≢ line_feed → c ≢ backslash → IsClosed quote (place + 1) rest found
    → IsClosed quote place (c ∷ rest) found
IsClosed-plain quote place c rest found unquoted unbroken unescaped' (n, at, spells, quoted, within) =
    let other : (c == backslash) ≡ false = grind (arith, nat_tests) in
    (suc n, omega arith, rw other (plain c unquoted unbroken unescaped' spells), quoted, omega arith)

pub IsClosed-escape : (quote place c d e : ℕ) (rest : List ℕ) (found : ℕ) → c ≡ backslash → escaped d ≡ Some e → IsClosed quote (place + 1 + 1) rest found
    → IsClosed quote place (c ∷ d ∷ rest) found
IsClosed-escape quote place c d e rest found same is (n, at, spells, quoted, within) =
    let P : ℕ → Type 0 = λ x. IsClosed quote place (x ∷ d ∷ rest) found in
    subst P (sym same) (suc (suc n), omega arith, rw is (escape d e is spells), quoted, omega arith)

pub closing_place-escape : (quote place c d : ℕ) (rest : List ℕ) (found : ℕ) → c ≢ quote → c ≢ line_feed → c ≡ backslash
    → closing_place quote false place (c ∷ d ∷ rest) ≡ Some found
    → (e : ℕ) × (escaped d ≡ Some e) × (closing_place quote false (place + 1 + 1) rest ≡ Some found)
closing_place-escape quote place c d rest found unquoted unbroken same is =
    let behind : closing_place quote true (place + 1) (d ∷ rest) ≡ Some found = grind (arith, nat_tests) in
    go (escaped d) refl behind
  where
    go : (o : Option ℕ) → escaped d ≡ o → closing_place quote true (place + 1) (d ∷ rest) ≡ Some found
        → (e : ℕ) × (escaped d ≡ Some e) × (closing_place quote false (place + 1 + 1) rest ≡ Some found)
    go None none h = let never = rw none at h in cc
    go (Some e) meant h = (e, meant, rw meant at h)

pub closing_place-is_spelled : (quote place : ℕ) (text : List ℕ) (found : ℕ) → closing_place quote false place text ≡ Some found → IsClosed quote place text found
closing_place-is_spelled quote place [] found is = cc
closing_place-is_spelled quote place (c ∷ []) found is =
    elim (cases_eq c quote) [
      | inl same ↦ IsClosed-here quote place c [] found same (grind (arith, nat_tests))
      | inr unquoted ↦ absurd (grind (arith, nat_tests))
    ]
closing_place-is_spelled quote place (c ∷ d ∷ rest) found is =
    elim (cases_eq c quote) [
      | inl same ↦ IsClosed-here quote place c (d ∷ rest) found same (grind (arith, nat_tests))
      | inr unquoted ↦ elim (cases_eq c line_feed) [
        | inl broken ↦ absurd (grind (arith, nat_tests))
        | inr unbroken ↦ elim (cases_eq c backslash) [
          | inl same ↦
              let (e, meant, behind) = closing_place-escape quote place c d rest found unquoted unbroken same is in
              IsClosed-escape quote place c d e rest found same meant (closing_place-is_spelled quote (place + 1 + 1) rest found behind)
          | inr other ↦
              let behind : closing_place quote false (place + 1) (d ∷ rest) ≡ Some found = grind (arith, nat_tests) in
              IsClosed-plain quote place c (d ∷ rest) found unquoted unbroken other (closing_place-is_spelled quote (place + 1) (d ∷ rest) found behind)
        ]
      ]
    ]

-- digits

pub digits_end-stops : (radix place : ℕ) (rest : List ℕ) → goes_on radix rest ≡ false → digits_end radix place rest ≡ place
digits_end-stops radix place [] stops = refl
digits_end-stops radix place (c ∷ rest) stops = rw stops

pub IsDigits-first : (radix : ℕ) (digits rest : List ℕ) → IsDigits radix digits → is_digit (first (digits ++ rest)) radix ≡ true
IsDigits-first radix _ rest (last c is) = is
IsDigits-first radix _ rest (digit {digits = digits} c is more) = is
IsDigits-first radix _ rest (underscored {digits = digits} c is more) = is

pub digits_end-digits : (radix place : ℕ) (digits rest : List ℕ) → IsDigits radix digits → goes_on radix rest ≡ false
    → digits_end radix place (digits ++ rest) ≡ place + length digits
digits_end-digits radix place _ rest (last c is) stops = rw is (digits_end-stops radix (place + 1) rest stops)
digits_end-digits radix place _ rest (digit {digits = digits} c is more) stops =
    rw is (digits_end-digits radix (place + 1) digits rest more stops ∙ omega arith)
digits_end-digits radix place _ rest (underscored {digits = digits} c is more) stops =
    let on : goes_on radix (underscore ∷ (digits ++ rest)) ≡ true = rw (IsDigits-first radix digits rest more) (grind (arith, nat_tests)) in
    rw is (rw on (digits_end-digits radix (place + 1 + 1) digits rest more stops ∙ omega arith))

pub EndsDigits-last : (radix place c : ℕ) (rest : List ℕ) → is_digit c radix ≡ true → goes_on radix rest ≡ false
    → EndsDigits radix place (c ∷ rest) (digits_end radix (place + 1) rest)
EndsDigits-last radix place c rest is stops =
    rw (digits_end-stops radix (place + 1) rest stops) (1, refl, last c is, stops, omega arith)

pub EndsDigits-digit : (radix place c : ℕ) (rest : List ℕ) (found : ℕ) → is_digit c radix ≡ true → EndsDigits radix (place + 1) rest found
    → EndsDigits radix place (c ∷ rest) found
EndsDigits-digit radix place c rest found is (n, at, digits, stops, within) = (suc n, omega arith, digit c is digits, stops, omega arith)

pub EndsDigits-underscored : (radix place c d : ℕ) (rest : List ℕ) (found : ℕ) → is_digit c radix ≡ true → d ≡ underscore
    → EndsDigits radix (place + 1 + 1) rest found → EndsDigits radix place (c ∷ d ∷ rest) found
EndsDigits-underscored radix place c d rest found is same (n, at, digits, stops, within) =
    let P : ℕ → Type 0 = λ x. EndsDigits radix place (c ∷ x ∷ rest) found in
    subst P (sym same) (suc (suc n), omega arith, underscored c is digits, stops, omega arith)

pub goes_on-underscore : (radix d : ℕ) (rest : List ℕ) → goes_on radix (d ∷ rest) ≡ true → is_digit d radix ≡ false
    → (d ≡ underscore) × (is_digit (first rest) radix ≡ true)
goes_on-underscore radix d rest more other = (grind (arith, nat_tests), grind (arith, nat_tests))

pub digits_end-is_digits : (radix place : ℕ) (text : List ℕ) → radix ≤ 36 → is_digit (first text) radix ≡ true
    → EndsDigits radix place text (digits_end radix place text)
digits_end-is_digits radix place [] small is = absurd (grind (arith, nat_tests))
digits_end-is_digits radix place (c ∷ []) small is = rw is (EndsDigits-last radix place c [] is (grind (arith, nat_tests)))
digits_end-is_digits radix place (c ∷ d ∷ rest) small is =
    rw is (elim (cases_Bool (goes_on radix (d ∷ rest))) [
      | inr stops ↦ EndsDigits-last radix place c (d ∷ rest) is stops
      | inl more ↦ elim (cases_Bool (is_digit d radix)) [
        | inl next ↦ EndsDigits-digit radix place c (d ∷ rest) _ is (digits_end-is_digits radix (place + 1) (d ∷ rest) small next)
        | inr other ↦
            let (same, next) = goes_on-underscore radix d rest more other in
            rw more (EndsDigits-underscored radix place c d rest _ is same (digits_end-is_digits radix (place + 1 + 1) rest small next))
      ]
    ])

-- the two laws, at any place
pub quoted_all : (quote place : ℕ) (body meaning rest : List ℕ) → quote ≢ backslash → Spells quote body meaning
    → (closing_place quote false place (body ++ quote ∷ rest) ≡ Some (place + length body)) × (unescaped false body ≡ meaning)
quoted_all quote place body meaning rest other spells =
    (closing_place-spelled quote place body meaning rest other spells, unescaped-spelled quote body meaning spells)
