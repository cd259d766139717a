-- The tokens of quoted atoms and of texts, with the escapes that the canonical text has.
use Rattle.std.proofs.Common.{◌≡◌, ◌≢◌, ℕ, ◌+◌, ◌-◌, ◌==◌, true, false, List, [], ◌∷◌, ◌++◌, take, length, Some, refl, sym, ap, subst, ◌∙◌, arith, append_assoc, encode_utf8_all, flat_map, if◌then◌else◌, inl, inr, length-append, append-nil}
use Rattle.std.proofs.lemmas.Bool.{cases_Bool, and_parts, eqb-true}
use Rattle.std.proofs.lemmas.Bool.Decides.{nat_tests}
use Rattle.std.proofs.lemmas.List.{take_at}
use Rattle.std.proofs.lemmas.Str.{encodes-append}
use lib.Utf8.{scalar, scalars, encode}
use Rattle.pi_lex.specs.Forms.{Spells, nothing, plain, escape}
use Rattle.pi_lex.proofs.FormsLemmas.{closing_place-spelled, unescaped-spelled}
use Rattle.pi_syntax.specs.PrintAtom.{in_quotes}
use Rattle.pi_print_program.specs.Texts.{in_double_quotes}
use Rattle.pi_syntax.specs.Tokens.{Token, Lexeme, item_at, Atom, Str, quoted, closing_place, unescaped, meant, escaped, backslash}
use Rattle.pi_print_program.proofs.Says.{Says, item_some, says-token, scalars-append, Any}

-- a character between quotes of this kind
abbrev pub written : ℕ → ℕ → List ℕ
written quote c =
    if c == 92 then 92 ∷ 92 ∷ []
    else if c == quote then 92 ∷ quote ∷ []
    else if c == 10 then 92 ∷ 110 ∷ []
    else if c == 9 then 92 ∷ 116 ∷ []
    else c ∷ []

abbrev pub all_written : ℕ → List ℕ → List ℕ
all_written quote [] = []
all_written quote (c ∷ cs) = written quote c ++ all_written quote cs

neq : (a b : ℕ) → (a == b) ≡ false → a ≢ b
neq a b apart = grind (arith, nat_tests)

-- one more character is spelled
spells-one : (quote c : ℕ) (body cs : List ℕ) → escaped quote ≡ Some quote → Spells quote body cs → Spells quote (written quote c ++ body) (c ∷ cs)
spells-one quote c body cs is spells =
    elim (cases_Bool (c == 92)) [
      | inl here ↦ rw (here, eqb-true c 92 here) (escape 92 92 refl spells)
      | inr one ↦ elim (cases_Bool (c == quote)) [
        | inl here ↦ rw (one, here, eqb-true c quote here) (escape quote quote is spells)
        | inr two ↦ elim (cases_Bool (c == 10)) [
          | inl here ↦ rw (one, two, here) (subst (λ (d : ℕ). Spells quote (92 ∷ 110 ∷ body) (d ∷ cs)) (sym (eqb-true c 10 here)) (escape 110 10 refl spells))
          | inr three ↦ elim (cases_Bool (c == 9)) [
            | inl here ↦ rw (one, two, three, here) (subst (λ (d : ℕ). Spells quote (92 ∷ 116 ∷ body) (d ∷ cs)) (sym (eqb-true c 9 here)) (escape 116 9 refl spells))
            | inr four ↦ rw (one, two, three, four) (plain c (neq c quote two) (neq c 10 three) (neq c 92 one) spells)
          ]
        ]
      ]
    ]

spells-all : (quote : ℕ) (cs : List ℕ) → escaped quote ≡ Some quote → Spells quote (all_written quote cs) cs
spells-all quote [] is = nothing
spells-all quote (c ∷ cs) is = spells-one quote c (all_written quote cs) cs is (spells-all quote cs is)

-- its bytes, where each character comes to these
bytes-all : (quote : ℕ) (of : ℕ → List ℕ) (cs : List ℕ) → ((c : ℕ) → encode_utf8_all (written quote c) ≡ of c) → encode_utf8_all (all_written quote cs) ≡ flat_map of cs
bytes-all quote of [] each = refl
bytes-all quote of (c ∷ cs) each = encodes-append (written quote c) (all_written quote cs) ∙ ap (λ l. l ++ encode_utf8_all (all_written quote cs)) (each c) ∙ ap (λ l. of c ++ l) (bytes-all quote of cs each)

single_bytes : (c : ℕ) → encode_utf8_all (written 39 c) ≡ in_quotes c
unfolding encode
single_bytes c =
    elim (cases_Bool (c == 92)) [
      | inl here ↦ rw here refl
      | inr one ↦ elim (cases_Bool (c == 39)) [
        | inl here ↦ rw (one, here) refl
        | inr two ↦ elim (cases_Bool (c == 10)) [
          | inl here ↦ rw (one, two, here) refl
          | inr three ↦ elim (cases_Bool (c == 9)) [
            | inl here ↦ rw (one, two, three, here) refl
            | inr four ↦ rw (one, two, three, four) (alone c)
          ]
        ]
      ]
    ]
  where
    alone : (d : ℕ) → encode_utf8_all (d ∷ []) ≡ encode d
    alone d = append-nil (encode d)

double_bytes : (c : ℕ) → encode_utf8_all (written 34 c) ≡ in_double_quotes c
unfolding encode
double_bytes c =
    elim (cases_Bool (c == 92)) [
      | inl here ↦ rw here refl
      | inr one ↦ elim (cases_Bool (c == 34)) [
        | inl here ↦ rw (one, here) refl
        | inr two ↦ elim (cases_Bool (c == 10)) [
          | inl here ↦ rw (one, two, here) refl
          | inr three ↦ elim (cases_Bool (c == 9)) [
            | inl here ↦ rw (one, two, three, here) refl
            | inr four ↦ rw (one, two, three, four) (alone c)
          ]
        ]
      ]
    ]
  where
    alone : (d : ℕ) → encode_utf8_all (d ∷ []) ≡ encode d
    alone d = append-nil (encode d)

scalars-one : (quote c : ℕ) → scalar quote ≡ true → scalar c ≡ true → scalars (written quote c) ≡ true
scalars-one quote c kind is =
    elim (cases_Bool (c == 92)) [
      | inl here ↦ rw here refl
      | inr one ↦ elim (cases_Bool (c == quote)) [
        | inl here ↦ rw (one, here, kind) refl
        | inr two ↦ elim (cases_Bool (c == 10)) [
          | inl here ↦ rw (one, two, here) refl
          | inr three ↦ elim (cases_Bool (c == 9)) [
            | inl here ↦ rw (one, two, three, here) refl
            | inr four ↦ rw (one, two, three, four, is) refl
          ]
        ]
      ]
    ]

scalars-all : (quote : ℕ) (cs : List ℕ) → scalar quote ≡ true → scalars cs ≡ true → scalars (all_written quote cs) ≡ true
scalars-all quote [] kind valid = refl
scalars-all quote (c ∷ cs) kind valid =
    let (here, rest) = and_parts (scalar c) (scalars cs) valid in
    scalars-append (written quote c) (all_written quote cs) (scalars-one quote c kind here) (scalars-all quote cs kind rest)

-- what stands between two quotes, with both
abbrev pub between : ℕ → List ℕ → List ℕ
between quote cs = quote ∷ (all_written quote cs ++ quote ∷ [])

meaning : (body more cs : List ℕ) (n : ℕ) → n ≡ 1 + length body → unescaped false body ≡ cs → meant n (39 ∷ (body ++ more)) ≡ encode_utf8_all cs
meaning body more cs n at is =
    let back : n - 1 ≡ length body = omega arith in
    rw (back, take_at body more (length body) refl) (ap encode_utf8_all is)

quoted_whole : (kind : List ℕ → Token) (quote : ℕ) (cs more : List ℕ) → escaped quote ≡ Some quote → quote ≢ backslash
    → quoted kind (between quote cs ++ more) ≡ Lexeme (kind (encode_utf8_all cs)) (length (between quote cs))
unfolding quoted
quoted_whole kind quote cs more is other =
    let body = all_written quote cs in
    let spells = spells-all quote cs is in
    let same : (body ++ quote ∷ []) ++ more ≡ body ++ quote ∷ more = append_assoc body (quote ∷ []) more in
    let closed : closing_place quote false 1 ((body ++ quote ∷ []) ++ more) ≡ Some (1 + length body) = ap (closing_place quote false 1) same ∙ closing_place-spelled quote 1 body cs more other spells in
    let means : meant (1 + length body) (between quote cs ++ more) ≡ encode_utf8_all cs =
    ap (λ (l : List ℕ). encode_utf8_all (unescaped false (take (1 + length body - 1) l))) same ∙ meaning body (quote ∷ more) cs (1 + length body) refl (unescaped-spelled quote body cs spells) in
    let long : 1 + length body + 1 ≡ length (between quote cs) = omega (arith, length-append body (quote ∷ [])) in
    rw (closed, means, long) refl

pub atom_token : (cs more : List ℕ) → item_at (between 39 cs ++ more) ≡ Lexeme (Atom (encode_utf8_all cs)) (length (between 39 cs))
atom_token cs more = item_some _ _ ∙ quoted_whole Atom 39 cs more refl (neq 39 92 refl)

pub text_token : (cs more : List ℕ) → item_at (between 34 cs ++ more) ≡ Lexeme (Str (encode_utf8_all cs)) (length (between 34 cs))
text_token cs more = item_some _ _ ∙ quoted_whole Str 34 cs more refl (neq 34 92 refl)

bytes-between : (quote : ℕ) (of : ℕ → List ℕ) (cs : List ℕ) → encode quote ≡ quote ∷ [] → ((c : ℕ) → encode_utf8_all (written quote c) ≡ of c)
    → encode_utf8_all (between quote cs) ≡ quote ∷ (flat_map of cs ++ quote ∷ [])
bytes-between quote of cs same each =
    let alone : encode_utf8_all (quote ∷ []) ≡ quote ∷ [] = rw same refl in
    ap (λ l. l ++ encode_utf8_all (all_written quote cs ++ quote ∷ [])) same
    ∙ ap (λ l. quote ∷ l) (encodes-append (all_written quote cs) (quote ∷ []) ∙ ap (λ l. l ++ encode_utf8_all (quote ∷ [])) (bytes-all quote of cs each) ∙ ap (λ l. flat_map of cs ++ l) alone)

scalars-between : (quote : ℕ) (cs : List ℕ) → scalar quote ≡ true → scalars cs ≡ true → scalars (between quote cs) ≡ true
scalars-between quote cs kind valid =
    let alone : scalars (quote ∷ []) ≡ true = rw kind refl in
    rw kind (scalars-append (all_written quote cs) (quote ∷ []) (scalars-all quote cs kind valid) alone)

pub says-quoted : (cs : List ℕ) → scalars cs ≡ true
    → Says (39 ∷ (flat_map in_quotes cs ++ 39 ∷ [])) (λ m. between 39 cs ++ m) (λ u. Atom (encode_utf8_all cs) ∷ u) Any
unfolding encode
says-quoted cs valid = says-token _ (between 39 cs) _ Any (bytes-between 39 in_quotes cs refl single_bytes) (scalars-between 39 cs refl valid) refl (λ more h. atom_token cs more)

pub says-text : (cs : List ℕ) → scalars cs ≡ true
    → Says (34 ∷ (flat_map in_double_quotes cs ++ 34 ∷ [])) (λ m. between 34 cs ++ m) (λ u. Str (encode_utf8_all cs) ∷ u) Any
unfolding encode
says-text cs valid = says-token _ (between 34 cs) _ Any (bytes-between 34 in_double_quotes cs refl double_bytes) (scalars-between 34 cs refl valid) refl (λ more h. text_token cs more)
