-- Tokens that have an expression close as many brackets as they open.
use Rattle.std.proofs.Common.{◌≡◌, ℕ, ◌+◌, Bool, true, false, List, [], ◌∷◌, map, codes, refl, sym, subst, inl, inr, arith, unwrap_or}
use Rattle.std.specs.Prelude.{count_by, cond}
use Rattle.std.specs.Str.{bytes_eq}
use Rattle.std.proofs.lemmas.Bool.{cases_Bool}
use Rattle.std.proofs.lemmas.List.Sums.{sum_by-cons}
use Rattle.std.proofs.lemmas.Slice.Eq.{bytes_eq-Decides}
use Rattle.pi_syntax.specs.Crowding.{is_opening, is_closing}
use Rattle.pi_syntax.specs.ExpTree.{ExpTree, ExpTrees, ExpBranches}
use Rattle.pi_syntax.specs.Tokens.{Token, Var, Atom, Word, Int, Str, Sign, End}
use Rattle.pi_syntax.specs.Terminals.{Line, Terminal, Row, found_in, sign_terminal, word_terminal, terminal, arithmetic_rows, relation_rows, constraint_rows, constraint_relation_rows, operator_word_rows, block_word_rows, open_paren, close_paren, open_bracket, close_bracket, open_brace, close_brace, comma, semicolon, arrow, bar, colon, dot, dollar, at, foreign}
use Rattle.pi_syntax.specs.Grammar.{HasExp, Phrase, Joins, a_joint, a_plus, a_minus, Reads, branches, no_arrow, an_arrow, conjuncts, signed_goal, plain_unit, joined, negative, positive, unrelated, related, no_range, a_range, a_stepped_range, with_plus, with_minus, with_complement, unsigned, no_power, a_power, postfixes, a_variable, a_pattern, an_integer, an_atom, a_call, a_text, no_list, a_list, a_list_onto, a_list_of, no_array, an_array, an_array_of, in_parens, a_structure, a_term, an_if, an_if_else, a_foreach, a_while, a_do_while, Branches, last_branch, more_branches, Units, last_unit, more_units, Joined, no_more, join, Postfixes, no_postfix, an_index, a_dot, a_dot_call, Arguments, no_arguments, arguments, Choices, last_choice, more_choices}
use Rattle.pi_expr.specs.Crowds.{one_if}

-- how many brackets a terminal opens and closes

abbrev opens : Terminal → ℕ
opens open_paren = 1
opens open_bracket = 1
opens open_brace = 1
opens t = 0

abbrev closes : Terminal → ℕ
closes close_paren = 1
closes close_bracket = 1
closes close_brace = 1
closes t = 0

abbrev opened : List Terminal → ℕ
opened [] = 0
opened (t ∷ ts) = opens t + opened ts

abbrev closed : List Terminal → ℕ
closed [] = 0
closed (t ∷ ts) = closes t + closed ts

-- what is read before the rest is balanced
abbrev IsBalanced : List Terminal → List Terminal → Type 0
IsBalanced ts rest = opened ts + closed rest ≡ closed ts + opened rest

joint-opens : {l : Line} {t : Terminal} {name : List ℕ} → Joins l t name → opens t ≡ closes t
joint-opens a_joint = refl
joint-opens a_plus = refl
joint-opens a_minus = refl

mutual
  of_phrase : {k : Phrase} {ts rest : List Terminal} {e : ExpTree} → Reads k ts e rest → IsBalanced ts rest
  of_phrase (branches r) = of_branches r
  of_phrase (no_arrow r) = of_phrase r
  of_phrase (an_arrow r s) = omega (arith, of_phrase r, of_phrase s)
  of_phrase (conjuncts r) = of_units r
  of_phrase (signed_goal r) = omega (arith, of_phrase r)
  of_phrase (plain_unit r) = of_phrase r
  of_phrase (joined r s) = omega (arith, of_phrase r, of_joined s)
  of_phrase (negative r) = omega (arith, of_phrase r)
  of_phrase (positive r) = of_phrase r
  of_phrase (unrelated r) = of_phrase r
  of_phrase (related r s) = omega (arith, of_phrase r, of_phrase s)
  of_phrase (no_range r) = of_phrase r
  of_phrase (a_range r s) = omega (arith, of_phrase r, of_phrase s)
  of_phrase (a_stepped_range r s q) = omega (arith, of_phrase r, of_phrase s, of_phrase q)
  of_phrase (with_plus r) = omega (arith, of_phrase r)
  of_phrase (with_minus r) = omega (arith, of_phrase r)
  of_phrase (with_complement r) = omega (arith, of_phrase r)
  of_phrase (unsigned r) = of_phrase r
  of_phrase (no_power r) = of_phrase r
  of_phrase (a_power r s) = omega (arith, of_phrase r, of_phrase s)
  of_phrase (postfixes r s) = omega (arith, of_phrase r, of_postfixes s)
  of_phrase a_variable = omega arith
  of_phrase (a_pattern r) = omega (arith, of_phrase r)
  of_phrase an_integer = omega arith
  of_phrase an_atom = omega arith
  of_phrase (a_call r) = omega (arith, of_arguments r)
  of_phrase a_text = omega arith
  of_phrase no_list = omega arith
  of_phrase (a_list r) = omega (arith, of_units r)
  of_phrase (a_list_onto r s) = omega (arith, of_units r, of_phrase s)
  of_phrase (a_list_of r s) = omega (arith, of_phrase r, of_units s)
  of_phrase no_array = omega arith
  of_phrase (an_array r) = omega (arith, of_units r)
  of_phrase (an_array_of r s) = omega (arith, of_phrase r, of_units s)
  of_phrase (in_parens r) = omega (arith, of_phrase r)
  of_phrase (a_structure r) = omega (arith, of_arguments r)
  of_phrase (a_term r) = omega (arith, of_phrase r)
  of_phrase (an_if r) = omega (arith, of_choices r)
  of_phrase (an_if_else r s) = omega (arith, of_choices r, of_phrase s)
  of_phrase (a_foreach r s) = omega (arith, of_units r, of_phrase s)
  of_phrase (a_while r s) = omega (arith, of_phrase r, of_phrase s)
  of_phrase (a_do_while r s) = omega (arith, of_phrase r, of_phrase s)

  of_branches : {ts rest : List Terminal} {es : ExpTrees} → Branches ts es rest → IsBalanced ts rest
  of_branches (last_branch r) = of_phrase r
  of_branches (more_branches r s) = omega (arith, of_phrase r, of_branches s)

  of_units : {ts rest : List Terminal} {es : ExpTrees} → Units ts es rest → IsBalanced ts rest
  of_units (last_unit r) = of_phrase r
  of_units (more_units r s) = omega (arith, of_phrase r, of_units s)

  of_joined : {l : Line} {a e : ExpTree} {ts rest : List Terminal} → Joined l a ts e rest → IsBalanced ts rest
  of_joined no_more = omega arith
  of_joined (join j r s) = omega (arith, joint-opens j, of_phrase r, of_joined s)

  of_postfixes : {b : Bool} {a e : ExpTree} {ts rest : List Terminal} → Postfixes b a ts e rest → IsBalanced ts rest
  of_postfixes no_postfix = omega arith
  of_postfixes (an_index r s) = omega (arith, of_units r, of_postfixes s)
  of_postfixes (a_dot h s) = omega (arith, of_postfixes s)
  of_postfixes (a_dot_call h r s) = omega (arith, of_arguments r, of_postfixes s)

  of_arguments : {ts rest : List Terminal} {es : ExpTrees} → Arguments ts es rest → IsBalanced ts rest
  of_arguments no_arguments = omega arith
  of_arguments (arguments r) = omega (arith, of_units r)

  of_choices : {ts rest : List Terminal} {bs : ExpBranches} → Choices ts bs rest → IsBalanced ts rest
  of_choices (last_choice r s) = omega (arith, of_phrase r, of_phrase s)
  of_choices (more_choices r s q) = omega (arith, of_phrase r, of_phrase s, of_choices q)

-- ---- tokens and their terminals

abbrev is_bracket : Terminal → Bool
is_bracket open_paren = true
is_bracket open_bracket = true
is_bracket open_brace = true
is_bracket close_paren = true
is_bracket close_bracket = true
is_bracket close_brace = true
is_bracket t = false

no_bracket : (t : Terminal) → is_bracket t ≡ false → (opens t ≡ 0) × (closes t ≡ 0)
no_bracket open_paren h = absurd (cc)
no_bracket open_bracket h = absurd (cc)
no_bracket open_brace h = absurd (cc)
no_bracket close_paren h = absurd (cc)
no_bracket close_bracket h = absurd (cc)
no_bracket close_brace h = absurd (cc)
no_bracket t h = (refl, refl)

-- a table without brackets
abbrev is_plain : List Row → Bool
is_plain [] = true
is_plain (row ∷ rows) = cond (is_bracket row.1) false (is_plain rows)

plain_first : (a b : Bool) → cond a false b ≡ true → (a ≡ false) × (b ≡ true)
plain_first true b h = absurd (cc)
plain_first false b h = (refl, h)

plain_found : (rows : List Row) (s : List ℕ) (d : Terminal) → is_plain rows ≡ true → is_bracket d ≡ false → is_bracket (unwrap_or (found_in rows s) d) ≡ false
plain_found [] s d plain h = h
plain_found (row ∷ rows) s d plain h =
    let parts = plain_first (is_bracket row.1) (is_plain rows) plain in
    elim (cases_Bool (bytes_eq s row.0)) [
      | inl here ↦ rw here parts.0
      | inr later ↦ rw later (plain_found rows s d parts.1 h)
    ]

-- the rows behind those of brackets
abbrev other_rows : List Row
other_rows =
    (codes ",", comma) ∷ (codes ";", semicolon) ∷ (codes "->", arrow)
    ∷ (codes "|", bar) ∷ (codes ":", colon) ∷ (codes ".", dot) ∷ (codes "$", dollar) ∷ (codes "@", at) ∷ []

data Spelling : List ℕ → Type 0 where
  is_open_paren : Spelling (codes "(")
  is_close_paren : Spelling (codes ")")
  is_open_bracket : Spelling (codes "[")
  is_close_bracket : Spelling (codes "]")
  is_open_brace : Spelling (codes "{")
  is_close_brace : Spelling (codes "}")
  is_other : {s : List ℕ} → bytes_eq s (codes "(") ≡ false → bytes_eq s (codes ")") ≡ false → bytes_eq s (codes "[") ≡ false → bytes_eq s (codes "]") ≡ false
      → bytes_eq s (codes "{") ≡ false → bytes_eq s (codes "}") ≡ false → Spelling s

spelled_as : (s t : List ℕ) → bytes_eq s t ≡ true → Spelling t → Spelling s
spelled_as s t h x = subst Spelling (sym ((bytes_eq-Decides s t).0 h)) x

spelling : (s : List ℕ) → Spelling s
spelling s =
    elim (cases_Bool (bytes_eq s (codes "("))) [
      | inl h ↦ spelled_as s (codes "(") h is_open_paren
      | inr a ↦ elim (cases_Bool (bytes_eq s (codes ")"))) [
        | inl h ↦ spelled_as s (codes ")") h is_close_paren
        | inr b ↦ elim (cases_Bool (bytes_eq s (codes "["))) [
          | inl h ↦ spelled_as s (codes "[") h is_open_bracket
          | inr c ↦ elim (cases_Bool (bytes_eq s (codes "]"))) [
            | inl h ↦ spelled_as s (codes "]") h is_close_bracket
            | inr d ↦ elim (cases_Bool (bytes_eq s (codes "{"))) [
              | inl h ↦ spelled_as s (codes "{") h is_open_brace
              | inr e ↦ elim (cases_Bool (bytes_eq s (codes "}"))) [
                | inl h ↦ spelled_as s (codes "}") h is_close_brace
                | inr f ↦ is_other a b c d e f
              ]
            ]
          ]
        ]
      ]
    ]

plain_sign : (s : List ℕ) → is_bracket (unwrap_or (found_in other_rows s) (unwrap_or (found_in arithmetic_rows s) (unwrap_or (found_in relation_rows s) (unwrap_or (found_in constraint_rows s) (unwrap_or (found_in constraint_relation_rows s) foreign))))) ≡ false
plain_sign s =
    plain_found other_rows s _ refl (plain_found arithmetic_rows s _ refl (plain_found relation_rows s _ refl (plain_found constraint_rows s _ refl (plain_found constraint_relation_rows s foreign refl refl))))

plain_word : (s : List ℕ) → is_bracket (word_terminal s) ≡ false
unfolding word_terminal
plain_word s = plain_found operator_word_rows s _ refl (plain_found block_word_rows s foreign refl refl)

opening_sign : {s : List ℕ} → Spelling s → one_if (is_opening (Sign s)) ≡ opens (sign_terminal s)
unfolding is_opening sign_terminal
opening_sign is_open_paren = refl
opening_sign is_close_paren = refl
opening_sign is_open_bracket = refl
opening_sign is_close_bracket = refl
opening_sign is_open_brace = refl
opening_sign is_close_brace = refl
opening_sign (is_other {s} a b c d e f) = rw (a, b, c, d, e, f) (sym (no_bracket _ (plain_sign s)).0)

closing_sign : {s : List ℕ} → Spelling s → one_if (is_closing (Sign s)) ≡ closes (sign_terminal s)
unfolding is_closing sign_terminal
closing_sign is_open_paren = refl
closing_sign is_close_paren = refl
closing_sign is_open_bracket = refl
closing_sign is_close_bracket = refl
closing_sign is_open_brace = refl
closing_sign is_close_brace = refl
closing_sign (is_other {s} a b c d e f) = rw (a, b, c, d, e, f) (sym (no_bracket _ (plain_sign s)).1)

opening_token : (t : Token) → one_if (is_opening t) ≡ opens (terminal t)
unfolding is_opening
opening_token (Var name) = refl
opening_token (Atom name) = refl
opening_token (Word word) = sym (no_bracket (word_terminal word) (plain_word word)).0
opening_token (Int n) = refl
opening_token (Str text) = refl
opening_token (Sign s) = opening_sign (spelling s)
opening_token End = refl

closing_token : (t : Token) → one_if (is_closing t) ≡ closes (terminal t)
unfolding is_closing
closing_token (Var name) = refl
closing_token (Atom name) = refl
closing_token (Word word) = sym (no_bracket (word_terminal word) (plain_word word)).1
closing_token (Int n) = refl
closing_token (Str text) = refl
closing_token (Sign s) = closing_sign (spelling s)
closing_token End = refl

pub count_step : (p : Token → Bool) (t : Token) (ts : List Token) → count_by p (t ∷ ts) ≡ one_if (p t) + count_by p ts
count_step p t ts = sum_by-cons (λ x. cond (p x) 1 0) t ts

openings : (ts : List Token) → count_by is_opening ts ≡ opened (map terminal ts)
openings [] = refl
openings (t ∷ ts) = omega (arith, count_step is_opening t ts, opening_token t, openings ts)

closings : (ts : List Token) → count_by is_closing ts ≡ closed (map terminal ts)
closings [] = refl
closings (t ∷ ts) = omega (arith, count_step is_closing t ts, closing_token t, closings ts)

pub exp_balances : (ts : List Token) (e : ExpTree) → HasExp ts e → count_by is_closing ts ≡ count_by is_opening ts
exp_balances ts e h = omega (arith, openings ts, closings ts, of_phrase h)
