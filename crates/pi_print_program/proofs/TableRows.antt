-- What holds of the terminal of each row of the tables holds of the terminal of each sign and of each reserved word.
use Rattle.std.proofs.Common.{◌≡◌, ℕ, List, [], ◌∷◌, Option, Some, None, unwrap_or, refl, subst, inl, inr}
use Rattle.std.proofs.lemmas.Bool.{cases_Bool}
use Rattle.std.specs.Str.{bytes_eq}
use Rattle.pi_syntax.specs.Terminals.{Terminal, Row, found_in, foreign, sign_terminal, word_terminal, constraint_rows, arithmetic_rows, relation_rows, constraint_relation_rows, punctuation_rows, operator_word_rows, block_word_rows}

abbrev pub EachRow : (Terminal → Type 0) → List Row → Type 0
EachRow P [] = Unit {0}
EachRow P (row ∷ rows) = P row.1 × EachRow P rows

each_found : (P : Terminal → Type 0) (rows : List Row) (spelling : List ℕ) (t : Terminal) → EachRow P rows → found_in rows spelling ≡ Some t → P t
each_found P [] spelling t each found = absurd (none_some found)
  where
    none_some : ◌≡◌ {A = Option Terminal} None (Some t) → ⊥
    none_some e = cc
each_found P (row ∷ rows) spelling t each found =
    elim (cases_Bool (bytes_eq spelling row.0)) [
      | inl here ↦ let same : ◌≡◌ {A = Option Terminal} (Some row.1) (Some t) = rw here at found in let e : row.1 ≡ t = cc in subst P e each.0
      | inr other ↦ each_found P rows spelling t each.1 (rw other at found)
    ]

found_or : (P : Terminal → Type 0) (o : Option Terminal) (d : Terminal) → ((t : Terminal) → o ≡ Some t → P t) → P d → P (unwrap_or o d)
found_or P None d found other = other
found_or P (Some t) d found other = found t refl

in_rows : (P : Terminal → Type 0) (rows : List Row) (spelling : List ℕ) (d : Terminal) → EachRow P rows → P d → P (unwrap_or (found_in rows spelling) d)
in_rows P rows spelling d each other = found_or P (found_in rows spelling) d (λ t found. each_found P rows spelling t each found) other

pub each_sign : (P : Terminal → Type 0) (sign : List ℕ) → EachRow P punctuation_rows → EachRow P arithmetic_rows → EachRow P relation_rows → EachRow P constraint_rows
    → EachRow P constraint_relation_rows → P foreign → P (sign_terminal sign)
unfolding sign_terminal
each_sign P sign punctuation arithmetic relations constraints constraint_relations other =
    in_rows P punctuation_rows sign _ punctuation
    (in_rows P arithmetic_rows sign _ arithmetic
    (in_rows P relation_rows sign _ relations
    (in_rows P constraint_rows sign _ constraints
    (in_rows P constraint_relation_rows sign foreign constraint_relations other))))

pub each_word : (P : Terminal → Type 0) (word : List ℕ) → EachRow P operator_word_rows → EachRow P block_word_rows → P foreign → P (word_terminal word)
unfolding word_terminal
each_word P word operators blocks other = in_rows P operator_word_rows word _ operators (in_rows P block_word_rows word foreign blocks other)
