-- Names in UTF-8 are in the order of their code points.
use Rattle.std.proofs.Common.{◌≡◌, ℕ, ◌+◌, ◌/◌, ◌%◌, ◌<◌, ◌≤◌, List, [], ◌∷◌, ◌++◌, nat_lt, refl, ap, sym, ◌∙◌, inl, inr, arith}
use Rattle.std.proofs.lemmas.Bool.{cases_Bool, cases_lt, ltb-true, ltb-false}
use Rattle.std.specs.Cmp.{nat_cmp_is}
use Rattle.std.specs.Ordering.{nat_cmp, ordering_then}
use Rattle.std.specs.declared.cmp.Ordering.{Ordering}
use Rattle.std.specs.declared.cmp.Ordering.TheVariants.{Less, Equal, Greater}
use lib.Utf8.{encode}
use Rattle.pi_terms.specs.Order.{name_order, NamesByCodePoints}

less : (a b : ℕ) → a < b → nat_cmp a b ≡ Less
less a b h = sym (nat_cmp_is a b Less h)

more : (a b : ℕ) → b < a → nat_cmp a b ≡ Greater
more a b h = sym (nat_cmp_is a b Greater h)

same : (a b : ℕ) → a ≡ b → nat_cmp a b ≡ Equal
same a b h = sym (nat_cmp_is a b Equal h)

both_less : (a b c d : ℕ) (r s : Ordering) → a < b → c < d → ordering_then (nat_cmp a b) r ≡ ordering_then (nat_cmp c d) s
both_less a b c d r s h k = rw (less a b h, less c d k) refl

both_more : (a b c d : ℕ) (r s : Ordering) → b < a → d < c → ordering_then (nat_cmp a b) r ≡ ordering_then (nat_cmp c d) s
both_more a b c d r s h k = rw (more a b h, more c d k) refl

-- two digits in base 64, each with what its byte adds
digit : (a b c d : ℕ) (r : Ordering) → ordering_then (nat_cmp (a + c / 64) (a + d / 64)) (ordering_then (nat_cmp (b + c % 64) (b + d % 64)) r) ≡ ordering_then (nat_cmp c d) r
digit a b c d r = elim (cases_lt (c / 64) (d / 64)) [
  | inl h ↦ both_less (a + c / 64) (a + d / 64) c d _ r (omega arith) (omega arith)
  | inr h ↦ elim (cases_lt (d / 64) (c / 64)) [
    | inl k ↦ both_more (a + c / 64) (a + d / 64) c d _ r (omega arith) (omega arith)
    | inr k ↦ ap (λ o. ordering_then o (ordering_then (nat_cmp (b + c % 64) (b + d % 64)) r)) (same (a + c / 64) (a + d / 64) (omega arith)) ∙ last_digit b c d r (omega arith)
  ]
]
  where
    last_digit : (b c d : ℕ) (r : Ordering) → c / 64 ≡ d / 64 → ordering_then (nat_cmp (b + c % 64) (b + d % 64)) r ≡ ordering_then (nat_cmp c d) r
    last_digit b c d r e = elim (cases_lt c d) [
      | inl h ↦ both_less (b + c % 64) (b + d % 64) c d r r (omega arith) h
      | inr h ↦ elim (cases_lt d c) [
        | inl k ↦ both_more (b + c % 64) (b + d % 64) c d r r (omega arith) k
        | inr k ↦ rw (same (b + c % 64) (b + d % 64) (omega arith), same c d (omega arith)) refl
      ]
    ]

digit_alone : (c d : ℕ) (r : Ordering) → ordering_then (nat_cmp (c / 64) (d / 64)) (ordering_then (nat_cmp (128 + c % 64) (128 + d % 64)) r) ≡ ordering_then (nat_cmp c d) r
digit_alone c d r =
    let rest : Ordering = ordering_then (nat_cmp (128 + c % 64) (128 + d % 64)) r in
    let first : c / 64 ≡ 0 + c / 64 = omega arith in
    let second : d / 64 ≡ 0 + d / 64 = omega arith in
    ap (λ x. ordering_then (nat_cmp x (d / 64)) rest) first ∙ (ap (λ y. ordering_then (nat_cmp (0 + c / 64) y) rest) second ∙ digit 0 128 c d r)

-- a code point's bytes, by how many they are
data Bytes (c : ℕ) : Type 0 where
  one_byte : c < 128 → encode c ≡ c ∷ [] → Bytes c
  two_bytes : 128 ≤ c → c < 2048 → encode c ≡ (192 + c / 64) ∷ (128 + c % 64) ∷ [] → Bytes c
  three_bytes : 2048 ≤ c → c < 65536 → encode c ≡ (224 + c / 64 / 64) ∷ (128 + c / 64 % 64) ∷ (128 + c % 64) ∷ [] → Bytes c
  four_bytes : 65536 ≤ c → encode c ≡ (240 + c / 64 / 64 / 64) ∷ (128 + c / 64 / 64 % 64) ∷ (128 + c / 64 % 64) ∷ (128 + c % 64) ∷ [] → Bytes c

twice : (c : ℕ) → c / 4096 ≡ c / 64 / 64
twice c = omega arith

thrice : (c : ℕ) → c / 262144 ≡ c / 64 / 64 / 64
thrice c = omega arith

bytes : (c : ℕ) → Bytes c
unfolding encode
bytes c = elim (cases_Bool (nat_lt c 128)) [
  | inl h ↦ one_byte (ltb-true c 128 h) (rw h refl)
  | inr h ↦ elim (cases_Bool (nat_lt c 2048)) [
    | inl k ↦ two_bytes (ltb-false c 128 h) (ltb-true c 2048 k) (rw (h, k) refl)
    | inr k ↦ elim (cases_Bool (nat_lt c 65536)) [
      | inl l ↦ three_bytes (ltb-false c 2048 k) (ltb-true c 65536 l) (rw (h, k, l, twice c) refl)
      | inr l ↦ four_bytes (ltb-false c 65536 l) (rw (h, k, l, thrice c, twice c) refl)
    ]
  ]
]

first_point : (c d : ℕ) (xs ys : List ℕ) → Bytes c → Bytes d → name_order (encode c ++ xs) (encode d ++ ys) ≡ ordering_then (nat_cmp c d) (name_order xs ys)
first_point c d xs ys (one_byte h e) (one_byte k f) = rw (e, f) refl
first_point c d xs ys (one_byte h e) (two_bytes l k f) = rw (e, f) (both_less c (192 + d / 64) c d _ _ (omega arith) (omega arith))
first_point c d xs ys (one_byte h e) (three_bytes l k f) = rw (e, f) (both_less c (224 + d / 64 / 64) c d _ _ (omega arith) (omega arith))
first_point c d xs ys (one_byte h e) (four_bytes l f) = rw (e, f) (both_less c (240 + d / 64 / 64 / 64) c d _ _ (omega arith) (omega arith))
first_point c d xs ys (two_bytes g h e) (one_byte k f) = rw (e, f) (both_more (192 + c / 64) d c d _ _ (omega arith) (omega arith))
first_point c d xs ys (two_bytes g h e) (two_bytes l k f) = rw (e, f) (digit 192 128 c d (name_order xs ys))
first_point c d xs ys (two_bytes g h e) (three_bytes l k f) = rw (e, f) (both_less (192 + c / 64) (224 + d / 64 / 64) c d _ _ (omega arith) (omega arith))
first_point c d xs ys (two_bytes g h e) (four_bytes l f) = rw (e, f) (both_less (192 + c / 64) (240 + d / 64 / 64 / 64) c d _ _ (omega arith) (omega arith))
first_point c d xs ys (three_bytes g h e) (one_byte k f) = rw (e, f) (both_more (224 + c / 64 / 64) d c d _ _ (omega arith) (omega arith))
first_point c d xs ys (three_bytes g h e) (two_bytes l k f) = rw (e, f) (both_more (224 + c / 64 / 64) (192 + d / 64) c d _ _ (omega arith) (omega arith))
first_point c d xs ys (three_bytes g h e) (three_bytes l k f) =
    rw (e, f) (digit 224 128 (c / 64) (d / 64) (ordering_then (nat_cmp (128 + c % 64) (128 + d % 64)) (name_order xs ys)) ∙ digit_alone c d (name_order xs ys))
first_point c d xs ys (three_bytes g h e) (four_bytes l f) = rw (e, f) (both_less (224 + c / 64 / 64) (240 + d / 64 / 64 / 64) c d _ _ (omega arith) (omega arith))
first_point c d xs ys (four_bytes g e) (one_byte k f) = rw (e, f) (both_more (240 + c / 64 / 64 / 64) d c d _ _ (omega arith) (omega arith))
first_point c d xs ys (four_bytes g e) (two_bytes l k f) = rw (e, f) (both_more (240 + c / 64 / 64 / 64) (192 + d / 64) c d _ _ (omega arith) (omega arith))
first_point c d xs ys (four_bytes g e) (three_bytes l k f) = rw (e, f) (both_more (240 + c / 64 / 64 / 64) (224 + d / 64 / 64) c d _ _ (omega arith) (omega arith))
first_point c d xs ys (four_bytes g e) (four_bytes l f) = rw (e, f) (
    digit 240 128 (c / 64 / 64) (d / 64 / 64) (ordering_then (nat_cmp (128 + c / 64 % 64) (128 + d / 64 % 64)) (ordering_then (nat_cmp (128 + c % 64) (128 + d % 64)) (name_order xs ys)))
    ∙ (digit_alone (c / 64) (d / 64) (ordering_then (nat_cmp (128 + c % 64) (128 + d % 64)) (name_order xs ys)) ∙ digit_alone c d (name_order xs ys)))

-- a code point has at least one byte
some_bytes : (c : ℕ) → Bytes c → (b : ℕ) × (bs : List ℕ) × (encode c ≡ b ∷ bs)
some_bytes c (one_byte h e) = (c, [], e)
some_bytes c (two_bytes g h e) = (192 + c / 64, _, e)
some_bytes c (three_bytes g h e) = (224 + c / 64 / 64, _, e)
some_bytes c (four_bytes g e) = (240 + c / 64 / 64 / 64, _, e)

pub names_by_code_points : NamesByCodePoints
names_by_code_points [] [] = refl
names_by_code_points [] (d ∷ ds) = rw ((some_bytes d (bytes d)).2) refl
names_by_code_points (c ∷ cs) [] = rw ((some_bytes c (bytes c)).2) refl
names_by_code_points (c ∷ cs) (d ∷ ds) = first_point c d _ _ (bytes c) (bytes d) ∙ ap (ordering_then (nat_cmp c d)) (names_by_code_points cs ds)
