-- Digits of numbers: no two numbers have the same, and those of a number that 64 bits hold are the ones that are written.
use Rattle.std.proofs.Common.{◌≡◌, ℕ, zero, suc, ◌+◌, ◌-◌, ◌*◌, ◌/◌, ◌%◌, ◌^◌, ◌<◌, ◌==◌, Bool, true, false, cond, List, [], ◌∷◌, refl, sym, ◌∙◌, ap, pow-suc, arith}
use Rattle.std.proofs.lemmas.Bool.{eqb-true, eqb-false, lt-ltb}
use Rattle.std.proofs.lemmas.List.{append_cancel_left}
use Rattle.std.specs.Fmt.{digit_glyph, digits_onto, digits, decimal}
use Rattle.pi_rewrite_sites.specs.OwnNames.{own_digits, own_name}

-- the number that these digits go on with
unfoldable read_on : ℕ → List ℕ → ℕ
read_on n [] = n
read_on n (d ∷ ds) = read_on (n * 10 + (d - 48)) ds

glyph-is : (d : ℕ) → d < 10 → digit_glyph false d ≡ 48 + d
glyph-is d small = ap (λ (b : Bool). cond b (48 + d) (87 + d)) (lt-ltb d 10 small)

-- a number is ten times what stands before its last digit, and that
last-digit : (n : ℕ) → (n / 10) * 10 + (digit_glyph false (n % 10) - 48) ≡ n
last-digit n = ap (λ (g : ℕ). (n / 10) * 10 + (g - 48)) (glyph-is (n % 10) (omega arith)) ∙ omega arith

one-more : (b : Bool) (n k : ℕ) (ds : List ℕ) → (n / 10 == 0) ≡ b → (b ≡ false → read_on 0 (digits_onto k 10 false (n / 10) (digit_glyph false (n % 10) ∷ ds)) ≡ read_on (n / 10) (digit_glyph false (n % 10) ∷ ds)) →
    read_on 0 (cond b (digit_glyph false (n % 10) ∷ ds) (digits_onto k 10 false (n / 10) (digit_glyph false (n % 10) ∷ ds))) ≡ read_on n ds
unfolding read_on
one-more true n k ds is rest =
    let none : n / 10 ≡ 0 = eqb-true (n / 10) 0 is in
    ap (λ (m : ℕ). read_on m ds) (ap (λ (m : ℕ). m * 10 + (digit_glyph false (n % 10) - 48)) (sym none) ∙ last-digit n)
one-more false n k ds is rest = rest refl ∙ ap (λ (m : ℕ). read_on m ds) (last-digit n)

reads-back : (k n : ℕ) (ds : List ℕ) → n < k → read_on 0 (digits_onto k 10 false n ds) ≡ read_on n ds
reads-back zero n ds below = absurd (omega (arith, below))
reads-back (suc k) n ds below =
    one-more (n / 10 == 0) n k ds refl (λ more. let some = eqb-false (n / 10) 0 more in reads-back k (n / 10) (digit_glyph false (n % 10) ∷ ds) (omega (arith, below, some)))

pub names-apart : (prefix : List ℕ) (i j : ℕ) → own_name prefix i ≡ own_name prefix j → i ≡ j
unfolding read_on
names-apart prefix i j same =
    let digits_same : own_digits i ≡ own_digits j = append_cancel_left prefix (own_digits i) (own_digits j) same in
    sym (reads-back (suc i) i [] (omega arith)) ∙ (ap (read_on 0) digits_same ∙ reads-back (suc j) j [] (omega arith))

one-same : (b : Bool) (g : ℕ) (ds xs ys : List ℕ) → (b ≡ false → xs ≡ ys) → cond b (g ∷ ds) xs ≡ cond b (g ∷ ds) ys
one-same true g ds xs ys rest = refl
one-same false g ds xs ys rest = rest refl

-- with room enough it doesn't matter how much there is
same-digits : (k j n : ℕ) (ds : List ℕ) → n < 10 ^ suc k → n < j → digits_onto (suc k) 10 false n ds ≡ digits_onto j 10 false n ds
same-digits k zero n ds few below = absurd (omega (arith, below))
same-digits zero (suc j) n ds few below = one-same (n / 10 == 0) _ ds _ _ (λ more. let some = eqb-false (n / 10) 0 more in absurd (omega (arith, few, some)))
same-digits (suc k) (suc j) n ds few below =
    one-same (n / 10 == 0) _ ds _ _ (λ more. let some = eqb-false (n / 10) 0 more in same-digits k j (n / 10) (digit_glyph false (n % 10) ∷ ds) (omega (arith, few, pow-suc 10 (suc k))) (omega (arith, below, some)))

pub written-digits : (n : ℕ) → n < 2 ^ 64 → decimal n ≡ own_digits n
unfolding digits
written-digits n fits = same-digits 63 (suc n) n [] (omega (arith, fits)) (omega arith)
