-- A product is at most a number just where its factor is at most the quotient, rounded.
use Rattle.std.specs.Prelude.{◌≡◌, ◌≢◌, ℕ, zero, suc, ◌+◌, ◌*◌, ◌/◌, ◌≤◌, ◌<◌, Bool, true, false, ℤ, pos, negsuc, ◌+ℤ◌, ◌*ℤ◌, neg_ℤ, ◌≤ℤ◌, ◌<ℤ◌, int_le, nat_abs, not, List, refl}
use Rattle.std.specs.Int.{int_div_euclid}
use Rattle.std.proofs.Common.{arith, sym, ◌∙◌, ap, subst, mul-le-mul_left}
use Rattle.std.proofs.lemmas.Int.{ints, by_lt_z}
use Rattle.pi_constraints.specs.declared.domain.Span.{Span}
use Rattle.std.specs.Ordering.{int_eq}
use Rattle.std.proofs.lemmas.Bool.Decides.{Decides-int_eq}
use Rattle.pi_prop_places.specs.Changes.{IsCutAt}
use Rattle.pi_prop_places.specs.Roots.{is_no_root}
use Rattle.pi_prop_places.proofs.CutLemmas.{cut_like}
use borrow.Author.Differences.{up, down}

-- two tests that say the same
pub same_tests : (b c : Bool) → (b ≡ true → c ≡ true) → (c ≡ true → b ≡ true) → b ≡ c
same_tests true c f g = sym (f refl)
same_tests false true f g = g refl
same_tests false false f g = refl

pub le_test : (x y : ℤ) → x ≤ℤ y → int_le x y ≡ true
le_test x y h = grind (arith, ints)

pub test_le : (x y : ℤ) → int_le x y ≡ true → x ≤ℤ y
test_le x y h = omega (arith, ints)

-- K * q ≤ a < K * (q + 1)
record IsFloor (k : ℕ) (a q : ℤ) : Type 0 where
  low : (pos k *ℤ q) ≤ℤ a
  high : a <ℤ (pos k *ℤ q +ℤ pos k)

floor_is : (k : ℕ) (a : ℤ) → 0 < k → IsFloor k a (int_div_euclid a (pos k))
floor_is k (pos a) h = record { low = omega (arith, ints); high = omega (arith, ints) }
floor_is k (negsuc a) h = record { low = omega (arith, ints); high = omega (arith, ints) }

-- a ≤ K * q < a + K, for the negative of a
record IsCeiling (k : ℕ) (a q : ℤ) : Type 0 where
  low : neg_ℤ a ≤ℤ (pos k *ℤ q)
  high : (pos k *ℤ q) <ℤ (neg_ℤ a +ℤ pos k)

times_negative : (k d : ℕ) → pos k *ℤ neg_ℤ (pos d) ≡ neg_ℤ (pos k *ℤ pos d)
times_negative k zero = omega (arith, ints)
times_negative k (suc d) = omega (arith, ints)

negative_low : (a p x : ℤ) → x ≡ neg_ℤ p → p ≤ℤ a → neg_ℤ a ≤ℤ x
negative_low a p x e h = omega (arith, ints)

negative_high : (a p x k : ℤ) → x ≡ neg_ℤ p → a <ℤ (p +ℤ k) → x <ℤ (neg_ℤ a +ℤ k)
negative_high a p x k e h = omega (arith, ints)

ceiling_is : (k : ℕ) (a : ℤ) → IsCeiling (suc k) a (int_div_euclid a (negsuc k))
ceiling_is k (pos a) =
    let f : IsFloor (suc k) (pos a) (pos (a / suc k)) = floor_is (suc k) (pos a) (omega arith) in
    let e : pos (suc k) *ℤ neg_ℤ (pos (a / suc k)) ≡ neg_ℤ (pos (suc k) *ℤ pos (a / suc k)) = times_negative (suc k) (a / suc k) in
    record {
      low = negative_low (pos a) (pos (suc k) *ℤ pos (a / suc k)) (pos (suc k) *ℤ neg_ℤ (pos (a / suc k))) e f.low;
      high = negative_high (pos a) (pos (suc k) *ℤ pos (a / suc k)) (pos (suc k) *ℤ neg_ℤ (pos (a / suc k))) (pos (suc k)) e f.high;
    }
ceiling_is k (negsuc a) = record { low = omega (arith, ints); high = omega (arith, ints) }

scaled : (k : ℕ) (x y : ℤ) → x ≤ℤ y → (pos k *ℤ x) ≤ℤ (pos k *ℤ y)
scaled k x y h =
    let sums : up x + down y ≤ up y + down x = omega (arith, ints) in
    let m : k * (up x + down y) ≤ k * (up y + down x) = mul-le-mul_left k sums in
    omega (arith, ints)

scaled_next : (k : ℕ) (x y : ℤ) → x <ℤ y → (pos k *ℤ x +ℤ pos k) ≤ℤ (pos k *ℤ y)
scaled_next k x y h =
    let sums : suc (up x + down y) ≤ up y + down x = omega (arith, ints) in
    let m : k * suc (up x + down y) ≤ k * (up y + down x) = mul-le-mul_left k sums in
    omega (arith, ints)

below_floor : (k : ℕ) (a q n : ℤ) → IsFloor k a q → n ≤ℤ q → (pos k *ℤ n) ≤ℤ a
below_floor k a q n f h = let s = scaled k n q h in let l : (pos k *ℤ q) ≤ℤ a = f.low in omega (arith, ints)

above_floor : (k : ℕ) (a q n : ℤ) → IsFloor k a q → q <ℤ n → a <ℤ (pos k *ℤ n)
above_floor k a q n f h = let s = scaled_next k q n h in let l : a <ℤ (pos k *ℤ q +ℤ pos k) = f.high in omega (arith, ints)

above_ceiling : (k : ℕ) (a q n : ℤ) → IsCeiling k a q → q ≤ℤ n → neg_ℤ a ≤ℤ (pos k *ℤ n)
above_ceiling k a q n f h = let s = scaled k q n h in let l : neg_ℤ a ≤ℤ (pos k *ℤ q) = f.low in omega (arith, ints)

below_ceiling : (k : ℕ) (a q n : ℤ) → IsCeiling k a q → n <ℤ q → (pos k *ℤ n) <ℤ neg_ℤ a
below_ceiling k a q n f h = let s = scaled_next k n q h in let l : (pos k *ℤ q) <ℤ (neg_ℤ a +ℤ pos k) = f.high in omega (arith, ints)

negative_factor : (k : ℕ) (n : ℤ) → negsuc k *ℤ n ≡ neg_ℤ (pos (suc k) *ℤ n)
negative_factor k n = omega (arith, ints)

from_bound : (x r : ℤ) → x ≤ℤ neg_ℤ r → (x +ℤ r) ≤ℤ pos 0
from_bound x r h = omega (arith, ints)

past_bound : (x r : ℤ) → neg_ℤ r <ℤ x → (x +ℤ r) ≤ℤ pos 0 → ⊥
past_bound x r h k = omega (arith, ints)

pub cut_above_is : (k : ℕ) (rest n : ℤ) → int_le n (int_div_euclid (neg_ℤ rest) (pos (suc k))) ≡ int_le (pos (suc k) *ℤ n +ℤ rest) (pos 0)
cut_above_is k rest n =
    let q : ℤ = int_div_euclid (neg_ℤ rest) (pos (suc k)) in
    let f : IsFloor (suc k) (neg_ℤ rest) q = floor_is (suc k) (neg_ℤ rest) (omega arith) in
    same_tests (int_le n q) (int_le (pos (suc k) *ℤ n +ℤ rest) (pos 0))
    (λ t. le_test (pos (suc k) *ℤ n +ℤ rest) (pos 0) (from_bound (pos (suc k) *ℤ n) rest (below_floor (suc k) (neg_ℤ rest) q n f (test_le n q t))))
    (λ t. by_lt_z q n (λ b. absurd (past_bound (pos (suc k) *ℤ n) rest (above_floor (suc k) (neg_ℤ rest) q n f b) (test_le (pos (suc k) *ℤ n +ℤ rest) (pos 0) t))) (λ b. le_test n q b))

from_negative : (p x r : ℤ) → x ≡ neg_ℤ p → neg_ℤ (neg_ℤ r) ≤ℤ p → (x +ℤ r) ≤ℤ pos 0
from_negative p x r e h = omega (arith, ints)

past_negative : (p x r : ℤ) → x ≡ neg_ℤ p → p <ℤ neg_ℤ (neg_ℤ r) → (x +ℤ r) ≤ℤ pos 0 → ⊥
past_negative p x r e h k = omega (arith, ints)

pub cut_below_is : (k : ℕ) (rest n : ℤ) → int_le (int_div_euclid (neg_ℤ rest) (negsuc k)) n ≡ int_le (negsuc k *ℤ n +ℤ rest) (pos 0)
cut_below_is k rest n =
    let q : ℤ = int_div_euclid (neg_ℤ rest) (negsuc k) in
    let f : IsCeiling (suc k) (neg_ℤ rest) q = ceiling_is k (neg_ℤ rest) in
    let same : negsuc k *ℤ n ≡ neg_ℤ (pos (suc k) *ℤ n) = negative_factor k n in
    same_tests (int_le q n) (int_le (negsuc k *ℤ n +ℤ rest) (pos 0))
    (λ t. le_test (negsuc k *ℤ n +ℤ rest) (pos 0) (from_negative (pos (suc k) *ℤ n) (negsuc k *ℤ n) rest same (above_ceiling (suc k) (neg_ℤ rest) q n f (test_le q n t))))
    (λ t. by_lt_z n q (λ b. absurd (past_negative (pos (suc k) *ℤ n) (negsuc k *ℤ n) rest same (below_ceiling (suc k) (neg_ℤ rest) q n f b) (test_le (negsuc k *ℤ n +ℤ rest) (pos 0) t))) (λ b. le_test q n b))

-- ---- as the code has them

pub cut_above_tests : (c rest b n : ℤ) → pos 0 <ℤ c → b ≡ int_div_euclid (neg_ℤ rest) c → int_le n b ≡ int_le (c *ℤ n +ℤ rest) (pos 0)
cut_above_tests (pos zero) rest b n h e = absurd (omega (arith, ints))
cut_above_tests (pos (suc k)) rest b n h e = ap (λ (q : ℤ). int_le n q) e ∙ cut_above_is k rest n
cut_above_tests (negsuc k) rest b n h e = absurd (omega (arith, ints))

pub cut_below_tests : (c rest b n : ℤ) → c ≤ℤ pos 0 → c ≢ pos 0 → b ≡ int_div_euclid (neg_ℤ rest) c → int_le b n ≡ int_le (c *ℤ n +ℤ rest) (pos 0)
cut_below_tests (pos zero) rest b n h o e = absurd (o refl)
cut_below_tests (pos (suc k)) rest b n h o e = absurd (omega (arith, ints))
cut_below_tests (negsuc k) rest b n h o e = ap (λ (q : ℤ). int_le q n) e ∙ cut_below_is k rest n

pub cut_above_place : (ds es : List (List Span)) (k : ℕ) (c rest b : ℤ) → pos 0 <ℤ c → b ≡ int_div_euclid (neg_ℤ rest) c → IsCutAt k (λ n. int_le n b) ds es → IsCutAt k (λ n. int_le (c *ℤ n +ℤ rest) (pos 0)) ds es
cut_above_place ds es k c rest b h e f = cut_like ds es k (λ n. int_le n b) (λ n. int_le (c *ℤ n +ℤ rest) (pos 0)) (λ n. cut_above_tests c rest b n h e) f

pub cut_below_place : (ds es : List (List Span)) (k : ℕ) (c rest b : ℤ) → c ≤ℤ pos 0 → c ≢ pos 0 → b ≡ int_div_euclid (neg_ℤ rest) c → IsCutAt k (λ n. int_le b n) ds es → IsCutAt k (λ n. int_le (c *ℤ n +ℤ rest) (pos 0)) ds es
cut_below_place ds es k c rest b h o e f = cut_like ds es k (λ n. int_le b n) (λ n. int_le (c *ℤ n +ℤ rest) (pos 0)) (λ n. cut_below_tests c rest b n h o e) f

-- ---- the one number whose product is the negative of a rest

root_above : (x y a : ℤ) (k : ℕ) → x ≡ a → y ≤ℤ a → (x +ℤ pos k) ≤ℤ y → 0 < k → ⊥
root_above x y a k e h l p = omega (arith, ints)

root_below : (x y a : ℤ) (k : ℕ) → x ≡ a → a <ℤ (y +ℤ pos k) → (y +ℤ pos k) ≤ℤ x → ⊥
root_below x y a k e h l = omega (arith, ints)

below_sum : (q n a : ℤ) (k : ℕ) → n ≡ a → q <ℤ (a +ℤ pos k) → q <ℤ (n +ℤ pos k)
below_sum q n a k e h = omega (arith, ints)

below_same : (n q a : ℤ) → n ≡ a → a ≤ℤ q → n ≤ℤ q
below_same n q a e h = omega (arith, ints)

turned : (p x r : ℤ) → x ≡ neg_ℤ p → x ≡ r → p ≡ neg_ℤ r
turned p x r e f = omega (arith, ints)

floor_root : (k : ℕ) (a q n : ℤ) → IsFloor (suc k) a q → pos (suc k) *ℤ n ≡ a → n ≡ q
floor_root k a q n f e = by_lt_z n q
    (λ b. absurd (root_above (pos (suc k) *ℤ n) (pos (suc k) *ℤ q) a (suc k) e f.low (scaled_next (suc k) n q b) (omega arith)))
    (λ b. by_lt_z q n (λ d. absurd (root_below (pos (suc k) *ℤ n) (pos (suc k) *ℤ q) a (suc k) e f.high (scaled_next (suc k) q n d))) (λ d. omega (arith, ints)))

ceiling_root : (k : ℕ) (a q n : ℤ) → IsCeiling (suc k) a q → pos (suc k) *ℤ n ≡ neg_ℤ a → n ≡ q
ceiling_root k a q n f e = by_lt_z n q
    (λ b. absurd (root_below (pos (suc k) *ℤ q) (pos (suc k) *ℤ n) (pos (suc k) *ℤ q) (suc k) refl (below_sum (pos (suc k) *ℤ q) (pos (suc k) *ℤ n) (neg_ℤ a) (suc k) e f.high) (scaled_next (suc k) n q b)))
    (λ b. by_lt_z q n (λ d. absurd (root_above (pos (suc k) *ℤ q) (pos (suc k) *ℤ n) (pos (suc k) *ℤ q) (suc k) refl (below_same (pos (suc k) *ℤ n) (pos (suc k) *ℤ q) (neg_ℤ a) e f.low) (scaled_next (suc k) q n d) (omega arith))) (λ d. omega (arith, ints)))

negative_product : (k : ℕ) (n r : ℤ) → negsuc k *ℤ n ≡ neg_ℤ r → pos (suc k) *ℤ n ≡ neg_ℤ (neg_ℤ r)
negative_product k n r e = let same : negsuc k *ℤ n ≡ neg_ℤ (pos (suc k) *ℤ n) = negative_factor k n in turned (pos (suc k) *ℤ n) (negsuc k *ℤ n) (neg_ℤ r) same e

pub root_is : (c rest n q : ℤ) → c ≢ pos 0 → q ≡ int_div_euclid (neg_ℤ rest) c → c *ℤ n ≡ neg_ℤ rest → n ≡ q
root_is (pos zero) rest n q o d e = absurd (o refl)
root_is (pos (suc k)) rest n q o d e = subst (λ (z : ℤ). n ≡ z) (sym d) (floor_root k (neg_ℤ rest) (int_div_euclid (neg_ℤ rest) (pos (suc k))) n (floor_is (suc k) (neg_ℤ rest) (omega arith)) e)
root_is (negsuc k) rest n q o d e = subst (λ (z : ℤ). n ≡ z) (sym d) (ceiling_root k (neg_ℤ rest) (int_div_euclid (neg_ℤ rest) (negsuc k)) n (ceiling_is k (neg_ℤ rest)) (negative_product k n rest e))

zero_sum : (x r : ℤ) → (x +ℤ r) ≡ pos 0 → x ≡ neg_ℤ r
zero_sum x r e = omega (arith, ints)

sum_zero : (x r : ℤ) → x ≡ neg_ℤ r → (x +ℤ r) ≡ pos 0
sum_zero x r e = omega (arith, ints)

not_same : (b c : Bool) → b ≡ c → not b ≡ not c
not_same b c e = ap not e

pub removed_is : (c rest n q : ℤ) → c ≢ pos 0 → q ≡ int_div_euclid (neg_ℤ rest) c → c *ℤ q ≡ neg_ℤ rest → not (int_eq n q) ≡ is_no_root c rest n
removed_is c rest n q o d root = not_same (int_eq n q) (int_eq (c *ℤ n +ℤ rest) (pos 0)) (same_tests (int_eq n q) (int_eq (c *ℤ n +ℤ rest) (pos 0))
    (λ t. (Decides-int_eq (c *ℤ n +ℤ rest) (pos 0)).1 (sum_zero (c *ℤ n) rest (ap (λ (z : ℤ). c *ℤ z) ((Decides-int_eq n q).0 t) ∙ root)))
    (λ t. (Decides-int_eq n q).1 (root_is c rest n q o d (zero_sum (c *ℤ n) rest ((Decides-int_eq (c *ℤ n +ℤ rest) (pos 0)).0 t)))))

pub kept_is : (c rest n q : ℤ) → c ≢ pos 0 → q ≡ int_div_euclid (neg_ℤ rest) c → (c *ℤ q ≡ neg_ℤ rest → ⊥) → true ≡ is_no_root c rest n
kept_is c rest n q o d none = not_same false (int_eq (c *ℤ n +ℤ rest) (pos 0)) (same_tests false (int_eq (c *ℤ n +ℤ rest) (pos 0))
    (λ t. absurd (cc))
    (λ t. absurd (none (let e : c *ℤ n ≡ neg_ℤ rest = zero_sum (c *ℤ n) rest ((Decides-int_eq (c *ℤ n +ℤ rest) (pos 0)).0 t) in ap (λ (z : ℤ). c *ℤ z) (sym (root_is c rest n q o d e)) ∙ e))))

near_floor : (p a : ℤ) (k : ℕ) → p ≤ℤ a → a <ℤ (p +ℤ pos k) → nat_abs p ≤ nat_abs a + k
near_floor p a k h l = omega (arith, ints)

near_ceiling : (p a x : ℤ) (k : ℕ) → x ≡ neg_ℤ p → neg_ℤ a ≤ℤ p → p <ℤ (neg_ℤ a +ℤ pos k) → nat_abs x ≤ nat_abs a + k
near_ceiling p a x k e h l = omega (arith, ints)

-- the product with the quotient is hardly wider than what was divided
pub root_small : (c a q : ℤ) → c ≢ pos 0 → q ≡ int_div_euclid a c → nat_abs (c *ℤ q) ≤ nat_abs a + nat_abs c
root_small (pos zero) a q o d = absurd (o refl)
root_small (pos (suc k)) a q o d =
    let f : IsFloor (suc k) a (int_div_euclid a (pos (suc k))) = floor_is (suc k) a (omega arith) in
    subst (λ (z : ℤ). nat_abs (pos (suc k) *ℤ z) ≤ nat_abs a + suc k) (sym d) (near_floor (pos (suc k) *ℤ int_div_euclid a (pos (suc k))) a (suc k) f.low f.high)
root_small (negsuc k) a q o d =
    let f : IsCeiling (suc k) a (int_div_euclid a (negsuc k)) = ceiling_is k a in
    subst (λ (z : ℤ). nat_abs (negsuc k *ℤ z) ≤ nat_abs a + suc k) (sym d)
    (near_ceiling (pos (suc k) *ℤ int_div_euclid a (negsuc k)) a (negsuc k *ℤ int_div_euclid a (negsuc k)) (suc k) (negative_factor k (int_div_euclid a (negsuc k))) f.low f.high)
