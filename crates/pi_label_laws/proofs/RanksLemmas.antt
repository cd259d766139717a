-- Ranks of old variables and of new ones, which stand behind.
use Rattle.std.specs.Prelude.{◌≡◌, ◌⊎◌, ℕ, zero, suc, ◌+◌, ◌<◌, ◌≤◌, nat_lt, true, false, cond, refl}
use Rattle.std.proofs.Common.{arith, tests, sym, subst, inl, inr}

-- above the ranks of all numbers below one
most : (ℕ → ℕ) → ℕ → ℕ
most f zero = 0
most f (suc k) = suc (f k + most f k)

below-most : (f : ℕ → ℕ) (k j : ℕ) → j < k → f j < most f k
unfolding most
below-most f zero j l = absurd (omega arith)
below-most f (suc k) j l = elim (last-or j k l) [
  | inl less ↦ let rest : f j < most f k = below-most f k j less in omega arith
  | inr same ↦ subst (λ (i : ℕ). f i < suc (f k + most f k)) (sym same) (omega arith)
]
  where
    last-or : (j k : ℕ) → j < suc k → (j < k) ⊎ (j ≡ k)
    last-or j k l = grind (arith, l)

-- the ranks below a number, and behind all of them the numbers themselves
pub ranks : (ℕ → ℕ) → ℕ → ℕ → ℕ
ranks f n k = cond (nat_lt k n) (f k) (most f n + k)

pub rank-old : (f : ℕ → ℕ) (n k : ℕ) → k < n → ranks f n k ≡ f k
unfolding ranks
rank-old f n k l = let e : nat_lt k n ≡ true = grind (arith, tests, l) in rw e refl

rank-new : (f : ℕ → ℕ) (n k : ℕ) → n ≤ k → ranks f n k ≡ most f n + k
unfolding ranks
rank-new f n k l = let e : nat_lt k n ≡ false = grind (arith, tests, l) in rw e refl

pub rank-behind : (f : ℕ → ℕ) (n j k : ℕ) → n ≤ k → j < k → ranks f n j < ranks f n k
rank-behind f n j k l less = elim (less_or_not j n) [
  | inl old ↦ let first = rank-old f n j old in let second = rank-new f n k l in let low = below-most f n j old in omega arith
  | inr new ↦ let first = rank-new f n j new in let second = rank-new f n k l in omega arith
]
  where
    less_or_not : (m n : ℕ) → (m < n) ⊎ (n ≤ m)
    less_or_not m n = grind arith
