-- Numbers of items: where the number of all and one more is an integer, each number up to it has a next one.
use Rattle.std.proofs.Common.{◌≡◌, ℕ, suc, ◌≤◌, Bool, true, false, refl, sym, ◌∙◌, ap, arith, nat_lt}
use Rattle.std.specs.Prelude.{ℤ, ◌^◌, pos, int_lt, if◌then◌else◌, Ok, Err}
use Rattle.std.proofs.lemmas.Bool.Decides.{Decides-ltb}
use Rattle.pi_effects.specs.Range.{bounded}
use Rattle.pi_effects.specs.Value.{value_of}
use Rattle.pi_effects.specs.declared.arith_fault.ArithFault.TheVariants.{Overflow}
use Rattle.pi_effects.specs.declared.operation.Op.TheVariants.{Add}

pub less-natural : (a b : ℕ) → int_lt (pos a) (pos b) ≡ nat_lt a b
less-natural a b = refl

sum-natural : (k : ℕ) → value_of Add (pos k) (pos 1) ≡ bounded (pos (suc k))
unfolding value_of
sum-natural k = ap (λ (n : ℕ). bounded (pos n)) (omega arith)

is-fit : (b : Bool) (k : ℕ) (n : ℤ) → (if b then Ok (pos k) else Err Overflow) ≡ Ok n → b ≡ true
is-fit true k n is = refl
is-fit false k n is = absurd cc

-- each number up to that of all has a next one
pub next-number : (j k : ℕ) (n : ℤ) → j ≤ k → value_of Add (pos k) (pos 1) ≡ Ok n → value_of Add (pos j) (pos 1) ≡ Ok (pos (suc j))
next-number j k n less is = sum-natural j ∙ ap (λ (b : Bool). if b then Ok (pos (suc j)) else Err Overflow) fits
  where
    small : nat_lt (suc k) (2 ^ 127) ≡ true
    small = is-fit (nat_lt (suc k) (2 ^ 127)) (suc k) n (sym (sum-natural k) ∙ is)

    fits : nat_lt (suc j) (2 ^ 127) ≡ true
    fits = (Decides-ltb (suc j) (2 ^ 127)).1 (omega (arith, less, (Decides-ltb (suc k) (2 ^ 127)).0 small))
