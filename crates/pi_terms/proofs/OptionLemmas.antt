-- Small facts of values that are there or not.
use Rattle.std.proofs.Common.{◌≡◌, ℕ, ◌≤◌, false, nat_lt, Option, Some, None, arith}

pub same-some : {A : Type 0} {x y : A} → Some x ≡ Some y → x ≡ y
same-some h = cc

pub none-some : {A : Type 0} {r : Option A} {x : A} → r ≡ None → r ≡ Some x → ⊥
none-some h k = cc

-- what is there is one
pub one-some : {A : Type 0} (r : Option A) (x y : A) → r ≡ Some x → r ≡ Some y → x ≡ y
one-some r x y h k = cc

pub taken-is : {A : Type 0} {r q : Option A} {x z : A} → r ≡ q → r ≡ Some x → q ≡ Some z → z ≡ x
taken-is same h k = cc

pub not-less : (a b : ℕ) → b ≤ a → nat_lt a b ≡ false
not-less a b h = grind (arith, h)
