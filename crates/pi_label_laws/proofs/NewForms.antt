-- The constraints that a reading posts of a new variable make its value.
use Rattle.std.specs.Prelude.{◌≡◌, ◌≢◌, ◌⊎◌, ℕ, zero, suc, ◌<◌, ◌≤◌, nat_lt, true, false, cond, List, [], ◌∷◌, ℤ, pos, ◌-ℤ◌, ◌*ℤ◌, Contains, refl}
use Rattle.std.proofs.Common.{arith, tests, sym, ◌∙◌, ap, subst, inl, inr}
use Rattle.std.proofs.lemmas.Int.{ints}
use Rattle.pi_constraints.specs.declared.constraint.Rel.{Rel}
use Rattle.pi_constraints.specs.declared.constraint.Item.{Item}
use Rattle.pi_constraints.specs.declared.constraint.Constraint.{Constraint}
use Rattle.pi_prop_spec.specs.Places.{places_of}
use Rattle.pi_prop_spec.specs.Rules.{magnitude}
use Rattle.pi_prop_spec.specs.Solutions.{value_of, Holds}
use Rattle.pi_prop_spec.specs.PostingSums.{Sum, of_variable, difference, sum_value}
use Rattle.pi_prop_spec.specs.Steps.{linear}
use Rattle.pi_prop_spec.specs.Says.{AgreeBelow}
use Rattle.pi_prop_spec.proofs.PostingSumLemmas.{value-difference, value-of_variable}
use Rattle.pi_prop_spec.proofs.FormLemmas.{IsJoined, ascend_below, joined-difference, joined-of_variable, variables_below, sum_values_agree}
use Rattle.pi_prop_spec.proofs.SumLemmas.{variable_at}
use Rattle.pi_label_laws.specs.Made.{IsMadeIn, in_sum, as_product, as_absolute, AgreeBeside, Makes}
use Rattle.pi_label_laws.proofs.OthersLemmas.{is-term, has-variable}
use Rattle.pi_label_laws.proofs.AgreeLemmas.{holds-agrees}

abbrev pub HoldAll : List Constraint → (ℕ → ℤ) → Type 0
HoldAll cs a = (c : Constraint) → Contains cs c → Holds c a

-- a variable's constraints, which hold for one value of it at most where those of lower numbers are given
pub record MakesNew (n : ℕ) (cs : List Constraint) : Type 0 where
  pub places : (c : Constraint) → Contains cs c → IsMadeIn n c
  pub below : (c : Constraint) (k : ℕ) → Contains cs c → Contains (places_of c) (Item.Var k) → k ≤ n
  pub only : (a b : ℕ → ℤ) → HoldAll cs a → HoldAll cs b → AgreeBelow n a b → a n ≡ b n

-- ---- values at places are enough

-- the first assignment below n, and the second from there on
below_or : ℕ → (ℕ → ℤ) → (ℕ → ℤ) → ℕ → ℤ
below_or n a b m = cond (nat_lt m n) (a m) (b m)

below-is : (n : ℕ) (a b : ℕ → ℤ) (m : ℕ) → m < n → below_or n a b m ≡ a m
unfolding below_or
below-is n a b m l = let e : nat_lt m n ≡ true = grind (arith, tests, l) in rw e refl

behind-is : (n : ℕ) (a b : ℕ → ℤ) (m : ℕ) → n ≤ m → below_or n a b m ≡ b m
unfolding below_or
behind-is n a b m l = let e : nat_lt m n ≡ false = grind (arith, tests, l) in rw e refl

less_or_not : (m n : ℕ) → (m < n) ⊎ (n ≤ m)
less_or_not m n = grind arith

not-same : (m n : ℕ) → m < n → ◌≢◌ {A = Item} (Item.Var m) (Item.Var n)
not-same m n l e = let same : m ≡ n = number (Item.Var m) (Item.Var n) e in omega arith
  where
    number_of : Item → ℕ
    number_of (Item.Var n) = n
    number_of (Item.Int i) = 0

    number : (x y : Item) → x ≡ y → number_of x ≡ number_of y
    number x y e = ap number_of e

place-same : (n : ℕ) (cs : List Constraint) (a b : ℕ → ℤ) → AgreeBeside n cs a b → (c : Constraint) → Contains cs c → (y : Item) → Contains (places_of c) y → value_of (below_or n a b) y ≡ value_of b y
place-same n cs a b h c at (Item.Int i) place = refl
place-same n cs a b h c at (Item.Var m) place = elim (less_or_not m n) [
  | inl l ↦ below-is n a b m l ∙ h c (Item.Var m) at place (not-same m n l)
  | inr past ↦ behind-is n a b m past
]

pub makes-new : (n : ℕ) (cs : List Constraint) → MakesNew n cs → Makes n cs
makes-new n cs m = record {
  places = m.places;
  one = λ a b h k agree.
      m.only a (below_or n a b) h (λ c at. holds-agrees c b (below_or n a b) (place-same n cs a b agree c at) (k c at)) (λ j l. below-is n a b j l) ∙ behind-is n a b n (omega arith);
}

-- ---- the places of sums

sum-below : (n : ℕ) (rel : Rel) (u : Sum) → IsJoined (suc n) u → (k : ℕ) → Contains (places_of (linear rel u)) (Item.Var k) → k ≤ n
sum-below n rel u j k at =
    let there = is-term u.terms (Item.Var k) at in
    let same : k ≡ variable_at u.terms there.0 = number (Item.Var k) (Item.Var (variable_at u.terms there.0)) there.2 in
    let l : variable_at u.terms there.0 < suc n = variables_below (suc n) 0 u.terms j (variable_at u.terms there.0) (has-variable u.terms there.0 there.1) in
    omega arith
  where
    number_of : Item → ℕ
    number_of (Item.Var n) = n
    number_of (Item.Int i) = 0

    number : (x y : Item) → x ≡ y → number_of x ≡ number_of y
    number x y e = ap number_of e

pub joined-more : (n : ℕ) (u : Sum) → IsJoined n u → IsJoined (suc n) u
joined-more n u j = ascend_below n (suc n) 0 u.terms (omega arith) j

-- lists of sums that stand so to 0
pub record IsSumOf (n : ℕ) (c : Constraint) : Type 0 where
  pub rel : Rel
  pub sum : Sum
  pub is : c ≡ linear rel sum
  pub joined : IsJoined (suc n) sum

pub sum-made : (n : ℕ) (c : Constraint) → IsSumOf n c → IsMadeIn n c
sum-made n c s = subst (IsMadeIn n) (sym s.is) (in_sum s.rel s.sum.terms s.sum.constant)

pub is-below : (n : ℕ) (c : Constraint) (k : ℕ) → IsSumOf n c → Contains (places_of c) (Item.Var k) → k ≤ n
is-below n c k s at = sum-below n s.rel s.sum s.joined k (subst (λ (d : Constraint). Contains (places_of d) (Item.Var k)) s.is at)

pub a-sum : (n : ℕ) (rel : Rel) (u : Sum) → IsJoined (suc n) u → IsSumOf n (linear rel u)
a-sum n rel u j = record { rel = rel; sum = u; is = refl; joined = j }

-- a fact of each of a list
unfoldable pub EachOf : (Constraint → Type 0) → List Constraint → Type 0
EachOf P [] = Unit {0}
EachOf P (c ∷ cs) = P c × EachOf P cs

pub each-of : (P : Constraint → Type 0) (cs : List Constraint) (c : Constraint) → EachOf P cs → Contains cs c → P c
unfolding EachOf
each-of P [] c h (k, l, e) = absurd (omega arith)
each-of P (d ∷ cs) c h (zero, l, e) = subst P e h.0
each-of P (d ∷ cs) c h (suc k, l, e) = each-of P cs c h.1 (k, omega arith, e)

pub by-sums : (n : ℕ) (cs : List Constraint) → EachOf (IsSumOf n) cs → ((a b : ℕ → ℤ) → HoldAll cs a → HoldAll cs b → AgreeBelow n a b → a n ≡ b n) → MakesNew n cs
by-sums n cs h only = record {
  places = λ c at. sum-made n c (each-of (IsSumOf n) cs c h at);
  below = λ c k at place. is-below n c k (each-of (IsSumOf n) cs c h at) place;
  only = only;
}

-- ---- sides, products, absolute values

equal-side : (x u y v : ℤ) → (x -ℤ u) ≡ pos 0 → (y -ℤ v) ≡ pos 0 → v ≡ u → x ≡ y
equal-side x u y v e f g = omega (arith, ints, e, f, g)

pub side-makes : (n : ℕ) (u : Sum) → IsJoined n u → MakesNew n (linear Rel.Equal (difference (of_variable n) u) ∷ [])
unfolding EachOf
side-makes n u j =
    let cs : List Constraint = linear Rel.Equal (difference (of_variable n) u) ∷ [] in
    let value : (a : ℕ → ℤ) → HoldAll cs a → (a n -ℤ sum_value a u) ≡ pos 0 =
    λ a h. (λ i. sym (value-of_variable a n) i -ℤ sum_value a u) ∙ (sym (value-difference a (of_variable n) u) ∙ h (linear Rel.Equal (difference (of_variable n) u)) (0, omega arith, refl)) in
    by-sums n cs (a-sum n Rel.Equal (difference (of_variable n) u) (joined-difference (suc n) (of_variable n) u (joined-of_variable (suc n) n (omega arith)) (joined-more n u j)), tt)
    (λ a b h k g. equal-side (a n) (sum_value a u) (b n) (sum_value b u) (value a h) (value b k) (sum_values_agree n u a b j g))

one-at : (c d : Constraint) → Contains (c ∷ []) d → c ≡ d
one-at c d (zero, l, e) = e
one-at c d (suc k, l, e) = absurd (omega arith)

pub product-makes : (n x y : ℕ) → x < n → y < n → MakesNew n (Constraint.Product (Item.Var n) (Item.Var x) (Item.Var y) ∷ [])
product-makes n x y p q =
    let c : Constraint = Constraint.Product (Item.Var n) (Item.Var x) (Item.Var y) in
    record {
      places = λ d at. subst (IsMadeIn n) (one-at c d at) (as_product (Item.Var x) (Item.Var y) (not-same x n p) (not-same y n q));
      below = λ d k at place. three n x y k p q (subst (λ (e : Constraint). Contains (places_of e) (Item.Var k)) (sym (one-at c d at)) place);
      only = λ a b h k g.
          let first : a n ≡ a x *ℤ a y = h c (0, omega arith, refl) in
          let second : b n ≡ b x *ℤ b y = k c (0, omega arith, refl) in
          first ∙ ((λ i. sym (g x p) i *ℤ sym (g y q) i) ∙ sym second);
    }
  where
    number_of : Item → ℕ
    number_of (Item.Var n) = n
    number_of (Item.Int i) = 0

    number : (x y : Item) → x ≡ y → number_of x ≡ number_of y
    number x y e = ap number_of e

    three : (n x y k : ℕ) → x < n → y < n → Contains (Item.Var n ∷ Item.Var x ∷ Item.Var y ∷ []) (Item.Var k) → k ≤ n
    three n x y k p q (zero, l, e) = let same : n ≡ k = number (Item.Var n) (Item.Var k) e in omega arith
    three n x y k p q (suc zero, l, e) = let same : x ≡ k = number (Item.Var x) (Item.Var k) e in omega arith
    three n x y k p q (suc (suc zero), l, e) = let same : y ≡ k = number (Item.Var y) (Item.Var k) e in omega arith
    three n x y k p q (suc (suc (suc j)), l, e) = absurd (omega arith)

pub absolute-makes : (n x : ℕ) → x < n → MakesNew n (Constraint.Absolute (Item.Var n) (Item.Var x) ∷ [])
absolute-makes n x p =
    let c : Constraint = Constraint.Absolute (Item.Var n) (Item.Var x) in
    record {
      places = λ d at. subst (IsMadeIn n) (one-at c d at) (as_absolute (Item.Var x) (not-same x n p));
      below = λ d k at place. two n x k p (subst (λ (e : Constraint). Contains (places_of e) (Item.Var k)) (sym (one-at c d at)) place);
      only = λ a b h k g.
          let first : a n ≡ magnitude (a x) = h c (0, omega arith, refl) in
          let second : b n ≡ magnitude (b x) = k c (0, omega arith, refl) in
          first ∙ (ap magnitude (sym (g x p)) ∙ sym second);
    }
  where
    number_of : Item → ℕ
    number_of (Item.Var n) = n
    number_of (Item.Int i) = 0

    number : (x y : Item) → x ≡ y → number_of x ≡ number_of y
    number x y e = ap number_of e

    two : (n x k : ℕ) → x < n → Contains (Item.Var n ∷ Item.Var x ∷ []) (Item.Var k) → k ≤ n
    two n x k p (zero, l, e) = let same : n ≡ k = number (Item.Var n) (Item.Var k) e in omega arith
    two n x k p (suc zero, l, e) = let same : x ≡ k = number (Item.Var x) (Item.Var k) e in omega arith
    two n x k p (suc (suc j), l, e) = absurd (omega arith)
