-- The constraints that a reading posts of a new truth make its value.
use Rattle.std.specs.Prelude.{◌≡◌, ◌⊎◌, ℕ, zero, suc, ◌<◌, ◌≤◌, List, [], ◌∷◌, ℤ, pos, ◌+ℤ◌, ◌-ℤ◌, ◌≤ℤ◌, Contains, refl}
use Rattle.std.proofs.Common.{arith, sym, ◌∙◌, ap, subst, inl, inr}
use Rattle.std.proofs.lemmas.Int.{ints}
use Rattle.pi_constraints.specs.declared.constraint.Rel.{Rel}
use Rattle.pi_constraints.specs.declared.constraint.Item.{Item}
use Rattle.pi_constraints.specs.declared.constraint.Constraint.{Constraint}
use Rattle.pi_constraints.specs.Constraint.{SumHasVariable}
use Rattle.pi_prop_spec.specs.Places.{places_of}
use Rattle.pi_prop_spec.specs.Solutions.{value_of, Stands, Holds}
use Rattle.pi_prop_spec.specs.PostingSums.{Sum, of_number, of_variable, of_item, added, difference, sum_value}
use Rattle.pi_prop_spec.specs.Steps.{linear}
use Rattle.pi_prop_spec.proofs.PostingSumLemmas.{sums_add, value-difference, value-of_variable, value-of_number, value-of_item}
use Rattle.pi_prop_spec.proofs.FormLemmas.{IsJoined, joined-added, joined-difference, joined-of_number, joined-of_variable, joined-of_item, ItemBelow, variables_below, sum_values_agree, items_agree}
use Rattle.pi_label_laws.specs.Made.{IsMadeIn, as_truth}
use Rattle.pi_label_laws.proofs.NewForms.{HoldAll, MakesNew, joined-more, IsSumOf, EachOf, a-sum, by-sums, sum-made, is-below}

-- ---- what sums say

abbrev at_most : Sum → Constraint
at_most u = linear Rel.AtMost u

less-says : (a : ℕ → ℤ) (u v : Sum) (x y : ℤ) → sum_value a u ≡ x → sum_value a v ≡ y → Holds (at_most (difference u v)) a → (x -ℤ y) ≤ℤ pos 0
less-says a u v x y e f h = subst (λ (z : ℤ). z ≤ℤ pos 0) (value-difference a u v ∙ (λ i. e i -ℤ f i)) h

difference-is : (a : ℕ → ℤ) (u v : Sum) (x y : ℤ) → sum_value a u ≡ x → sum_value a v ≡ y → sum_value a (difference u v) ≡ (x -ℤ y)
difference-is a u v x y e f = value-difference a u v ∙ (λ i. e i -ℤ f i)

added-is : (a : ℕ → ℤ) (u v : Sum) (x y : ℤ) → sum_value a u ≡ x → sum_value a v ≡ y → sum_value a (added u v) ≡ (x +ℤ y)
added-is a u v x y e f = sums_add a u v ∙ (λ i. e i +ℤ f i)

-- ---- the bounds of a truth

abbrev pub upper : ℕ → Constraint
upper n = at_most (difference (of_variable n) (of_number (pos 1)))

abbrev pub lower : ℕ → Constraint
lower n = at_most (difference (of_number (pos 0)) (of_variable n))

joined-this : (n : ℕ) → IsJoined (suc n) (of_variable n)
joined-this n = joined-of_variable (suc n) n (omega arith)

upper-sum : (n : ℕ) → IsSumOf n (upper n)
upper-sum n = a-sum n Rel.AtMost (difference (of_variable n) (of_number (pos 1))) (joined-difference (suc n) (of_variable n) (of_number (pos 1)) (joined-this n) (joined-of_number (suc n) (pos 1)))

lower-sum : (n : ℕ) → IsSumOf n (lower n)
lower-sum n = a-sum n Rel.AtMost (difference (of_number (pos 0)) (of_variable n)) (joined-difference (suc n) (of_number (pos 0)) (of_variable n) (joined-of_number (suc n) (pos 0)) (joined-this n))

IsBit : ℤ → Type 0
IsBit t = (pos 0 ≤ℤ t) × (t ≤ℤ pos 1)

below-one : (t : ℤ) → (t -ℤ pos 1) ≤ℤ pos 0 → t ≤ℤ pos 1
below-one t h = omega (arith, ints, h)

above-zero : (t : ℤ) → (pos 0 -ℤ t) ≤ℤ pos 0 → pos 0 ≤ℤ t
above-zero t h = omega (arith, ints, h)

bit-of : (n : ℕ) (a : ℕ → ℤ) → Holds (upper n) a → Holds (lower n) a → IsBit (a n)
unfolding IsBit
bit-of n a h k = (
  above-zero (a n) (less-says a (of_number (pos 0)) (of_variable n) (pos 0) (a n) (value-of_number a (pos 0)) (value-of_variable a n) k),
  below-one (a n) (less-says a (of_variable n) (of_number (pos 1)) (a n) (pos 1) (value-of_variable a n) (value-of_number a (pos 1)) h),
)

-- ---- whether a sum stands so to 0

same-truth : (rel : Rel) (x y s t : ℤ) → s ≡ t → ((x ≡ pos 1) × Stands rel s) ⊎ ((x ≡ pos 0) × (Stands rel s → ⊥)) → ((y ≡ pos 1) × Stands rel t) ⊎ ((y ≡ pos 0) × (Stands rel t → ⊥)) → x ≡ y
same-truth rel x y s t e (inl h) (inl k) = h.0 ∙ sym k.0
same-truth rel x y s t e (inl h) (inr k) = absurd (k.1 (subst (Stands rel) e h.1))
same-truth rel x y s t e (inr h) (inl k) = absurd (h.1 (subst (Stands rel) (sym e) k.1))
same-truth rel x y s t e (inr h) (inr k) = h.0 ∙ sym k.0

abbrev reified : ℕ → Rel → Sum → Constraint
reified n rel u = Constraint.Reified (Item.Var n) rel u.terms u.constant

abbrev pub standing_truth : ℕ → Rel → Sum → List Constraint
standing_truth n rel u = upper n ∷ lower n ∷ reified n rel u ∷ []

no-later : (n : ℕ) (u : Sum) → IsJoined n u → SumHasVariable u.terms n → ⊥
no-later n u j h = let l : n < n = variables_below n 0 u.terms j n h in omega arith

reified-made : (n : ℕ) (rel : Rel) (u : Sum) → IsJoined n u → IsMadeIn n (reified n rel u)
reified-made n rel u j = as_truth rel u.terms u.constant (no-later n u j)

reified-below : (n : ℕ) (rel : Rel) (u : Sum) → IsJoined n u → (k : ℕ) → Contains (places_of (reified n rel u)) (Item.Var k) → k ≤ n
reified-below n rel u j k (zero, l, e) = let same : n ≡ k = number (Item.Var n) (Item.Var k) e in omega arith
  where
    number_of : Item → ℕ
    number_of (Item.Var n) = n
    number_of (Item.Int i) = 0

    number : (x y : Item) → x ≡ y → number_of x ≡ number_of y
    number x y e = ap number_of e
reified-below n rel u j k (suc i, l, e) = is-below n (linear rel u) k (a-sum n rel u (joined-more n u j)) (i, omega arith, e)

-- one of three
abbrev Three : (Constraint → Type 0) → Constraint → Constraint → Constraint → Type 0
Three P c d e = P c × P d × P e

of-three : (P : Constraint → Type 0) (c d e x : Constraint) → Three P c d e → Contains (c ∷ d ∷ e ∷ []) x → P x
of-three P c d e x h (zero, l, f) = subst P f h.0
of-three P c d e x h (suc zero, l, f) = subst P f h.1
of-three P c d e x h (suc (suc zero), l, f) = subst P f h.2
of-three P c d e x h (suc (suc (suc k)), l, f) = absurd (omega arith)

pub standing-makes : (n : ℕ) (rel : Rel) (u : Sum) → IsJoined n u → MakesNew n (standing_truth n rel u)
standing-makes n rel u j = record {
  places = λ c at. of-three (IsMadeIn n) (upper n) (lower n) (reified n rel u) c (sum-made n (upper n) (upper-sum n), sum-made n (lower n) (lower-sum n), reified-made n rel u j) at;
  below = λ c k at place.
      of-three (λ d. Contains (places_of d) (Item.Var k) → k ≤ n) (upper n) (lower n) (reified n rel u) c
      ((λ p. is-below n (upper n) k (upper-sum n) p), (λ p. is-below n (lower n) k (lower-sum n) p), (λ p. reified-below n rel u j k p)) at place;
  only = λ a b h k g.
      same-truth rel (a n) (b n) (sum_value a u) (sum_value b u) (sym (sum_values_agree n u a b j g)) (h (reified n rel u) (2, omega arith, refl)) (k (reified n rel u) (2, omega arith, refl));
}

-- ---- negations

abbrev pub negated_truth : ℕ → Item → List Constraint
negated_truth n x = upper n ∷ lower n ∷ linear Rel.Equal (difference (added (of_variable n) (of_item x)) (of_number (pos 1))) ∷ []

other-way : (t u x y : ℤ) → ((t +ℤ x) -ℤ pos 1) ≡ pos 0 → ((u +ℤ y) -ℤ pos 1) ≡ pos 0 → y ≡ x → t ≡ u
other-way t u x y e f g = omega (arith, ints, e, f, g)

joined-item : (n : ℕ) (x : Item) → ItemBelow n x → IsJoined (suc n) (of_item x)
joined-item n x h = joined-more n (of_item x) (joined-of_item n x h)

pub negation-makes : (n : ℕ) (x : Item) → ItemBelow n x → MakesNew n (negated_truth n x)
unfolding EachOf
negation-makes n x p =
    let s : Sum = added (of_variable n) (of_item x) in
    let u : Sum = difference s (of_number (pos 1)) in
    let value : (a : ℕ → ℤ) → HoldAll (negated_truth n x) a → ((a n +ℤ value_of a x) -ℤ pos 1) ≡ pos 0 =
    λ a h. sym (difference-is a s (of_number (pos 1)) (a n +ℤ value_of a x) (pos 1) (added-is a (of_variable n) (of_item x) (a n) (value_of a x) (value-of_variable a n) (value-of_item a x)) (value-of_number a (pos 1)))
    ∙ h (linear Rel.Equal u) (2, omega arith, refl) in
    by-sums n (negated_truth n x)
    (upper-sum n, (lower-sum n, (a-sum n Rel.Equal u (joined-difference (suc n) s (of_number (pos 1)) (joined-added (suc n) (of_variable n) (of_item x) (joined-this n) (joined-item n x p)) (joined-of_number (suc n) (pos 1))), tt)))
    (λ a b h k g. other-way (a n) (b n) (value_of a x) (value_of b x) (value a h) (value b k) (items_agree n x a b p g))

-- ---- two that are joined

-- three sums that are at most 0, beside the bounds
abbrev joined_truth : ℕ → Sum → Sum → Sum → List Constraint
joined_truth n u v w = upper n ∷ lower n ∷ at_most u ∷ at_most v ∷ at_most w ∷ []

-- X #/\ Y: T - X <= 0, T - Y <= 0, X + Y - T - 1 <= 0
abbrev pub both_truth : ℕ → Item → Item → List Constraint
both_truth n x y = joined_truth n (difference (of_variable n) (of_item x)) (difference (of_variable n) (of_item y)) (difference (difference (added (of_item x) (of_item y)) (of_variable n)) (of_number (pos 1)))

both-one : (t u x y : ℤ) → (t -ℤ x) ≤ℤ pos 0 → (t -ℤ y) ≤ℤ pos 0 → (((x +ℤ y) -ℤ t) -ℤ pos 1) ≤ℤ pos 0 → IsBit t → (u -ℤ x) ≤ℤ pos 0 → (u -ℤ y) ≤ℤ pos 0 → (((x +ℤ y) -ℤ u) -ℤ pos 1) ≤ℤ pos 0 → IsBit u → t ≡ u
unfolding IsBit
both-one t u x y a b c d e f g h = omega (arith, ints, a, b, c, d.0, d.1, e, f, g, h.0, h.1)

pub both-makes : (n : ℕ) (x y : Item) → ItemBelow n x → ItemBelow n y → MakesNew n (both_truth n x y)
unfolding EachOf
both-makes n x y p q =
    let t : Sum = of_variable n in
    let s : Sum = added (of_item x) (of_item y) in
    let jt : IsJoined (suc n) t = joined-this n in
    let jx : IsJoined (suc n) (of_item x) = joined-item n x p in
    let jy : IsJoined (suc n) (of_item y) = joined-item n y q in
    let one : (a : ℕ → ℤ) (vx vy : ℤ) → value_of a x ≡ vx → value_of a y ≡ vy → HoldAll (both_truth n x y) a → ((a n -ℤ vx) ≤ℤ pos 0) × ((a n -ℤ vy) ≤ℤ pos 0) × ((((vx +ℤ vy) -ℤ a n) -ℤ pos 1) ≤ℤ pos 0) =
    λ a vx vy ex ey h. (
      less-says a t (of_item x) (a n) vx (value-of_variable a n) (value-of_item a x ∙ ex) (h (at_most (difference t (of_item x))) (2, omega arith, refl)),
      less-says a t (of_item y) (a n) vy (value-of_variable a n) (value-of_item a y ∙ ey) (h (at_most (difference t (of_item y))) (3, omega arith, refl)),
      less-says a (difference s t) (of_number (pos 1)) ((vx +ℤ vy) -ℤ a n) (pos 1)
          (difference-is a s t (vx +ℤ vy) (a n) (added-is a (of_item x) (of_item y) vx vy (value-of_item a x ∙ ex) (value-of_item a y ∙ ey)) (value-of_variable a n)) (value-of_number a (pos 1))
          (h (at_most (difference (difference s t) (of_number (pos 1)))) (4, omega arith, refl)),
    ) in
    by-sums n (both_truth n x y) (
      upper-sum n,
      (
        lower-sum n,
        (
          a-sum n Rel.AtMost (difference t (of_item x)) (joined-difference (suc n) t (of_item x) jt jx),
          (
            a-sum n Rel.AtMost (difference t (of_item y)) (joined-difference (suc n) t (of_item y) jt jy),
            (
              a-sum n Rel.AtMost (difference (difference s t) (of_number (pos 1)))
                  (joined-difference (suc n) (difference s t) (of_number (pos 1)) (joined-difference (suc n) s t (joined-added (suc n) (of_item x) (of_item y) jx jy) jt) (joined-of_number (suc n) (pos 1))),
              tt,
            ),
          ),
        ),
      ),
    )
    (λ a b h k g.
    let f = one a (value_of a x) (value_of a y) refl refl h in
    let l = one b (value_of a x) (value_of a y) (items_agree n x a b p g) (items_agree n y a b q g) k in
    both-one (a n) (b n) (value_of a x) (value_of a y) f.0 f.1 f.2 (bit-of n a (h (upper n) (0, omega arith, refl)) (h (lower n) (1, omega arith, refl))) l.0 l.1 l.2 (bit-of n b (k (upper n) (0, omega arith, refl)) (k (lower n) (1, omega arith, refl))))

-- X #\/ Y: X - T <= 0, Y - T <= 0, T - X - Y <= 0
abbrev pub either_truth : ℕ → Item → Item → List Constraint
either_truth n x y = joined_truth n (difference (of_item x) (of_variable n)) (difference (of_item y) (of_variable n)) (difference (difference (of_variable n) (of_item x)) (of_item y))

either-one : (t u x y : ℤ) → (x -ℤ t) ≤ℤ pos 0 → (y -ℤ t) ≤ℤ pos 0 → ((t -ℤ x) -ℤ y) ≤ℤ pos 0 → IsBit t → (x -ℤ u) ≤ℤ pos 0 → (y -ℤ u) ≤ℤ pos 0 → ((u -ℤ x) -ℤ y) ≤ℤ pos 0 → IsBit u → t ≡ u
unfolding IsBit
either-one t u x y a b c d e f g h = omega (arith, ints, a, b, c, d.0, d.1, e, f, g, h.0, h.1)

pub either-makes : (n : ℕ) (x y : Item) → ItemBelow n x → ItemBelow n y → MakesNew n (either_truth n x y)
unfolding EachOf
either-makes n x y p q =
    let t : Sum = of_variable n in
    let jt : IsJoined (suc n) t = joined-this n in
    let jx : IsJoined (suc n) (of_item x) = joined-item n x p in
    let jy : IsJoined (suc n) (of_item y) = joined-item n y q in
    let one : (a : ℕ → ℤ) (vx vy : ℤ) → value_of a x ≡ vx → value_of a y ≡ vy → HoldAll (either_truth n x y) a → ((vx -ℤ a n) ≤ℤ pos 0) × ((vy -ℤ a n) ≤ℤ pos 0) × (((a n -ℤ vx) -ℤ vy) ≤ℤ pos 0) =
    λ a vx vy ex ey h. (
      less-says a (of_item x) t vx (a n) (value-of_item a x ∙ ex) (value-of_variable a n) (h (at_most (difference (of_item x) t)) (2, omega arith, refl)),
      less-says a (of_item y) t vy (a n) (value-of_item a y ∙ ey) (value-of_variable a n) (h (at_most (difference (of_item y) t)) (3, omega arith, refl)),
      less-says a (difference t (of_item x)) (of_item y) (a n -ℤ vx) vy (difference-is a t (of_item x) (a n) vx (value-of_variable a n) (value-of_item a x ∙ ex)) (value-of_item a y ∙ ey)
          (h (at_most (difference (difference t (of_item x)) (of_item y))) (4, omega arith, refl)),
    ) in
    by-sums n (either_truth n x y) (
      upper-sum n,
      (
        lower-sum n,
        (
          a-sum n Rel.AtMost (difference (of_item x) t) (joined-difference (suc n) (of_item x) t jx jt),
          (
            a-sum n Rel.AtMost (difference (of_item y) t) (joined-difference (suc n) (of_item y) t jy jt),
            (a-sum n Rel.AtMost (difference (difference t (of_item x)) (of_item y)) (joined-difference (suc n) (difference t (of_item x)) (of_item y) (joined-difference (suc n) t (of_item x) jt jx) jy), tt),
          ),
        ),
      ),
    )
    (λ a b h k g.
    let f = one a (value_of a x) (value_of a y) refl refl h in
    let l = one b (value_of a x) (value_of a y) (items_agree n x a b p g) (items_agree n y a b q g) k in
    either-one (a n) (b n) (value_of a x) (value_of a y) f.0 f.1 f.2 (bit-of n a (h (upper n) (0, omega arith, refl)) (h (lower n) (1, omega arith, refl))) l.0 l.1 l.2 (bit-of n b (k (upper n) (0, omega arith, refl)) (k (lower n) (1, omega arith, refl))))

-- X #=> Y: 1 - X - T <= 0, Y - T <= 0, T + X - Y - 1 <= 0
abbrev pub implied_truth : ℕ → Item → Item → List Constraint
implied_truth n x y = joined_truth n (difference (difference (of_number (pos 1)) (of_item x)) (of_variable n)) (difference (of_item y) (of_variable n)) (difference (difference (added (of_variable n) (of_item x)) (of_item y)) (of_number (pos 1)))

implied-one : (t u x y : ℤ) → ((pos 1 -ℤ x) -ℤ t) ≤ℤ pos 0 → (y -ℤ t) ≤ℤ pos 0 → (((t +ℤ x) -ℤ y) -ℤ pos 1) ≤ℤ pos 0 → IsBit t → ((pos 1 -ℤ x) -ℤ u) ≤ℤ pos 0 → (y -ℤ u) ≤ℤ pos 0 → (((u +ℤ x) -ℤ y) -ℤ pos 1) ≤ℤ pos 0 → IsBit u → t ≡ u
unfolding IsBit
implied-one t u x y a b c d e f g h = omega (arith, ints, a, b, c, d.0, d.1, e, f, g, h.0, h.1)

pub implied-makes : (n : ℕ) (x y : Item) → ItemBelow n x → ItemBelow n y → MakesNew n (implied_truth n x y)
unfolding EachOf
implied-makes n x y p q =
    let t : Sum = of_variable n in
    let i : Sum = of_number (pos 1) in
    let jt : IsJoined (suc n) t = joined-this n in
    let ji : IsJoined (suc n) i = joined-of_number (suc n) (pos 1) in
    let jx : IsJoined (suc n) (of_item x) = joined-item n x p in
    let jy : IsJoined (suc n) (of_item y) = joined-item n y q in
    let one : (a : ℕ → ℤ) (vx vy : ℤ) → value_of a x ≡ vx → value_of a y ≡ vy → HoldAll (implied_truth n x y) a → (((pos 1 -ℤ vx) -ℤ a n) ≤ℤ pos 0) × ((vy -ℤ a n) ≤ℤ pos 0) × ((((a n +ℤ vx) -ℤ vy) -ℤ pos 1) ≤ℤ pos 0) =
    λ a vx vy ex ey h. (
      less-says a (difference i (of_item x)) t (pos 1 -ℤ vx) (a n) (difference-is a i (of_item x) (pos 1) vx (value-of_number a (pos 1)) (value-of_item a x ∙ ex)) (value-of_variable a n)
          (h (at_most (difference (difference i (of_item x)) t)) (2, omega arith, refl)),
      less-says a (of_item y) t vy (a n) (value-of_item a y ∙ ey) (value-of_variable a n) (h (at_most (difference (of_item y) t)) (3, omega arith, refl)),
      less-says a (difference (added t (of_item x)) (of_item y)) i ((a n +ℤ vx) -ℤ vy) (pos 1)
          (difference-is a (added t (of_item x)) (of_item y) (a n +ℤ vx) vy (added-is a t (of_item x) (a n) vx (value-of_variable a n) (value-of_item a x ∙ ex)) (value-of_item a y ∙ ey)) (value-of_number a (pos 1))
          (h (at_most (difference (difference (added t (of_item x)) (of_item y)) i)) (4, omega arith, refl)),
    ) in
    by-sums n (implied_truth n x y) (
      upper-sum n,
      (
        lower-sum n,
        (
          a-sum n Rel.AtMost (difference (difference i (of_item x)) t) (joined-difference (suc n) (difference i (of_item x)) t (joined-difference (suc n) i (of_item x) ji jx) jt),
          (
            a-sum n Rel.AtMost (difference (of_item y) t) (joined-difference (suc n) (of_item y) t jy jt),
            (
              a-sum n Rel.AtMost (difference (difference (added t (of_item x)) (of_item y)) i)
                  (joined-difference (suc n) (difference (added t (of_item x)) (of_item y)) i (joined-difference (suc n) (added t (of_item x)) (of_item y) (joined-added (suc n) t (of_item x) jt jx) jy) ji),
              tt,
            ),
          ),
        ),
      ),
    )
    (λ a b h k g.
    let f = one a (value_of a x) (value_of a y) refl refl h in
    let l = one b (value_of a x) (value_of a y) (items_agree n x a b p g) (items_agree n y a b q g) k in
    implied-one (a n) (b n) (value_of a x) (value_of a y) f.0 f.1 f.2 (bit-of n a (h (upper n) (0, omega arith, refl)) (h (lower n) (1, omega arith, refl))) l.0 l.1 l.2 (bit-of n b (k (upper n) (0, omega arith, refl)) (k (lower n) (1, omega arith, refl))))

-- ---- what is never so: no value is left

abbrev pub never : ℕ → List Constraint
never n = at_most (of_variable n) ∷ at_most (difference (of_number (pos 1)) (of_variable n)) ∷ []

not-so : (x : ℤ) → x ≤ℤ pos 0 → (pos 1 -ℤ x) ≤ℤ pos 0 → ⊥
not-so x h k = omega (arith, ints, h, k)

pub never-false : (n : ℕ) (a : ℕ → ℤ) → Holds (at_most (of_variable n)) a → Holds (at_most (difference (of_number (pos 1)) (of_variable n))) a → ⊥
never-false n a h k =
    not-so (a n) (subst (λ (z : ℤ). z ≤ℤ pos 0) (value-of_variable a n) h) (less-says a (of_number (pos 1)) (of_variable n) (pos 1) (a n) (value-of_number a (pos 1)) (value-of_variable a n) k)

pub never-makes : (n : ℕ) → MakesNew n (never n)
unfolding EachOf
never-makes n =
    let t : Sum = of_variable n in
    by-sums n (never n)
    (a-sum n Rel.AtMost t (joined-this n), (a-sum n Rel.AtMost (difference (of_number (pos 1)) t) (joined-difference (suc n) (of_number (pos 1)) t (joined-of_number (suc n) (pos 1)) (joined-this n)), tt))
    (λ a b h k g. absurd (not-so (a n) (subst (λ (z : ℤ). z ≤ℤ pos 0) (value-of_variable a n) (h (at_most t) (0, omega arith, refl)))
    (less-says a (of_number (pos 1)) t (pos 1) (a n) (value-of_number a (pos 1)) (value-of_variable a n) (h (at_most (difference (of_number (pos 1)) t)) (1, omega arith, refl)))))
