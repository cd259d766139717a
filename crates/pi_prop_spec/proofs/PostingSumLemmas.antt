-- What joined sums come to.
use Rattle.std.specs.Prelude.{◌≡◌, ℕ, zero, suc, ◌+◌, ◌*◌, ◌==◌, nat_lt, Bool, true, false, List, [], ◌∷◌, ℤ, pos, negsuc, ◌+ℤ◌, ◌-ℤ◌, ◌*ℤ◌, neg_ℤ, refl, cond}
use Rattle.std.proofs.Common.{arith, eqb-true, ◌∙◌, ap, sym}
use Rattle.std.proofs.lemmas.Int.{ints}
use Rattle.std.proofs.Math.IntN.{*ℤ_comm, *ℤ-zero}
use borrow.Author.Differences.{up, down}
use Rattle.pi_constraints.specs.declared.constraint.Item.{Item}
use Rattle.pi_prop_spec.specs.Solutions.{sum_of, value_of}
use Rattle.pi_prop_spec.specs.PostingSums.{Sum, of_number, of_variable, of_item, in_front, with_term, with_terms, scaled_terms, opposite, difference, sum_value}
use Rattle.pi_prop_spec.specs.PostingLaws.{SumsAdd, SumsScale}

-- ---- products of integers

pub distributes : (c d x : ℤ) → (c +ℤ d) *ℤ x ≡ c *ℤ x +ℤ d *ℤ x
distributes c d x =
    let e : up (c +ℤ d) + (down c + down d) ≡ down (c +ℤ d) + (up c + up d) = omega (arith, ints) in
    let p : (up (c +ℤ d) + (down c + down d)) * up x ≡ (down (c +ℤ d) + (up c + up d)) * up x = ap (λ (k : ℕ). k * up x) e in
    let q : (up (c +ℤ d) + (down c + down d)) * down x ≡ (down (c +ℤ d) + (up c + up d)) * down x = ap (λ (k : ℕ). k * down x) e in
    omega (arith, ints)

pub distributes_left : (c x y : ℤ) → c *ℤ (x +ℤ y) ≡ c *ℤ x +ℤ c *ℤ y
distributes_left c x y = *ℤ_comm c (x +ℤ y) ∙ (distributes x y c ∙ (λ i. *ℤ_comm x c i +ℤ *ℤ_comm y c i))

pub associates : (c d x : ℤ) → (c *ℤ d) *ℤ x ≡ c *ℤ (d *ℤ x)
associates c d x =
    let e : up (c *ℤ d) + (up c * down d + down c * up d) ≡ down (c *ℤ d) + (up c * up d + down c * down d) = omega (arith, ints) in
    let p : (up (c *ℤ d) + (up c * down d + down c * up d)) * up x ≡ (down (c *ℤ d) + (up c * up d + down c * down d)) * up x = ap (λ (k : ℕ). k * up x) e in
    let q : (up (c *ℤ d) + (up c * down d + down c * up d)) * down x ≡ (down (c *ℤ d) + (up c * up d + down c * down d)) * down x = ap (λ (k : ℕ). k * down x) e in
    let f : up (d *ℤ x) + (up d * down x + down d * up x) ≡ down (d *ℤ x) + (up d * up x + down d * down x) = omega (arith, ints) in
    let r : (up (d *ℤ x) + (up d * down x + down d * up x)) * up c ≡ (down (d *ℤ x) + (up d * up x + down d * down x)) * up c = ap (λ (k : ℕ). k * up c) f in
    let s : (up (d *ℤ x) + (up d * down x + down d * up x)) * down c ≡ (down (d *ℤ x) + (up d * up x + down d * down x)) * down c = ap (λ (k : ℕ). k * down c) f in
    omega (arith, ints)

-- ---- terms

sum_of-in_front : (a : ℕ → ℤ) (c : ℤ) (n : ℕ) (ts : List (ℤ × ℕ)) → sum_of a (in_front c n ts) ≡ c *ℤ a n +ℤ sum_of a ts
unfolding sum_of
sum_of-in_front a (pos zero) n ts = omega (arith, ints)
sum_of-in_front a (pos (suc c)) n ts = refl
sum_of-in_front a (negsuc c) n ts = refl

join_first : (c d x s : ℤ) → (c +ℤ d) *ℤ x +ℤ s ≡ c *ℤ x +ℤ (d *ℤ x +ℤ s)
join_first c d x s = let e : (c +ℤ d) *ℤ x ≡ c *ℤ x +ℤ d *ℤ x = distributes c d x in omega (arith, ints)

swap_first : (x y s : ℤ) → x +ℤ (y +ℤ s) ≡ y +ℤ (x +ℤ s)
swap_first x y s = omega (arith, ints)

sum_of-with_term : (a : ℕ → ℤ) (c : ℤ) (n : ℕ) (ts : List (ℤ × ℕ)) → sum_of a (with_term c n ts) ≡ c *ℤ a n +ℤ sum_of a ts
unfolding with_term sum_of
sum_of-with_term a c n [] = sum_of-in_front a c n []
sum_of-with_term a c n (t ∷ ts) = by (sum_of-with_term a c n ts) (nat_lt n t.1) (n == t.1) refl
  where
    by : sum_of a (with_term c n ts) ≡ c *ℤ a n +ℤ sum_of a ts → (less same : Bool) → (n == t.1) ≡ same → sum_of a (cond less (in_front c n (t ∷ ts)) (cond same (in_front (c +ℤ t.0) n ts) (t ∷ with_term c n ts))) ≡ c *ℤ a n +ℤ (t.0 *ℤ a t.1 +ℤ sum_of a ts)
    by rest true same e = sum_of-in_front a c n (t ∷ ts)
    by rest false true e =
        sum_of-in_front a (c +ℤ t.0) n ts ∙ (join_first c t.0 (a n) (sum_of a ts) ∙ ap (λ (m : ℕ). c *ℤ a n +ℤ (t.0 *ℤ a m +ℤ sum_of a ts)) (eqb-true n t.1 e))
    by rest false false e = ap (λ (x : ℤ). t.0 *ℤ a t.1 +ℤ x) rest ∙ swap_first (t.0 *ℤ a t.1) (c *ℤ a n) (sum_of a ts)

sum_of-with_terms : (a : ℕ → ℤ) (ts us : List (ℤ × ℕ)) → sum_of a (with_terms ts us) ≡ sum_of a ts +ℤ sum_of a us
unfolding with_terms sum_of
sum_of-with_terms a [] us = omega (arith, ints)
sum_of-with_terms a (t ∷ ts) us =
    sum_of-with_term a t.0 t.1 (with_terms ts us) ∙ (ap (λ (x : ℤ). t.0 *ℤ a t.1 +ℤ x) (sum_of-with_terms a ts us) ∙ group (t.0 *ℤ a t.1) (sum_of a ts) (sum_of a us))
  where
    group : (x y z : ℤ) → x +ℤ (y +ℤ z) ≡ (x +ℤ y) +ℤ z
    group x y z = omega (arith, ints)

sum_of-scaled : (a : ℕ → ℤ) (c : ℤ) (ts : List (ℤ × ℕ)) → sum_of a (scaled_terms c ts) ≡ c *ℤ sum_of a ts
unfolding scaled_terms sum_of
sum_of-scaled a c [] = sym (*ℤ-zero c)
sum_of-scaled a c (t ∷ ts) =
    sum_of-in_front a (c *ℤ t.0) t.1 (scaled_terms c ts)
    ∙ ((λ i. associates c t.0 (a t.1) i +ℤ sum_of-scaled a c ts i)
    ∙ sym (distributes_left c (t.0 *ℤ a t.1) (sum_of a ts)))

-- ---- sums

pub sums_add : SumsAdd
sums_add a u v = ap (λ (x : ℤ). (u.constant +ℤ v.constant) +ℤ x) (sum_of-with_terms a u.terms v.terms) ∙ group u.constant v.constant (sum_of a u.terms) (sum_of a v.terms)
  where
    group : (c d x y : ℤ) → (c +ℤ d) +ℤ (x +ℤ y) ≡ (c +ℤ x) +ℤ (d +ℤ y)
    group c d x y = omega (arith, ints)

pub sums_scale : SumsScale
sums_scale a c u = ap (λ (x : ℤ). c *ℤ u.constant +ℤ x) (sum_of-scaled a c u.terms) ∙ sym (distributes_left c u.constant (sum_of a u.terms))

minus_one : (x : ℤ) → negsuc 0 *ℤ x ≡ neg_ℤ x
minus_one x = omega (arith, ints)

pub value-opposite : (a : ℕ → ℤ) (u : Sum) → sum_value a (opposite u) ≡ neg_ℤ (sum_value a u)
value-opposite a u = sums_scale a (negsuc 0) u ∙ minus_one (sum_value a u)

pub value-difference : (a : ℕ → ℤ) (u v : Sum) → sum_value a (difference u v) ≡ sum_value a u -ℤ sum_value a v
value-difference a u v = sums_add a u (opposite v) ∙ (ap (λ (x : ℤ). sum_value a u +ℤ x) (value-opposite a v) ∙ without (sum_value a u) (sum_value a v))
  where
    without : (x y : ℤ) → x +ℤ neg_ℤ y ≡ x -ℤ y
    without x y = omega (arith, ints)

pub value-of_variable : (a : ℕ → ℤ) (n : ℕ) → sum_value a (of_variable n) ≡ a n
unfolding sum_of
value-of_variable a n = omega (arith, ints)

pub value-of_number : (a : ℕ → ℤ) (i : ℤ) → sum_value a (of_number i) ≡ i
unfolding sum_of
value-of_number a i = omega (arith, ints)

pub value-of_item : (a : ℕ → ℤ) (x : Item) → sum_value a (of_item x) ≡ value_of a x
value-of_item a (Item.Var n) = value-of_variable a n
value-of_item a (Item.Int i) = value-of_number a i
