-- The table of connectives: what the sums of each say of bits.
use Rattle.std.specs.Prelude.{◌≡◌, ◌≢◌, ℕ, suc, Bool, true, false, not, ◌&&◌, ◌||◌, List, [], ◌∷◌, ℤ, pos, ◌+ℤ◌, ◌-ℤ◌, Ok, refl}
use Rattle.std.proofs.Common.{arith, ◌∙◌, ap, sym, subst}
use Rattle.std.proofs.lemmas.Int.{ints}
use Rattle.pi_constraints.specs.declared.constraint.Rel.{Rel}
use Rattle.pi_constraints.specs.declared.constraint.Item.{Item}
use Rattle.pi_constraints.specs.declared.constraint.Constraint.{Constraint}
use Rattle.pi_prop_spec.specs.Solutions.{value_of}
use Rattle.pi_prop_spec.specs.Operands.{Connective, and, or, either, implies, equivalent}
use Rattle.pi_prop_spec.specs.PostingSums.{Sum, of_number, of_item, added, difference, sum_value}
use Rattle.pi_prop_spec.specs.Steps.{Made, Known, linear}
use Rattle.pi_prop_spec.specs.Relations.{stands}
use Rattle.pi_prop_spec.specs.Truths.{bit, truth_of_negation, truth_of_joined}
use Rattle.pi_prop_spec.specs.Says.{joins}
use Rattle.pi_prop_spec.proofs.PostingSumLemmas.{value-of_number, value-of_item}
use Rattle.pi_prop_spec.proofs.FormLemmas.{IsJoined, joined-added, joined-difference, joined-of_number, joined-of_item, ItemBelow}
use Rattle.pi_prop_spec.proofs.GrowLemmas.{with_all, is_known}
use Rattle.pi_prop_spec.proofs.TruthLemmas.{diff, plus, TruthSum, next_item, bounds, NewTruth, new-truth, Bits, Settles, said, said-bits, table-defines, one_equal, three_at_most, one-table, three-table, standing-truth}

-- ---- sums out of T, X and Y

truth_item : (n : ℕ) → ItemBelow (suc n) (Item.Var n)
truth_item n m e = omega (arith, e)

-- a part of such a sum, by the value that it has
record Part (n : ℕ) (x y : Item) (u : Sum) (f : ℤ → ℤ → ℤ → ℤ) : Type 0 where
  joined : IsJoined (suc n) u
  value : (a : ℕ → ℤ) → sum_value a u ≡ f (a n) (value_of a x) (value_of a y)

truth-part : (n : ℕ) (x y : Item) → Part n x y (of_item (Item.Var n)) (λ t p q. t)
truth-part n x y = record { joined = joined-of_item (suc n) (Item.Var n) (truth_item n); value = λ a. value-of_item a (Item.Var n) }

first-part : (n : ℕ) (x y : Item) → ItemBelow n x → Part n x y (of_item x) (λ t p q. p)
first-part n x y s = record { joined = joined-of_item (suc n) x (next_item n x s); value = λ a. value-of_item a x }

second-part : (n : ℕ) (x y : Item) → ItemBelow n y → Part n x y (of_item y) (λ t p q. q)
second-part n x y s = record { joined = joined-of_item (suc n) y (next_item n y s); value = λ a. value-of_item a y }

one-part : (n : ℕ) (x y : Item) → Part n x y (of_number (pos 1)) (λ t p q. pos 1)
one-part n x y = record { joined = joined-of_number (suc n) (pos 1); value = λ a. value-of_number a (pos 1) }

without : (n : ℕ) (x y : Item) {u v : Sum} {f g : ℤ → ℤ → ℤ → ℤ} → Part n x y u f → Part n x y v g → Part n x y (difference u v) (λ t p q. f t p q -ℤ g t p q)
without n x y {u} {v} {f} {g} r s = record {
  joined = joined-difference (suc n) u v r.joined s.joined;
  value = λ a. diff a u v (f (a n) (value_of a x) (value_of a y)) (g (a n) (value_of a x) (value_of a y)) (r.value a) (s.value a);
}

with : (n : ℕ) (x y : Item) {u v : Sum} {f g : ℤ → ℤ → ℤ → ℤ} → Part n x y u f → Part n x y v g → Part n x y (added u v) (λ t p q. f t p q +ℤ g t p q)
with n x y {u} {v} {f} {g} r s = record {
  joined = joined-added (suc n) u v r.joined s.joined;
  value = λ a. plus a u v (f (a n) (value_of a x) (value_of a y)) (g (a n) (value_of a x) (value_of a y)) (r.value a) (s.value a);
}

-- a whole one, in which T counts
whole : (n : ℕ) (x y : Item) {u : Sum} {f : ℤ → ℤ → ℤ → ℤ} → Part n x y u f → ((p q : ℤ) → f (pos 1) p q ≢ f (pos 0) p q) → TruthSum n x y u f
whole n x y r c = record { joined = r.joined; value = r.value; counts = c }

-- ---- #~ X

negated : ℤ → ℤ → ℤ → ℤ
negated t p q = t +ℤ p -ℤ pos 1

negated-sum : (n : ℕ) (x : Item) → ItemBelow n x → TruthSum n x x (difference (added (of_item (Item.Var n)) (of_item x)) (of_number (pos 1))) negated
unfolding negated
negated-sum n x s = whole n x x (without n x x (with n x x (truth-part n x x) (first-part n x x s)) (one-part n x x)) (λ p q e. omega (arith, ints))

negation-settles : Settles (λ p q. not p) (one_equal negated)
unfolding negated
negation-settles = record { works = works; forces = forces }
  where
    works : (p q : Bool) → one_equal negated (bit (not p)) (bit p) (bit q)
    works true q = refl
    works false q = refl

    forces : (t p q : Bool) → one_equal negated (bit t) (bit p) (bit q) → t ≡ not p
    forces true true q h = absurd (omega (arith, ints, h))
    forces true false q h = refl
    forces false true q h = refl
    forces false false q h = absurd (omega (arith, ints, h))

pub negation-truth : (m : Made) (x : Item) (l : Known Item) → ItemBelow m.unused x → Bits m.constraints x → truth_of_negation x m ≡ Ok l → NewTruth m l (said (λ p q. not p) x x)
unfolding bounds
negation-truth m x l s b e =
    let cs : List Constraint = linear Rel.Equal (difference (added (of_item (Item.Var m.unused)) (of_item x)) (of_number (pos 1))) ∷ [] in
    subst (λ k. NewTruth m k (said (λ p q. not p) x x))
    (is_known (record { what = Item.Var m.unused; made = record { unused = suc m.unused; constraints = with_all m.constraints (with_all (bounds m.unused) cs) } }) l e)
    (new-truth m cs (said (λ p q. not p) x x) (table-defines m.unused m.constraints x x cs (one_equal negated) (λ p q. not p) s s b b
    (one-table m.unused x x (difference (added (of_item (Item.Var m.unused)) (of_item x)) (of_number (pos 1))) negated s s (negated-sum m.unused x s)) negation-settles))

-- ---- #/\, #\/ and #=>

-- three sums for a connective: those that are posted, and what they come to
pub record Row (k : Connective) (n : ℕ) (x y : Item) : Type 0 where
  pub first : Sum
  pub second : Sum
  pub third : Sum
  pub of_first : ℤ → ℤ → ℤ → ℤ
  pub of_second : ℤ → ℤ → ℤ → ℤ
  pub of_third : ℤ → ℤ → ℤ → ℤ
  pub is_first : TruthSum n x y first of_first
  pub is_second : TruthSum n x y second of_second
  pub is_third : TruthSum n x y third of_third
  pub settles : Settles (joins k) (three_at_most of_first of_second of_third)

and-row : (n : ℕ) (x y : Item) → ItemBelow n x → ItemBelow n y → Row and n x y
and-row n x y s t = record {
  first = difference (of_item (Item.Var n)) (of_item x);
  second = difference (of_item (Item.Var n)) (of_item y);
  third = difference (difference (added (of_item x) (of_item y)) (of_item (Item.Var n))) (of_number (pos 1));
  of_first = λ t p q. t -ℤ p;
  of_second = λ t p q. t -ℤ q;
  of_third = λ t p q. p +ℤ q -ℤ t -ℤ pos 1;
  is_first = whole n x y (without n x y (truth-part n x y) (first-part n x y s)) (λ p q e. omega (arith, ints));
  is_second = whole n x y (without n x y (truth-part n x y) (second-part n x y t)) (λ p q e. omega (arith, ints));
  is_third = whole n x y (without n x y (without n x y (with n x y (first-part n x y s) (second-part n x y t)) (truth-part n x y)) (one-part n x y)) (λ p q e. omega (arith, ints));
  settles = record { works = works; forces = forces };
}
  where
    works : (p q : Bool) → three_at_most (λ t p q. t -ℤ p) (λ t p q. t -ℤ q) (λ t p q. p +ℤ q -ℤ t -ℤ pos 1) (bit (p && q)) (bit p) (bit q)
    works true true = (omega (arith, ints), omega (arith, ints), omega (arith, ints))
    works true false = (omega (arith, ints), omega (arith, ints), omega (arith, ints))
    works false true = (omega (arith, ints), omega (arith, ints), omega (arith, ints))
    works false false = (omega (arith, ints), omega (arith, ints), omega (arith, ints))

    forces : (t p q : Bool) → three_at_most (λ t p q. t -ℤ p) (λ t p q. t -ℤ q) (λ t p q. p +ℤ q -ℤ t -ℤ pos 1) (bit t) (bit p) (bit q) → t ≡ (p && q)
    forces true true true h = refl
    forces true true false h = absurd (omega (arith, ints, h.1))
    forces true false q h = absurd (omega (arith, ints, h.0))
    forces false true true h = absurd (omega (arith, ints, h.2))
    forces false true false h = refl
    forces false false q h = refl

or-row : (n : ℕ) (x y : Item) → ItemBelow n x → ItemBelow n y → Row or n x y
or-row n x y s t = record {
  first = difference (of_item x) (of_item (Item.Var n));
  second = difference (of_item y) (of_item (Item.Var n));
  third = difference (difference (of_item (Item.Var n)) (of_item x)) (of_item y);
  of_first = λ t p q. p -ℤ t;
  of_second = λ t p q. q -ℤ t;
  of_third = λ t p q. t -ℤ p -ℤ q;
  is_first = whole n x y (without n x y (first-part n x y s) (truth-part n x y)) (λ p q e. omega (arith, ints));
  is_second = whole n x y (without n x y (second-part n x y t) (truth-part n x y)) (λ p q e. omega (arith, ints));
  is_third = whole n x y (without n x y (without n x y (truth-part n x y) (first-part n x y s)) (second-part n x y t)) (λ p q e. omega (arith, ints));
  settles = record { works = works; forces = forces };
}
  where
    works : (p q : Bool) → three_at_most (λ t p q. p -ℤ t) (λ t p q. q -ℤ t) (λ t p q. t -ℤ p -ℤ q) (bit (p || q)) (bit p) (bit q)
    works true true = (omega (arith, ints), omega (arith, ints), omega (arith, ints))
    works true false = (omega (arith, ints), omega (arith, ints), omega (arith, ints))
    works false true = (omega (arith, ints), omega (arith, ints), omega (arith, ints))
    works false false = (omega (arith, ints), omega (arith, ints), omega (arith, ints))

    forces : (t p q : Bool) → three_at_most (λ t p q. p -ℤ t) (λ t p q. q -ℤ t) (λ t p q. t -ℤ p -ℤ q) (bit t) (bit p) (bit q) → t ≡ (p || q)
    forces true true q h = refl
    forces true false true h = refl
    forces true false false h = absurd (omega (arith, ints, h.2))
    forces false true q h = absurd (omega (arith, ints, h.0))
    forces false false true h = absurd (omega (arith, ints, h.1))
    forces false false false h = refl

implies-row : (n : ℕ) (x y : Item) → ItemBelow n x → ItemBelow n y → Row implies n x y
implies-row n x y s t = record {
  first = difference (difference (of_number (pos 1)) (of_item x)) (of_item (Item.Var n));
  second = difference (of_item y) (of_item (Item.Var n));
  third = difference (difference (added (of_item (Item.Var n)) (of_item x)) (of_item y)) (of_number (pos 1));
  of_first = λ t p q. pos 1 -ℤ p -ℤ t;
  of_second = λ t p q. q -ℤ t;
  of_third = λ t p q. t +ℤ p -ℤ q -ℤ pos 1;
  is_first = whole n x y (without n x y (without n x y (one-part n x y) (first-part n x y s)) (truth-part n x y)) (λ p q e. omega (arith, ints));
  is_second = whole n x y (without n x y (second-part n x y t) (truth-part n x y)) (λ p q e. omega (arith, ints));
  is_third = whole n x y (without n x y (without n x y (with n x y (truth-part n x y) (first-part n x y s)) (second-part n x y t)) (one-part n x y)) (λ p q e. omega (arith, ints));
  settles = record { works = works; forces = forces };
}
  where
    works : (p q : Bool) → three_at_most (λ t p q. pos 1 -ℤ p -ℤ t) (λ t p q. q -ℤ t) (λ t p q. t +ℤ p -ℤ q -ℤ pos 1) (bit (not p || q)) (bit p) (bit q)
    works true true = (omega (arith, ints), omega (arith, ints), omega (arith, ints))
    works true false = (omega (arith, ints), omega (arith, ints), omega (arith, ints))
    works false true = (omega (arith, ints), omega (arith, ints), omega (arith, ints))
    works false false = (omega (arith, ints), omega (arith, ints), omega (arith, ints))

    forces : (t p q : Bool) → three_at_most (λ t p q. pos 1 -ℤ p -ℤ t) (λ t p q. q -ℤ t) (λ t p q. t +ℤ p -ℤ q -ℤ pos 1) (bit t) (bit p) (bit q) → t ≡ (not p || q)
    forces true true true h = refl
    forces true true false h = absurd (omega (arith, ints, h.2))
    forces true false q h = refl
    forces false true true h = absurd (omega (arith, ints, h.1))
    forces false true false h = refl
    forces false false q h = absurd (omega (arith, ints, h.0))

-- what a row posts
row-constraints : (k : Connective) (n : ℕ) (x y : Item) → Row k n x y → List Constraint
row-constraints k n x y r = linear Rel.AtMost r.first ∷ linear Rel.AtMost r.second ∷ linear Rel.AtMost r.third ∷ []

row-truth : (k : Connective) (m : Made) (x y : Item) (r : Row k m.unused x y) → ItemBelow m.unused x → ItemBelow m.unused y → Bits m.constraints x → Bits m.constraints y →
    NewTruth m (record { what = Item.Var m.unused; made = record { unused = suc m.unused; constraints = with_all m.constraints (with_all (bounds m.unused) (row-constraints k m.unused x y r)) } }) (said (joins k) x y)
unfolding row-constraints
row-truth k m x y r s t b c =
    new-truth m (row-constraints k m.unused x y r) (said (joins k) x y) (table-defines m.unused m.constraints x y (row-constraints k m.unused x y r) (three_at_most r.of_first r.of_second r.of_third) (joins k) s t b c
    (three-table m.unused x y r.first r.second r.third r.of_first r.of_second r.of_third s t r.is_first r.is_second r.is_third) r.settles)

-- ---- #^ and #<=>: whether a difference is 0

difference-bits : (rel : Rel) (g : Bool → Bool → Bool) (m : Made) (x y : Item) (l : Known Item) → ItemBelow m.unused x → ItemBelow m.unused y → Bits m.constraints x → Bits m.constraints y →
    ((p q : Bool) → stands rel (bit p -ℤ bit q) ≡ g p q) → NewTruth m l (λ a. stands rel (sum_value a (difference (of_item x) (of_item y)))) → NewTruth m l (said g x y)
difference-bits rel g m x y l s t b c same r = record {
  grows = r.grows;
  below = r.below;
  value = λ a h.
      let before = r.grows.keeps a h in
      let p : (p : Bool) × (value_of a x ≡ bit p) = b a before in
      let q : (q : Bool) × (value_of a y ≡ bit q) = c a before in
      r.value a h ∙ ap bit ((λ i. stands rel (diff a (of_item x) (of_item y) (bit p.0) (bit q.0) (value-of_item a x ∙ p.1) (value-of_item a y ∙ q.1) i)) ∙ (same p.0 q.0 ∙ sym (said-bits g x y a p.0 q.0 p.1 q.1)));
}

either-same : (p q : Bool) → stands Rel.Unequal (bit p -ℤ bit q) ≡ joins either p q
either-same true true = refl
either-same true false = refl
either-same false true = refl
either-same false false = refl

equivalent-same : (p q : Bool) → stands Rel.Equal (bit p -ℤ bit q) ≡ joins equivalent p q
equivalent-same true true = refl
equivalent-same true false = refl
equivalent-same false true = refl
equivalent-same false false = refl

pub joined-truth : (k : Connective) (m : Made) (x y : Item) (l : Known Item) → ItemBelow m.unused x → ItemBelow m.unused y → Bits m.constraints x → Bits m.constraints y → truth_of_joined k x y m ≡ Ok l → NewTruth m l (said (joins k) x y)
unfolding bounds row-constraints and-row or-row implies-row
joined-truth and m x y l s t b c e = subst (λ k. NewTruth m k (said (joins and) x y))
    (is_known (record { what = Item.Var m.unused; made = record { unused = suc m.unused; constraints = with_all m.constraints (with_all (bounds m.unused) (row-constraints and m.unused x y (and-row m.unused x y s t))) } }) l e)
    (row-truth and m x y (and-row m.unused x y s t) s t b c)
joined-truth or m x y l s t b c e = subst (λ k. NewTruth m k (said (joins or) x y))
    (is_known (record { what = Item.Var m.unused; made = record { unused = suc m.unused; constraints = with_all m.constraints (with_all (bounds m.unused) (row-constraints or m.unused x y (or-row m.unused x y s t))) } }) l e)
    (row-truth or m x y (or-row m.unused x y s t) s t b c)
joined-truth implies m x y l s t b c e = subst (λ k. NewTruth m k (said (joins implies) x y))
    (is_known (record { what = Item.Var m.unused; made = record { unused = suc m.unused; constraints = with_all m.constraints (with_all (bounds m.unused) (row-constraints implies m.unused x y (implies-row m.unused x y s t))) } }) l e)
    (row-truth implies m x y (implies-row m.unused x y s t) s t b c)
joined-truth either m x y l s t b c e =
    difference-bits Rel.Unequal (joins either) m x y l s t b c either-same
    (standing-truth m Rel.Unequal (difference (of_item x) (of_item y)) l (joined-difference m.unused (of_item x) (of_item y) (joined-of_item m.unused x s) (joined-of_item m.unused y t)) e)
joined-truth equivalent m x y l s t b c e =
    difference-bits Rel.Equal (joins equivalent) m x y l s t b c equivalent-same
    (standing-truth m Rel.Equal (difference (of_item x) (of_item y)) l (joined-difference m.unused (of_item x) (of_item y) (joined-of_item m.unused x s) (joined-of_item m.unused y t)) e)
