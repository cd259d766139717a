-- What a part of a reading adds to what was made: it keeps what holds, extends to new variables, and gives these their values.
use Rattle.std.specs.Prelude.{◌≡◌, ⊤, ℕ, suc, ◌≤◌, ◌==◌, Bool, true, false, cond, List, [], ◌∷◌, ◌++◌, ℤ, Result, Ok, Err, refl}
use Rattle.std.proofs.Common.{arith, tests, eqb-true, ◌∙◌, ap, sym, subst}
use Rattle.pi_constraints.specs.declared.constraint.Constraint.{Constraint}
use Rattle.pi_prop_spec.specs.Solutions.{Holds}
use Rattle.pi_prop_spec.specs.Steps.{Refusal, Made, Known, Reading, after}
use Rattle.pi_prop_spec.specs.Says.{AllHold, AgreeBelow}
use Rattle.pi_prop_spec.proofs.FormLemmas.{IsFormed, formed_below, holds_agrees}

-- ---- lists of constraints

unfoldable pub AreFormed : ℕ → List Constraint → Type 0
AreFormed n [] = ⊤
AreFormed n (c ∷ cs) = IsFormed n c × AreFormed n cs

pub all_formed_below : (n m : ℕ) (cs : List Constraint) → n ≤ m → AreFormed n cs → AreFormed m cs
unfolding AreFormed
all_formed_below n m [] h f = tt
all_formed_below n m (c ∷ cs) h f = (formed_below n m c h f.0, all_formed_below n m cs h f.1)

pub all_hold_agree : (n : ℕ) (cs : List Constraint) (a b : ℕ → ℤ) → AreFormed n cs → AgreeBelow n a b → AllHold cs a → AllHold cs b
unfolding AreFormed AllHold
all_hold_agree n [] a b f g h = tt
all_hold_agree n (c ∷ cs) a b f g h = (holds_agrees n c a b f.0 g h.0, all_hold_agree n cs a b f.1 g h.1)

-- constraints made one after the other
abbrev pub with_all : List Constraint → List Constraint → List Constraint
with_all xs [] = xs
with_all xs (c ∷ cs) = with_all (xs ++ c ∷ []) cs

formed-behind : (n : ℕ) (xs : List Constraint) (c : Constraint) → AreFormed n xs → IsFormed n c → AreFormed n (xs ++ c ∷ [])
unfolding AreFormed
formed-behind n [] c f g = (g, tt)
formed-behind n (x ∷ xs) c f g = (f.0, formed-behind n xs c f.1 g)

pub formed-with_all : (n : ℕ) (xs cs : List Constraint) → AreFormed n xs → AreFormed n cs → AreFormed n (with_all xs cs)
unfolding AreFormed
formed-with_all n xs [] f g = f
formed-with_all n xs (c ∷ cs) f g = formed-with_all n (xs ++ c ∷ []) cs (formed-behind n xs c f g.0) g.1

hold-behind : (xs : List Constraint) (c : Constraint) (a : ℕ → ℤ) → AllHold xs a → Holds c a → AllHold (xs ++ c ∷ []) a
unfolding AllHold
hold-behind [] c a h g = (g, tt)
hold-behind (x ∷ xs) c a h g = (h.0, hold-behind xs c a h.1 g)

hold-before : (xs : List Constraint) (c : Constraint) (a : ℕ → ℤ) → AllHold (xs ++ c ∷ []) a → AllHold xs a
unfolding AllHold
hold-before [] c a h = tt
hold-before (x ∷ xs) c a h = (h.0, hold-before xs c a h.1)

holds-last : (xs : List Constraint) (c : Constraint) (a : ℕ → ℤ) → AllHold (xs ++ c ∷ []) a → Holds c a
unfolding AllHold
holds-last [] c a h = h.0
holds-last (x ∷ xs) c a h = holds-last xs c a h.1

pub hold-with_all : (xs cs : List Constraint) (a : ℕ → ℤ) → AllHold xs a → AllHold cs a → AllHold (with_all xs cs) a
unfolding AllHold
hold-with_all xs [] a h g = h
hold-with_all xs (c ∷ cs) a h g = hold-with_all (xs ++ c ∷ []) cs a (hold-behind xs c a h g.0) g.1

pub hold-first : (xs cs : List Constraint) (a : ℕ → ℤ) → AllHold (with_all xs cs) a → AllHold xs a
hold-first xs [] a h = h
hold-first xs (c ∷ cs) a h = hold-before xs c a (hold-first (xs ++ c ∷ []) cs a h)

pub hold-added : (xs cs : List Constraint) (a : ℕ → ℤ) → AllHold (with_all xs cs) a → AllHold cs a
unfolding AllHold
hold-added xs [] a h = tt
hold-added xs (c ∷ cs) a h = (holds-last xs c a (hold-first (xs ++ c ∷ []) cs a h), hold-added (xs ++ c ∷ []) cs a h)

-- ---- what is made from m to k, for assignments with P

pub record Grows (P : (ℕ → ℤ) → Type 0) (m k : Made) : Type 0 where
  pub more : m.unused ≤ k.unused
  pub formed : AreFormed m.unused m.constraints → AreFormed k.unused k.constraints
  -- what holds of all holds of what was made before
  pub keeps : (a : ℕ → ℤ) → AllHold k.constraints a → AllHold m.constraints a
  -- an assignment extends to the new variables
  pub extends : AreFormed m.unused m.constraints → (a : ℕ → ℤ) → P a → AllHold m.constraints a → (b : ℕ → ℤ) × AgreeBelow m.unused a b × AllHold k.constraints b
  -- in one way
  pub given : (a b : ℕ → ℤ) → AgreeBelow m.unused a b → AllHold k.constraints a → AllHold k.constraints b → AgreeBelow k.unused a b

-- every assignment
abbrev pub Any : (ℕ → ℤ) → Type 0
Any a = ⊤

-- for fewer assignments
pub grows_for : (P Q : (ℕ → ℤ) → Type 0) (m k : Made) → ((a : ℕ → ℤ) → Q a → P a) → Grows P m k → Grows Q m k
grows_for P Q m k q g = record { more = g.more; formed = g.formed; keeps = g.keeps; extends = λ f a p h. g.extends f a (q a p) h; given = g.given }

pub agree_less : (n m : ℕ) (a b : ℕ → ℤ) → n ≤ m → AgreeBelow m a b → AgreeBelow n a b
agree_less n m a b h g k l = g k (omega (arith, h, l))

pub grows_none : (P : (ℕ → ℤ) → Type 0) (m : Made) → Grows P m m
grows_none P m = record { more = omega arith; formed = λ f. f; keeps = λ a h. h; extends = λ f a p h. (a, λ i l. refl, h); given = λ a b g h k. g }

pub grows_then : (P Q : (ℕ → ℤ) → Type 0) (m k l : Made) → Grows P m k → Grows Q k l → ((a b : ℕ → ℤ) → P a → AgreeBelow m.unused a b → AllHold k.constraints b → Q b) → Grows P m l
grows_then P Q m k l g h q = record {
  more = omega (arith, g.more, h.more);
  formed = λ f. h.formed (g.formed f);
  keeps = λ a z. g.keeps a (h.keeps a z);
  extends = λ f a p z.
      let first : (b : ℕ → ℤ) × AgreeBelow m.unused a b × AllHold k.constraints b = g.extends f a p z in
      let second : (b : ℕ → ℤ) × AgreeBelow k.unused first.0 b × AllHold l.constraints b = h.extends (g.formed f) first.0 (q a first.0 p first.1 first.2) first.2 in
      (second.0, λ i b. second.1 i (omega (arith, g.more)) ∙ first.1 i b, second.2);
  given = λ a b s y z. h.given a b (g.given a b s (h.keeps a y) (h.keeps b z)) y z;
}

-- constraints that hold for these assignments, over variables that were made
pub grows_posted : (P : (ℕ → ℤ) → Type 0) (m : Made) (cs : List Constraint) → AreFormed m.unused cs → ((a : ℕ → ℤ) → P a → AllHold cs a) → Grows P m (record { unused = m.unused; constraints = with_all m.constraints cs })
grows_posted P m cs f p = record {
  more = omega arith;
  formed = λ g. formed-with_all m.unused m.constraints cs g f;
  keeps = λ a h. hold-first m.constraints cs a h;
  extends = λ g a q h. (a, λ i l. refl, hold-with_all m.constraints cs a h (p a q));
  given = λ a b s y z. s;
}

-- ---- a new variable whose value is given by constraints

-- the assignment with another value of one variable
unfoldable pub changed : (ℕ → ℤ) → ℕ → ℤ → ℕ → ℤ
changed a n v m = cond (m == n) v (a m)

pub changed_there : (a : ℕ → ℤ) (n : ℕ) (v : ℤ) → changed a n v n ≡ v
unfolding changed
changed_there a n v = by (n == n) refl
  where
    by : (t : Bool) → (n == n) ≡ t → cond t v (a n) ≡ v
    by true e = refl
    by false e = absurd (grind (arith, tests, e))

pub changed_below : (a : ℕ → ℤ) (n : ℕ) (v : ℤ) → AgreeBelow n a (changed a n v)
unfolding changed
changed_below a n v m l = by (m == n) refl
  where
    by : (t : Bool) → (m == n) ≡ t → cond t v (a m) ≡ a m
    by true e = absurd (omega (arith, l, eqb-true m n e))
    by false e = refl

-- constraints by which, behind others, variable n has the value that v gives, which the variables below n determine
pub record Defines (P : (ℕ → ℤ) → Type 0) (n : ℕ) (before cs : List Constraint) (v : (ℕ → ℤ) → ℤ) : Type 0 where
  pub formed : AreFormed (suc n) cs
  pub agrees : (a b : ℕ → ℤ) → AgreeBelow n a b → v b ≡ v a
  pub possible : (a b : ℕ → ℤ) → P a → AgreeBelow n a b → P b
  pub holds : (a : ℕ → ℤ) → P a → AllHold before a → a n ≡ v a → AllHold cs a
  pub only : (a : ℕ → ℤ) → AllHold before a → AllHold cs a → a n ≡ v a

below_next : (n : ℕ) (a b : ℕ → ℤ) → AgreeBelow n a b → b n ≡ a n → AgreeBelow (suc n) a b
below_next n a b g e m l = by (m == n) refl
  where
    by : (t : Bool) → (m == n) ≡ t → b m ≡ a m
    by true f = subst (λ (k : ℕ). b k ≡ a k) (sym (eqb-true m n f)) e
    by false f = g m (grind (arith, tests, f))

pub grows_defined : (P : (ℕ → ℤ) → Type 0) (m : Made) (cs : List Constraint) (v : (ℕ → ℤ) → ℤ) → Defines P m.unused m.constraints cs v → Grows P m (record { unused = suc m.unused; constraints = with_all m.constraints cs })
grows_defined P m cs v d = record {
  more = omega arith;
  formed = λ g. formed-with_all (suc m.unused) m.constraints cs (all_formed_below m.unused (suc m.unused) m.constraints (omega arith) g) d.formed;
  keeps = λ a h. hold-first m.constraints cs a h;
  extends = λ g a p h.
      let b : ℕ → ℤ = changed a m.unused (v a) in
      let same : AgreeBelow m.unused a b = changed_below a m.unused (v a) in
      let there : AllHold m.constraints b = all_hold_agree m.unused m.constraints a b g same h in
      (b, same, hold-with_all m.constraints cs b there (d.holds b (d.possible a b p same) there (changed_there a m.unused (v a) ∙ sym (d.agrees a b same))));
  given = λ a b s y z.
      below_next m.unused a b s
      (d.only b (hold-first m.constraints cs b z) (hold-added m.constraints cs b z)
      ∙ (d.agrees a b s ∙ sym (d.only a (hold-first m.constraints cs a y) (hold-added m.constraints cs a y))));
}

-- ---- readings one after the other

-- what was read before, where the whole isn't refused
pub after_is : {A B : Type 0} (o : Result (Known A) Refusal) (f : A → Reading B) (l : Known B) → after o f ≡ Ok l → (k : Known A) × (o ≡ Ok k) × (f k.what k.made ≡ Ok l)
after_is (Err r) f l e = absurd (cc)
after_is (Ok k) f l e = (k, refl, e)

unfoldable known_or : {A : Type 0} → Known A → Result (Known A) Refusal → Known A
known_or k (Err r) = k
known_or k (Ok l) = l

-- what was read is one
pub is_known : {A : Type 0} (k l : Known A) → ◌≡◌ {A = Result (Known A) Refusal} (Ok k) (Ok l) → k ≡ l
unfolding known_or
is_known {A} k l e = ap {A = Result (Known A) Refusal} (known_or k) e
