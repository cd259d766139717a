-- Each new variable of a reading is made by what is posted of it.
use Rattle.std.specs.Prelude.{◌≡◌, ◌⊎◌, ⊤, ℕ, zero, suc, ◌<◌, ◌≤◌, Bool, true, false, ◌&&◌, cond, List, [], ◌∷◌, ◌++◌, ℤ, pos, negsuc, Option, Some, None, Ok, Contains, refl}
use Rattle.std.specs.Ordering.{int_eq}
use Rattle.std.proofs.Common.{arith, sym, ◌∙◌, subst, inl, inr}
use Rattle.std.proofs.lemmas.List.Elements.{Contains-append_left, Contains-append_right}
use Rattle.pi_constraints.specs.declared.constraint.Rel.{Rel}
use Rattle.pi_constraints.specs.declared.constraint.Item.{Item}
use Rattle.pi_constraints.specs.declared.constraint.Constraint.{Constraint}
use Rattle.pi_effects.specs.Range.{has_128_bits}
use Rattle.pi_prop_spec.specs.Rules.{magnitude}
use Rattle.pi_prop_spec.specs.Operands.{Operand, number, variable, plus, minus, times, positive, negative, absolute, total, no_operand, Operands, no_operands, operand}
use Rattle.pi_prop_spec.specs.PostingSums.{Sum, of_number, of_variable, added, scaled, opposite, difference}
use Rattle.pi_prop_spec.specs.Steps.{Refusal, not_a_constraint, wide_coefficient, Made, Known, Reading, gives, refuses, then, posting, linear, have_128_bits, step, constant_of, variable_of_terms, variable_of, side_by, side, product_variable, product_by, product, absolute_variable, absolute_by, absolute_sum, read_operand, read_items}
use Rattle.pi_prop_spec.proofs.FormLemmas.{AscendBelow, IsJoined, ascend_below, joined-added, joined-scaled, joined-difference, joined-of_number, joined-of_variable}
use Rattle.pi_prop_spec.proofs.GrowLemmas.{with_all, after_is, is_known}
use Rattle.pi_prop_spec.proofs.OperandLemmas.{OperandBelow, OperandsBelow}
use Rattle.pi_label_laws.specs.ReadingLaws.{IsMadeBy}
use Rattle.pi_label_laws.proofs.NewForms.{MakesNew, makes-new, side-makes, product-makes, absolute-makes}

-- ---- what was made

-- each variable from a number on is made
abbrev pub AllMade : ℕ → Made → Type 0
AllMade base m = (v : ℕ) → base ≤ v → v < m.unused → IsMadeBy m.constraints v

made-more : (xs ys : List Constraint) (v : ℕ) → ((c : Constraint) → Contains xs c → Contains ys c) → IsMadeBy xs v → IsMadeBy ys v
made-more xs ys v within m = record { parts = m.parts; posted = λ c at. within c (m.posted c at); makes = m.makes; below = m.below }

contains-first : (xs cs : List Constraint) (c : Constraint) → Contains xs c → Contains (with_all xs cs) c
contains-first xs [] c at = at
contains-first xs (d ∷ cs) c at = contains-first (xs ++ d ∷ []) cs c (Contains-append_left xs (d ∷ []) c at)

contains-added : (xs cs : List Constraint) (c : Constraint) → Contains cs c → Contains (with_all xs cs) c
contains-added xs [] c (k, l, e) = absurd (omega arith)
contains-added xs (d ∷ cs) c (zero, l, e) = contains-first (xs ++ d ∷ []) cs c (Contains-append_right xs (d ∷ []) c (0, omega arith, e))
contains-added xs (d ∷ cs) c (suc k, l, e) = contains-added (xs ++ d ∷ []) cs c (k, omega arith, e)

-- ---- readings

-- a reading from some number of variables on makes what it adds, and what it reads is good
pub record News (base least : ℕ) {A : Type 0} (Good : ℕ → A → Type 0) (r : Reading A) : Type 0 where
  pub each : (m : Made) (k : Known A) → least ≤ m.unused → AllMade base m → r m ≡ Ok k → (m.unused ≤ k.made.unused) × AllMade base k.made × Good k.made.unused k.what

abbrev Result : (base : ℕ) {A : Type 0} (Good : ℕ → A → Type 0) (m : Made) → Known A → Type 0
Result base Good m k = (m.unused ≤ k.made.unused) × AllMade base k.made × Good k.made.unused k.what

pub gives-news : (base least : ℕ) {A : Type 0} (Good : ℕ → A → Type 0) (x : A) → ((n : ℕ) → least ≤ n → Good n x) → News base least Good (gives x)
gives-news base least {A} Good x h = record { each = λ m k l made e. subst (Result base Good m) (is_known (record { what = x; made = m }) k e) (omega arith, made, h m.unused l) }

pub refuses-news : (base least : ℕ) {A : Type 0} (Good : ℕ → A → Type 0) (r : Refusal) → News base least Good (refuses {A = A} r)
refuses-news base least Good r = record { each = λ m k l made e. absurd cc }

pub then-news : (base least : ℕ) {A B : Type 0} (Good : ℕ → A → Type 0) (Fine : ℕ → B → Type 0) (r : Reading A) (f : A → Reading B) → News base least Good r → ((n : ℕ) (x : A) → least ≤ n → Good n x → News base n Fine (f x)) →
    News base least Fine (then r f)
then-news base least {A} {B} Good Fine r f h g = record {
  each = λ m k l made e.
      let b : (j : Known A) × (r m ≡ Ok j) × (f j.what j.made ≡ Ok k) = after_is (r m) f k e in
      let first = h.each m b.0 l made b.1 in
      let second = (g b.0.made.unused b.0.what (omega (arith, l, first.0)) first.2).each b.0.made k (omega arith) first.1 b.2 in
      (omega (arith, first.0, second.0), second.1, second.2);
}

pub either-news : (base least : ℕ) {A : Type 0} (Good : ℕ → A → Type 0) (b : Bool) (r s : Reading A) → News base least Good r → News base least Good s → News base least Good (cond b r s)
either-news base least Good true r s h g = h
either-news base least Good false r s h g = g

pub posting-news : (base least : ℕ) {A : Type 0} (Good : ℕ → A → Type 0) (c : Constraint) (r : Reading A) → News base least Good r → News base least Good (posting c r)
posting-news base least Good c r h = record {
  each = λ m k l made e. h.each (record { unused = m.unused; constraints = m.constraints ++ c ∷ [] }) k l
      (λ v low high. made-more m.constraints (m.constraints ++ c ∷ []) v (λ d at. Contains-append_left m.constraints (c ∷ []) d at) (made v low high)) e;
}

last-or : (v n : ℕ) → v < suc n → (v < n) ⊎ (v ≡ n)
last-or v n l = grind (arith, l)

-- a new variable with constraints that make it
with-new : (base : ℕ) (m : Made) (cs : List Constraint) → AllMade base m → MakesNew m.unused cs → AllMade base (record { unused = suc m.unused; constraints = with_all m.constraints cs })
with-new base m cs made new v low high = elim (last-or v m.unused high) [
  | inl l ↦ made-more m.constraints (with_all m.constraints cs) v (contains-first m.constraints cs) (made v low l)
  | inr e ↦ subst (IsMadeBy (with_all m.constraints cs)) (sym e) (record { parts = cs; posted = contains-added m.constraints cs; makes = makes-new m.unused cs new; below = new.below })
]

-- what a reading comes to that makes one new variable, over what was made before
abbrev pub after_new : {A : Type 0} → (ℕ → List Constraint) → (ℕ → A) → Made → Known A
after_new cs g m = record { what = g m.unused; made = record { unused = suc m.unused; constraints = with_all m.constraints (cs m.unused) } }

pub new-news : (base least : ℕ) {A : Type 0} (Good : ℕ → A → Type 0) (r : Reading A) (cs : ℕ → List Constraint) (g : ℕ → A) → ((m : Made) → r m ≡ Ok (after_new cs g m)) → ((n : ℕ) → least ≤ n → MakesNew n (cs n)) →
    ((n : ℕ) → least ≤ n → Good (suc n) (g n)) → News base least Good r
new-news base least {A} Good r cs g is makes good = record {
  each = λ m k l made e.
      subst (Result base Good m) (is_known (after_new cs g m) k (sym (is m) ∙ e)) (omega arith, with-new base m (cs m.unused) made (makes m.unused l), good m.unused l);
}

-- ---- operands

abbrev pub GoodSum : ℕ → Sum → Type 0
GoodSum n u = IsJoined n u

abbrev pub GoodVariable : ℕ → ℕ → Type 0
GoodVariable n v = v < n

abbrev pub NewSum : ℕ → ℕ → Reading Sum → Type 0
NewSum base least r = News base least GoodSum r

pub step-news : (base least : ℕ) (u : Sum) → IsJoined least u → NewSum base least (step u)
step-news base least u j =
    either-news base least GoodSum (have_128_bits u.terms && has_128_bits u.constant) (gives u) (refuses wide_coefficient)
    (gives-news base least GoodSum u (λ n l. ascend_below least n 0 u.terms l j)) (refuses-news base least GoodSum wide_coefficient)

SomeBelow : ℕ → Option ℕ → Type 0
SomeBelow n None = ⊤
SomeBelow n (Some v) = v < n

its-variable : (n : ℕ) (ts : List (ℤ × ℕ)) (k : ℤ) → AscendBelow n 0 ts → SomeBelow n (variable_of_terms ts k)
unfolding SomeBelow AscendBelow
its-variable n [] k h = tt
its-variable n (t ∷ []) k h = by (int_eq t.0 (pos 1) && int_eq k (pos 0))
  where
    by : (b : Bool) → SomeBelow n (cond b (Some t.1) None)
    by true = h.2
    by false = tt
its-variable n (t ∷ u ∷ ts) k h = tt

side-by : (base least : ℕ) (o : Option ℕ) (u : Sum) → SomeBelow least o → IsJoined least u → News base least GoodVariable (side_by o u)
unfolding SomeBelow
side-by base least (Some v) u q j = gives-news base least GoodVariable v (λ n l. omega (arith, q, l))
side-by base least None u q j =
    new-news base least GoodVariable (side_by None u) (λ n. linear Rel.Equal (difference (of_variable n) u) ∷ []) (λ n. n) (λ m. refl) (λ n l. side-makes n u (ascend_below least n 0 u.terms l j)) (λ n l. omega arith)

side-news : (base least : ℕ) (u : Sum) → IsJoined least u → News base least GoodVariable (side u)
side-news base least u j = side-by base least (variable_of u) u (its-variable least u.terms u.constant j) j

product-variable : (base least x y : ℕ) → x < least → y < least → NewSum base least (product_variable x y)
product-variable base least x y p q =
    new-news base least GoodSum (product_variable x y) (λ n. Constraint.Product (Item.Var n) (Item.Var x) (Item.Var y) ∷ []) of_variable (λ m. refl) (λ n l. product-makes n x y (omega (arith, p, l)) (omega (arith, q, l)))
    (λ n l. joined-of_variable (suc n) n (omega arith))

product-by : (base least : ℕ) (c d : Option ℤ) (u v : Sum) → IsJoined least u → IsJoined least v → NewSum base least (product_by c d u v)
product-by base least (Some c) d u v h g = gives-news base least GoodSum (scaled c v) (λ n l. ascend_below least n 0 (scaled c v).terms l (joined-scaled least c v g))
product-by base least None (Some d) u v h g = gives-news base least GoodSum (scaled d u) (λ n l. ascend_below least n 0 (scaled d u).terms l (joined-scaled least d u h))
product-by base least None None u v h g =
    then-news base least GoodVariable GoodSum (side u) (λ x. then (side v) (λ y. product_variable x y)) (side-news base least u h)
    (λ n x l p. then-news base n GoodVariable GoodSum (side v) (λ y. product_variable x y) (side-news base n v (ascend_below least n 0 v.terms l g)) (λ k y m q. product-variable base k x y (omega (arith, p, m)) q))

absolute-by : (base least : ℕ) (c : Option ℤ) (u : Sum) → IsJoined least u → NewSum base least (absolute_by c u)
absolute-by base least (Some c) u h = gives-news base least GoodSum (of_number (magnitude c)) (λ n l. joined-of_number n (magnitude c))
absolute-by base least None u h =
    then-news base least GoodVariable GoodSum (side u) absolute_variable (side-news base least u h)
    (λ n x l p. new-news base n GoodSum (absolute_variable x) (λ z. Constraint.Absolute (Item.Var z) (Item.Var x) ∷ []) of_variable (λ m. refl) (λ z m. absolute-makes z x (omega (arith, p, m)))
    (λ z m. joined-of_variable (suc z) z (omega arith)))

mutual
  unfolding read_operand OperandBelow

  pub operand-news : (base least : ℕ) (x : Operand) → OperandBelow base x → base ≤ least → NewSum base least (read_operand x)
  operand-news base least (number i) s b = gives-news base least GoodSum (of_number i) (λ n l. joined-of_number n i)
  operand-news base least (variable v) s b = gives-news base least GoodSum (of_variable v) (λ n l. joined-of_variable n v (omega (arith, s, b, l)))
  operand-news base least (plus x y) s b =
      then-news base least GoodSum GoodSum (read_operand x) (λ u. then (read_operand y) (λ v. step (added u v))) (operand-news base least x s.0 b)
      (λ n u l p. then-news base n GoodSum GoodSum (read_operand y) (λ v. step (added u v)) (operand-news base n y s.1 (omega (arith, b, l)))
      (λ k v m q. step-news base k (added u v) (joined-added k u v (ascend_below n k 0 u.terms m p) q)))
  operand-news base least (minus x y) s b =
      then-news base least GoodSum GoodSum (read_operand x) (λ u. then (read_operand y) (λ v. step (difference u v))) (operand-news base least x s.0 b)
      (λ n u l p. then-news base n GoodSum GoodSum (read_operand y) (λ v. step (difference u v)) (operand-news base n y s.1 (omega (arith, b, l)))
      (λ k v m q. step-news base k (difference u v) (joined-difference k u v (ascend_below n k 0 u.terms m p) q)))
  operand-news base least (times x y) s b =
      then-news base least GoodSum GoodSum (read_operand x) (λ u. then (read_operand y) (λ v. then (product u v) step)) (operand-news base least x s.0 b)
      (λ n u l p. then-news base n GoodSum GoodSum (read_operand y) (λ v. then (product u v) step) (operand-news base n y s.1 (omega (arith, b, l)))
      (λ k v m q. then-news base k GoodSum GoodSum (product u v) step (product-by base k (constant_of u) (constant_of v) u v (ascend_below n k 0 u.terms m p) q) (λ j w o r. step-news base j w r)))
  operand-news base least (positive x) s b = then-news base least GoodSum GoodSum (read_operand x) step (operand-news base least x s b) (λ n u l p. step-news base n u p)
  operand-news base least (negative x) s b =
      then-news base least GoodSum GoodSum (read_operand x) (λ u. step (opposite u)) (operand-news base least x s b) (λ n u l p. step-news base n (opposite u) (joined-scaled n (negsuc 0) u p))
  operand-news base least (absolute x) s b =
      then-news base least GoodSum GoodSum (read_operand x) (λ u. then (absolute_sum u) step) (operand-news base least x s b)
      (λ n u l p. then-news base n GoodSum GoodSum (absolute_sum u) step (absolute-by base n (constant_of u) u p) (λ k w m q. step-news base k w q))
  operand-news base least (total xs) s b = items-news base least xs (of_number (pos 0)) s b (joined-of_number least (pos 0))
  operand-news base least (no_operand t) s b = refuses-news base least GoodSum (not_a_constraint t)

  items-news : (base least : ℕ) (xs : Operands) (u : Sum) → OperandsBelow base xs → base ≤ least → IsJoined least u → NewSum base least (read_items xs u)
  items-news base least no_operands u s b j = gives-news base least GoodSum u (λ n l. ascend_below least n 0 u.terms l j)
  items-news base least (operand x xs) u s b j =
      then-news base least GoodSum GoodSum (read_operand x) (λ v. then (step (added u v)) (read_items xs)) (operand-news base least x s.0 b)
      (λ n v l p. then-news base n GoodSum GoodSum (step (added u v)) (read_items xs) (step-news base n (added u v) (joined-added n u v (ascend_below least n 0 u.terms l j) p))
      (λ k w m q. items-news base k xs w s.1 (omega (arith, b, l, m)) q))
