-- What the reading of an operand gives: a joined sum that has the operand's value wherever all holds that was made.
use Rattle.std.specs.Prelude.{◌≡◌, ◌≢◌, ⊤, ℕ, suc, ◌<◌, ◌≤◌, ◌==◌, nat_lt, Bool, true, false, ◌&&◌, cond, List, [], ◌∷◌, ◌++◌, ℤ, pos, negsuc, ◌+ℤ◌, ◌-ℤ◌, ◌*ℤ◌, neg_ℤ, Option, Some, None, unwrap_or, Ok, refl}
use Rattle.std.specs.Ordering.{int_eq}
use Rattle.std.proofs.Common.{arith, eqb-true, ◌∙◌, ap, sym, subst}
use Rattle.std.proofs.lemmas.Int.{ints}
use Rattle.std.proofs.Math.IntN.{*ℤ_comm}
use Rattle.pi_effects.specs.Range.{has_128_bits}
use Rattle.pi_constraints.specs.declared.constraint.Rel.{Rel}
use Rattle.pi_constraints.specs.declared.constraint.Item.{Item}
use Rattle.pi_constraints.specs.declared.constraint.Constraint.{Constraint}
use Rattle.pi_prop_spec.specs.Rules.{magnitude}
use Rattle.pi_prop_spec.specs.Solutions.{sum_of}
use Rattle.pi_prop_spec.specs.Operands.{Operand, number, variable, plus, minus, times, positive, negative, absolute, total, no_operand, Operands, no_operands, operand}
use Rattle.pi_prop_spec.specs.PostingSums.{Sum, of_number, of_variable, in_front, with_term, with_terms, scaled_terms, added, scaled, opposite, difference, sum_value}
use Rattle.pi_prop_spec.specs.Steps.{wide_coefficient, Made, Known, Reading, gives, refuses, then, linear, have_128_bits, step, constant_of_terms, constant_of, variable_of_terms, variable_of, side_by, side, product_variable, product_by, product, absolute_variable, absolute_by, absolute_sum, read_operand, read_items}
use Rattle.pi_prop_spec.specs.Says.{operand_value, total_value, AllHold, AgreeBelow}
use Rattle.pi_prop_spec.proofs.PostingSumLemmas.{sums_add, sums_scale, value-opposite, value-difference, value-of_variable, value-of_number}
use Rattle.pi_prop_spec.proofs.FormLemmas.{AscendBelow, ascend_below, IsJoined, joined-added, joined-scaled, joined-difference, joined-of_number, joined-of_variable, sum_values_agree}
use Rattle.pi_prop_spec.proofs.GrowLemmas.{AreFormed, Any, Grows, grows_none, grows_then, grows_defined, hold-first, hold-added, Defines, after_is, is_known}

-- ---- the variables of operands

unfoldable mutual
  pub OperandBelow : ℕ → Operand → Type 0
  OperandBelow n (number i) = ⊤
  OperandBelow n (variable m) = m < n
  OperandBelow n (plus x y) = OperandBelow n x × OperandBelow n y
  OperandBelow n (minus x y) = OperandBelow n x × OperandBelow n y
  OperandBelow n (times x y) = OperandBelow n x × OperandBelow n y
  OperandBelow n (positive x) = OperandBelow n x
  OperandBelow n (negative x) = OperandBelow n x
  OperandBelow n (absolute x) = OperandBelow n x
  OperandBelow n (total xs) = OperandsBelow n xs
  OperandBelow n (no_operand t) = ⊤

  pub OperandsBelow : ℕ → Operands → Type 0
  OperandsBelow n no_operands = ⊤
  OperandsBelow n (operand x xs) = OperandBelow n x × OperandsBelow n xs

mutual
  unfolding OperandBelow operand_value

  pub operands_agree : (n : ℕ) (x : Operand) (a b : ℕ → ℤ) → OperandBelow n x → AgreeBelow n a b → operand_value b x ≡ operand_value a x
  operands_agree n (number i) a b s g = refl
  operands_agree n (variable m) a b s g = g m s
  operands_agree n (plus x y) a b s g = let p = operands_agree n x a b s.0 g in let q = operands_agree n y a b s.1 g in (λ i. p i +ℤ q i)
  operands_agree n (minus x y) a b s g = let p = operands_agree n x a b s.0 g in let q = operands_agree n y a b s.1 g in (λ i. p i -ℤ q i)
  operands_agree n (times x y) a b s g = let p = operands_agree n x a b s.0 g in let q = operands_agree n y a b s.1 g in (λ i. p i *ℤ q i)
  operands_agree n (positive x) a b s g = operands_agree n x a b s g
  operands_agree n (negative x) a b s g = ap neg_ℤ (operands_agree n x a b s g)
  operands_agree n (absolute x) a b s g = ap magnitude (operands_agree n x a b s g)
  operands_agree n (total xs) a b s g = totals_agree n xs a b s g
  operands_agree n (no_operand t) a b s g = refl

  totals_agree : (n : ℕ) (xs : Operands) (a b : ℕ → ℤ) → OperandsBelow n xs → AgreeBelow n a b → total_value b xs ≡ total_value a xs
  totals_agree n no_operands a b s g = refl
  totals_agree n (operand x xs) a b s g = let p = operands_agree n x a b s.0 g in let q = totals_agree n xs a b s.1 g in (λ i. p i +ℤ q i)

nothing_more : (x : ℤ) → pos 0 +ℤ x ≡ x
nothing_more x = omega (arith, ints)

no_more : (x : ℤ) → x +ℤ pos 0 ≡ x
no_more x = omega (arith, ints)

regroup : (x y z : ℤ) → (x +ℤ y) +ℤ z ≡ x +ℤ (y +ℤ z)
regroup x y z = omega (arith, ints)

-- ---- a sum that was read

pub record SumRead (m : Made) (l : Known Sum) (v : (ℕ → ℤ) → ℤ) : Type 0 where
  pub grows : Grows Any m l.made
  pub joined : IsJoined l.made.unused l.what
  pub value : (a : ℕ → ℤ) → AllHold l.made.constraints a → sum_value a l.what ≡ v a

-- nothing more is made
read_at_once : (m : Made) (u : Sum) (v : (ℕ → ℤ) → ℤ) → IsJoined m.unused u → ((a : ℕ → ℤ) → AllHold m.constraints a → sum_value a u ≡ v a) → SumRead m (record { what = u; made = m }) v
read_at_once m u v s h = record { grows = grows_none Any m; joined = s; value = h }

-- something was made before
read_behind : (m k : Made) (l : Known Sum) (v : (ℕ → ℤ) → ℤ) → Grows Any m k → SumRead k l v → SumRead m l v
read_behind m k l v g r = record { grows = grows_then Any Any m k l.made g r.grows (λ a b p s h. tt); joined = r.joined; value = r.value }

-- the value said otherwise
read_as : (m : Made) (l : Known Sum) (v w : (ℕ → ℤ) → ℤ) → SumRead m l v → ((a : ℕ → ℤ) → AllHold l.made.constraints a → v a ≡ w a) → SumRead m l w
read_as m l v w r e = record { grows = r.grows; joined = r.joined; value = λ a h. r.value a h ∙ e a h }

pub step_is : (u : Sum) (m : Made) (l : Known Sum) → step u m ≡ Ok l → record { what = u; made = m } ≡ l
step_is u m l e = by (have_128_bits u.terms && has_128_bits u.constant) e
  where
    by : (b : Bool) → cond {A = Reading Sum} b (gives u) (refuses wide_coefficient) m ≡ Ok l → record { what = u; made = m } ≡ l
    by true f = is_known (record { what = u; made = m }) l f
    by false f = absurd cc

step-read : (u : Sum) (m : Made) (l : Known Sum) (v : (ℕ → ℤ) → ℤ) → IsJoined m.unused u → ((a : ℕ → ℤ) → AllHold m.constraints a → sum_value a u ≡ v a) → step u m ≡ Ok l → SumRead m l v
step-read u m l v s h e = subst (λ (k : Known Sum). SumRead m k v) (step_is u m l e) (read_at_once m u v s h)

-- a node with two operands, whose sum is a step
both-read : (m : Made) (u : Known Sum) (w : Known Sum) (f : Sum → Sum → Sum) (g : ℤ → ℤ → ℤ) (v x : (ℕ → ℤ) → ℤ) (l : Known Sum)
    → ((n : ℕ) (p q : Sum) → IsJoined n p → IsJoined n q → IsJoined n (f p q))
    → ((a : ℕ → ℤ) (p q : Sum) → sum_value a (f p q) ≡ g (sum_value a p) (sum_value a q))
    → SumRead m u v → SumRead u.made w x → step (f u.what w.what) w.made ≡ Ok l → SumRead m l (λ a. g (v a) (x a))
both-read m u w f g v x l joins values r s e =
    read_behind m w.made l (λ a. g (v a) (x a)) (grows_then Any Any m u.made w.made r.grows s.grows (λ a b p q h. tt))
    (step-read (f u.what w.what) w.made l (λ a. g (v a) (x a)) (joins w.made.unused u.what w.what (ascend_below u.made.unused w.made.unused 0 u.what.terms s.grows.more r.joined) s.joined)
    (λ a h. values a u.what w.what ∙ (let p = r.value a (s.grows.keeps a h) in let q = s.value a h in (λ i. g (p i) (q i)))) e)

-- ---- sides

record VariableRead (m : Made) (l : Known ℕ) (v : (ℕ → ℤ) → ℤ) : Type 0 where
  grows : Grows Any m l.made
  below : l.what < l.made.unused
  value : (a : ℕ → ℤ) → AllHold l.made.constraints a → a l.what ≡ v a

some_is : {A : Type 0} (x y : A) → Some x ≡ Some y → x ≡ y
some_is {A} x y e = ap {A = Option A} (λ o. unwrap_or o x) e

constant_of_is : (ts : List (ℤ × ℕ)) (k c : ℤ) → constant_of_terms ts k ≡ Some c → (ts ≡ []) × (k ≡ c)
constant_of_is [] k c e = (refl, some_is k c e)
constant_of_is (t ∷ ts) k c e = absurd cc

constant-value : (a : ℕ → ℤ) (u : Sum) (c : ℤ) → constant_of u ≡ Some c → sum_value a u ≡ c
unfolding sum_of
constant-value a u c e =
    let s : (u.terms ≡ []) × (u.constant ≡ c) = constant_of_is u.terms u.constant c e in
    (λ i. s.1 i +ℤ sum_of a (s.0 i)) ∙ no_more c

same_integer : (x y : ℤ) → int_eq x y ≡ true → x ≡ y
same_integer x y e = grind (arith, ints)

variable_of_is : (ts : List (ℤ × ℕ)) (k : ℤ) (n : ℕ) → variable_of_terms ts k ≡ Some n → (ts ≡ (pos 1, n) ∷ []) × (k ≡ pos 0)
variable_of_is [] k n e = absurd cc
variable_of_is (t ∷ []) k n e = by (int_eq t.0 (pos 1)) (int_eq k (pos 0)) refl refl e
  where
    by : (p q : Bool) → int_eq t.0 (pos 1) ≡ p → int_eq k (pos 0) ≡ q → cond (p && q) (Some t.1) None ≡ Some n → (t ∷ [] ≡ (pos 1, n) ∷ []) × (k ≡ pos 0)
    by true true f g e = let c : t.0 ≡ pos 1 = same_integer t.0 (pos 1) f in let v : t.1 ≡ n = some_is t.1 n e in ((λ i. (c i, v i) ∷ []), same_integer k (pos 0) g)
    by true false f g e = absurd cc
    by false q f g e = absurd cc
variable_of_is (t ∷ u ∷ ts) k n e = absurd cc

not_empty : (n least : ℕ) (ts : List (ℤ × ℕ)) → AscendBelow n least ts → with_term (pos 1) n ts ≢ []
unfolding AscendBelow with_term
not_empty n least [] s e = absurd cc
not_empty n least (t ∷ ts) s e = by (nat_lt n t.1) (n == t.1) refl e
  where
    by : (less same : Bool) → (n == t.1) ≡ same → cond less (in_front (pos 1) n (t ∷ ts)) (cond same (in_front (pos 1 +ℤ t.0) n ts) (t ∷ with_term (pos 1) n ts)) ≡ [] → ⊥
    by true same f e = absurd cc
    by false true f e = omega (arith, s.2, eqb-true n t.1 f)
    by false false f e = absurd cc

-- a new variable N with N - side = 0
side-defines : (n : ℕ) (before : List Constraint) (u : Sum) → IsJoined n u → Defines Any n before (linear Rel.Equal (difference (of_variable n) u) ∷ []) (λ a. sum_value a u)
unfolding AreFormed AllHold with_terms
side-defines n before u s = record {
  formed = (
    (
      not_empty n 0 (scaled_terms (negsuc 0) u.terms) (joined-scaled n (negsuc 0) u s),
      joined-difference (suc n) (of_variable n) u (joined-of_variable (suc n) n (omega arith)) (ascend_below n (suc n) 0 u.terms (omega arith) s),
    ),
    tt,
  );
  agrees = λ a b g. sum_values_agree n u a b s g;
  possible = λ a b p g. tt;
  holds = λ a p z e. (apart a ∙ none (a n) (sum_value a u) e, tt);
  only = λ a z h. same (a n) (sum_value a u) (sym (apart a) ∙ h.0);
}
  where
    apart : (a : ℕ → ℤ) → sum_value a (difference (of_variable n) u) ≡ a n -ℤ sum_value a u
    apart a = value-difference a (of_variable n) u ∙ ap (λ (x : ℤ). x -ℤ sum_value a u) (value-of_variable a n)

    none : (x y : ℤ) → x ≡ y → x -ℤ y ≡ pos 0
    none x y e = omega (arith, ints)

    same : (x y : ℤ) → x -ℤ y ≡ pos 0 → x ≡ y
    same x y e = omega (arith, ints)

side-read : (m : Made) (u : Sum) (l : Known ℕ) → IsJoined m.unused u → side u m ≡ Ok l → VariableRead m l (λ a. sum_value a u)
unfolding AscendBelow sum_of
side-read m u l s e = by (variable_of u) refl e
  where
    alone : (n : ℕ) → (u.terms ≡ (pos 1, n) ∷ []) × (u.constant ≡ pos 0) → VariableRead m (record { what = n; made = m }) (λ a. sum_value a u)
    alone n f = record {
      grows = grows_none Any m;
      below = (subst (λ ts. AscendBelow m.unused 0 ts) f.0 s).2;
      value = λ a h. sym (value-of_variable a n) ∙ (λ i. sym f.1 i +ℤ sum_of a (sym f.0 i));
    }

    by : (o : Option ℕ) → variable_of u ≡ o → side_by o u m ≡ Ok l → VariableRead m l (λ a. sum_value a u)
    by (Some n) f e = subst (λ k. VariableRead m k (λ a. sum_value a u)) (is_known (record { what = n; made = m }) l e) (alone n (variable_of_is u.terms u.constant n f))
    by None f e =
        let k : Known ℕ = record { what = m.unused; made = record { unused = suc m.unused; constraints = m.constraints ++ linear Rel.Equal (difference (of_variable m.unused) u) ∷ [] } } in
        let d : Defines Any m.unused m.constraints (linear Rel.Equal (difference (of_variable m.unused) u) ∷ []) (λ a. sum_value a u) = side-defines m.unused m.constraints u s in
        subst (λ k. VariableRead m k (λ a. sum_value a u)) (is_known k l e) (record {
          grows = grows_defined Any m (linear Rel.Equal (difference (of_variable m.unused) u) ∷ []) (λ a. sum_value a u) d;
          below = omega arith;
          value = λ a h.
              d.only a (hold-first m.constraints (linear Rel.Equal (difference (of_variable m.unused) u) ∷ []) a h)
              (hold-added m.constraints (linear Rel.Equal (difference (of_variable m.unused) u) ∷ []) a h);
        })

-- ---- a new variable that is a product or an absolute value

product-defines : (n x y : ℕ) (before : List Constraint) → x < n → y < n → Defines Any n before (Constraint.Product (Item.Var n) (Item.Var x) (Item.Var y) ∷ []) (λ a. a x *ℤ a y)
unfolding AreFormed AllHold
product-defines n x y before h k = record {
  formed = ((λ m e. omega (arith, e), λ m e. omega (arith, e), λ m e. omega (arith, e)), tt);
  agrees = λ a b g. (λ i. g x h i *ℤ g y k i);
  possible = λ a b p g. tt;
  holds = λ a p y e. (e, tt);
  only = λ a y z. z.0;
}

absolute-defines : (n x : ℕ) (before : List Constraint) → x < n → Defines Any n before (Constraint.Absolute (Item.Var n) (Item.Var x) ∷ []) (λ a. magnitude (a x))
unfolding AreFormed AllHold
absolute-defines n x before h = record {
  formed = ((λ m e. omega (arith, e), λ m e. omega (arith, e)), tt);
  agrees = λ a b g. ap magnitude (g x h);
  possible = λ a b p g. tt;
  holds = λ a p y e. (e, tt);
  only = λ a y z. z.0;
}

-- a new variable as a sum, which one constraint gives its value
defined-read : (m : Made) (c : Constraint) (v : (ℕ → ℤ) → ℤ) → Defines Any m.unused m.constraints (c ∷ []) v →
    SumRead m (record { what = of_variable m.unused; made = record { unused = suc m.unused; constraints = m.constraints ++ c ∷ [] } }) v
defined-read m c v d = record {
  grows = grows_defined Any m (c ∷ []) v d;
  joined = joined-of_variable (suc m.unused) m.unused (omega arith);
  value = λ a h. value-of_variable a m.unused ∙ d.only a (hold-first m.constraints (c ∷ []) a h) (hold-added m.constraints (c ∷ []) a h);
}

product_variable-read : (m : Made) (x y : ℕ) (l : Known Sum) → x < m.unused → y < m.unused → product_variable x y m ≡ Ok l → SumRead m l (λ a. a x *ℤ a y)
product_variable-read m x y l h k e =
    let c : Constraint = Constraint.Product (Item.Var m.unused) (Item.Var x) (Item.Var y) in
    subst (λ k. SumRead m k (λ a. a x *ℤ a y)) (is_known (record { what = of_variable m.unused; made = record { unused = suc m.unused; constraints = m.constraints ++ c ∷ [] } }) l e)
    (defined-read m c (λ a. a x *ℤ a y) (product-defines m.unused x y m.constraints h k))

absolute_variable-read : (m : Made) (x : ℕ) (l : Known Sum) → x < m.unused → absolute_variable x m ≡ Ok l → SumRead m l (λ a. magnitude (a x))
absolute_variable-read m x l h e =
    let c : Constraint = Constraint.Absolute (Item.Var m.unused) (Item.Var x) in
    subst (λ k. SumRead m k (λ a. magnitude (a x))) (is_known (record { what = of_variable m.unused; made = record { unused = suc m.unused; constraints = m.constraints ++ c ∷ [] } }) l e)
    (defined-read m c (λ a. magnitude (a x)) (absolute-defines m.unused x m.constraints h))

product-read : (m : Made) (u v : Sum) (l : Known Sum) → IsJoined m.unused u → IsJoined m.unused v → product u v m ≡ Ok l → SumRead m l (λ a. sum_value a u *ℤ sum_value a v)
product-read m u v l s r e = by (constant_of u) (constant_of v) refl refl e
  where
    by : (c d : Option ℤ) → constant_of u ≡ c → constant_of v ≡ d → product_by c d u v m ≡ Ok l → SumRead m l (λ a. sum_value a u *ℤ sum_value a v)
    by (Some c) d f g e =
        subst (λ k. SumRead m k (λ a. sum_value a u *ℤ sum_value a v)) (is_known (record { what = scaled c v; made = m }) l e)
        (read_at_once m (scaled c v) (λ a. sum_value a u *ℤ sum_value a v) (joined-scaled m.unused c v r)
        (λ a h. sums_scale a c v ∙ ap (λ (x : ℤ). x *ℤ sum_value a v) (sym (constant-value a u c f))))
    by None (Some d) f g e =
        subst (λ k. SumRead m k (λ a. sum_value a u *ℤ sum_value a v)) (is_known (record { what = scaled d u; made = m }) l e)
        (read_at_once m (scaled d u) (λ a. sum_value a u *ℤ sum_value a v) (joined-scaled m.unused d u s)
        (λ a h. sums_scale a d u ∙ (*ℤ_comm d (sum_value a u) ∙ ap (λ (x : ℤ). sum_value a u *ℤ x) (sym (constant-value a v d g)))))
    by None None f g e =
        let first = after_is (side u m) (λ x. then (side v) (λ y. product_variable x y)) l e in
        let x : VariableRead m first.0 (λ a. sum_value a u) = side-read m u first.0 s first.1 in
        let second = after_is (side v first.0.made) (λ y. product_variable first.0.what y) l first.2 in
        let y : VariableRead first.0.made second.0 (λ a. sum_value a v) = side-read first.0.made v second.0 (ascend_below m.unused first.0.made.unused 0 v.terms x.grows.more r) second.1 in
        let z : SumRead second.0.made l (λ a. a first.0.what *ℤ a second.0.what) =
        product_variable-read second.0.made first.0.what second.0.what l (omega (arith, x.below, y.grows.more)) y.below second.2 in
        read_behind m second.0.made l (λ a. sum_value a u *ℤ sum_value a v) (grows_then Any Any m first.0.made second.0.made x.grows y.grows (λ a b p q h. tt))
        (read_as second.0.made l (λ a. a first.0.what *ℤ a second.0.what) (λ a. sum_value a u *ℤ sum_value a v) z
        (λ a h. let before = z.grows.keeps a h in (λ i. x.value a (y.grows.keeps a before) i *ℤ y.value a before i)))

absolute_sum-read : (m : Made) (u : Sum) (l : Known Sum) → IsJoined m.unused u → absolute_sum u m ≡ Ok l → SumRead m l (λ a. magnitude (sum_value a u))
absolute_sum-read m u l s e = by (constant_of u) refl e
  where
    by : (c : Option ℤ) → constant_of u ≡ c → absolute_by c u m ≡ Ok l → SumRead m l (λ a. magnitude (sum_value a u))
    by (Some c) f e =
        subst (λ k. SumRead m k (λ a. magnitude (sum_value a u))) (is_known (record { what = of_number (magnitude c); made = m }) l e)
        (read_at_once m (of_number (magnitude c)) (λ a. magnitude (sum_value a u)) (joined-of_number m.unused (magnitude c))
        (λ a h. value-of_number a (magnitude c) ∙ ap magnitude (sym (constant-value a u c f))))
    by None f e =
        let first = after_is (side u m) absolute_variable l e in
        let x : VariableRead m first.0 (λ a. sum_value a u) = side-read m u first.0 s first.1 in
        let z : SumRead first.0.made l (λ a. magnitude (a first.0.what)) = absolute_variable-read first.0.made first.0.what l x.below first.2 in
        read_behind m first.0.made l (λ a. magnitude (sum_value a u)) x.grows
        (read_as first.0.made l (λ a. magnitude (a first.0.what)) (λ a. magnitude (sum_value a u)) z (λ a h. ap magnitude (x.value a (z.grows.keeps a h))))

-- ---- operands

-- a node with one operand
one-read : (m : Made) (u : Known Sum) (f : Sum → Sum) (g : ℤ → ℤ) (v : (ℕ → ℤ) → ℤ) (l : Known Sum)
    → ((n : ℕ) (p : Sum) → IsJoined n p → IsJoined n (f p)) → ((a : ℕ → ℤ) (p : Sum) → sum_value a (f p) ≡ g (sum_value a p))
    → SumRead m u v → step (f u.what) u.made ≡ Ok l → SumRead m l (λ a. g (v a))
one-read m u f g v l joins values r e =
    read_behind m u.made l (λ a. g (v a)) r.grows
    (step-read (f u.what) u.made l (λ a. g (v a)) (joins u.made.unused u.what r.joined) (λ a h. values a u.what ∙ ap g (r.value a h)) e)

-- a node whose sum was made by itself
made-read : (m k : Made) (w l : Known Sum) (v : (ℕ → ℤ) → ℤ) → Grows Any m k → SumRead k w v → step w.what w.made ≡ Ok l → SumRead m l v
made-read m k w l v g r e =
    read_behind m w.made l v (grows_then Any Any m k w.made g r.grows (λ a b p q h. tt)) (step-read w.what w.made l v r.joined r.value e)

mutual
  unfolding read_operand OperandBelow operand_value

  pub operand-read : (n : ℕ) (x : Operand) (m : Made) (l : Known Sum) → OperandBelow n x → n ≤ m.unused → read_operand x m ≡ Ok l → SumRead m l (λ a. operand_value a x)
  operand-read n (number i) m l s b e = subst (λ k. SumRead m k (λ a. i)) (is_known (record { what = of_number i; made = m }) l e) (read_at_once m (of_number i) (λ a. i) (joined-of_number m.unused i) (λ a h. value-of_number a i))
  operand-read n (variable k) m l s b e =
      subst (λ w. SumRead m w (λ a. a k)) (is_known (record { what = of_variable k; made = m }) l e) (read_at_once m (of_variable k) (λ a. a k) (joined-of_variable m.unused k (omega (arith, s, b))) (λ a h. value-of_variable a k))
  operand-read n (plus x y) m l s b e =
      let first = after_is (read_operand x m) (λ u. then (read_operand y) (λ v. step (added u v))) l e in
      let second = after_is (read_operand y first.0.made) (λ v. step (added first.0.what v)) l first.2 in
      let u : SumRead m first.0 (λ a. operand_value a x) = operand-read n x m first.0 s.0 b first.1 in
      let v : SumRead first.0.made second.0 (λ a. operand_value a y) = operand-read n y first.0.made second.0 s.1 (omega (arith, b, u.grows.more)) second.1 in
      both-read m first.0 second.0 added (λ p q. p +ℤ q) (λ a. operand_value a x) (λ a. operand_value a y) l joined-added sums_add u v second.2
  operand-read n (minus x y) m l s b e =
      let first = after_is (read_operand x m) (λ u. then (read_operand y) (λ v. step (difference u v))) l e in
      let second = after_is (read_operand y first.0.made) (λ v. step (difference first.0.what v)) l first.2 in
      let u : SumRead m first.0 (λ a. operand_value a x) = operand-read n x m first.0 s.0 b first.1 in
      let v : SumRead first.0.made second.0 (λ a. operand_value a y) = operand-read n y first.0.made second.0 s.1 (omega (arith, b, u.grows.more)) second.1 in
      both-read m first.0 second.0 difference (λ p q. p -ℤ q) (λ a. operand_value a x) (λ a. operand_value a y) l joined-difference value-difference u v second.2
  operand-read n (times x y) m l s b e =
      let first = after_is (read_operand x m) (λ u. then (read_operand y) (λ v. then (product u v) step)) l e in
      let second = after_is (read_operand y first.0.made) (λ v. then (product first.0.what v) step) l first.2 in
      let third = after_is (product first.0.what second.0.what second.0.made) step l second.2 in
      let u : SumRead m first.0 (λ a. operand_value a x) = operand-read n x m first.0 s.0 b first.1 in
      let v : SumRead first.0.made second.0 (λ a. operand_value a y) = operand-read n y first.0.made second.0 s.1 (omega (arith, b, u.grows.more)) second.1 in
      let w : SumRead second.0.made third.0 (λ a. sum_value a first.0.what *ℤ sum_value a second.0.what) =
      product-read second.0.made first.0.what second.0.what third.0 (ascend_below first.0.made.unused second.0.made.unused 0 first.0.what.terms v.grows.more u.joined) v.joined third.1 in
      made-read m second.0.made third.0 l (λ a. operand_value a x *ℤ operand_value a y) (grows_then Any Any m first.0.made second.0.made u.grows v.grows (λ a b p q h. tt))
      (read_as second.0.made third.0 (λ a. sum_value a first.0.what *ℤ sum_value a second.0.what) (λ a. operand_value a x *ℤ operand_value a y) w
      (λ a h. let before = w.grows.keeps a h in (λ i. u.value a (v.grows.keeps a before) i *ℤ v.value a before i))) third.2
  operand-read n (positive x) m l s b e =
      let first = after_is (read_operand x m) step l e in
      one-read m first.0 (λ u. u) (λ p. p) (λ a. operand_value a x) l (λ n p h. h) (λ a p. refl) (operand-read n x m first.0 s b first.1) first.2
  operand-read n (negative x) m l s b e =
      let first = after_is (read_operand x m) (λ u. step (opposite u)) l e in
      one-read m first.0 opposite neg_ℤ (λ a. operand_value a x) l (λ n p h. joined-scaled n (negsuc 0) p h) value-opposite (operand-read n x m first.0 s b first.1) first.2
  operand-read n (absolute x) m l s b e =
      let first = after_is (read_operand x m) (λ u. then (absolute_sum u) step) l e in
      let second = after_is (absolute_sum first.0.what first.0.made) step l first.2 in
      let u : SumRead m first.0 (λ a. operand_value a x) = operand-read n x m first.0 s b first.1 in
      let w : SumRead first.0.made second.0 (λ a. magnitude (sum_value a first.0.what)) = absolute_sum-read first.0.made first.0.what second.0 u.joined second.1 in
      made-read m first.0.made second.0 l (λ a. magnitude (operand_value a x)) u.grows
      (read_as first.0.made second.0 (λ a. magnitude (sum_value a first.0.what)) (λ a. magnitude (operand_value a x)) w (λ a h. ap magnitude (u.value a (w.grows.keeps a h)))) second.2
  operand-read n (total xs) m l s b e =
      read_as m l (λ a. sum_value a (of_number (pos 0)) +ℤ total_value a xs) (λ a. total_value a xs) (items-read n xs (of_number (pos 0)) m l s b (joined-of_number m.unused (pos 0)) e)
      (λ a h. ap (λ (x : ℤ). x +ℤ total_value a xs) (value-of_number a (pos 0)) ∙ nothing_more (total_value a xs))
  operand-read n (no_operand t) m l s b e = absurd cc

  items-read : (n : ℕ) (xs : Operands) (u : Sum) (m : Made) (l : Known Sum) → OperandsBelow n xs → n ≤ m.unused → IsJoined m.unused u → read_items xs u m ≡ Ok l → SumRead m l (λ a. sum_value a u +ℤ total_value a xs)
  items-read n no_operands u m l s b j e =
      subst (λ k. SumRead m k (λ a. sum_value a u +ℤ pos 0)) (is_known (record { what = u; made = m }) l e)
      (read_at_once m u (λ a. sum_value a u +ℤ pos 0) j (λ a h. sym (no_more (sum_value a u))))
  items-read n (operand x xs) u m l s b j e =
      let first = after_is (read_operand x m) (λ v. then (step (added u v)) (read_items xs)) l e in
      let second = after_is (step (added u first.0.what) first.0.made) (read_items xs) l first.2 in
      let v : SumRead m first.0 (λ a. operand_value a x) = operand-read n x m first.0 s.0 b first.1 in
      let w : SumRead m second.0 (λ a. sum_value a u +ℤ operand_value a x) =
      both-read m (record { what = u; made = m }) first.0 added (λ p q. p +ℤ q) (λ a. sum_value a u) (λ a. operand_value a x) second.0 joined-added sums_add
      (read_at_once m u (λ a. sum_value a u) j (λ a h. refl)) v second.1 in
      let rest : SumRead second.0.made l (λ a. sum_value a second.0.what +ℤ total_value a xs) = items-read n xs second.0.what second.0.made l s.1 (omega (arith, b, w.grows.more)) w.joined second.2 in
      read_behind m second.0.made l (λ a. sum_value a u +ℤ (operand_value a x +ℤ total_value a xs)) w.grows
      (read_as second.0.made l (λ a. sum_value a second.0.what +ℤ total_value a xs) (λ a. sum_value a u +ℤ (operand_value a x +ℤ total_value a xs)) rest
      (λ a h. ap (λ (p : ℤ). p +ℤ total_value a xs) (w.value a (rest.grows.keeps a h)) ∙ regroup (sum_value a u) (operand_value a x) (total_value a xs)))
