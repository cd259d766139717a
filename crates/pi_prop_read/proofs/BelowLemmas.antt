-- The variables of a step are those of its sides and new ones.
use Rattle.std.specs.Prelude.{◌≡◌, ⊤, ℕ, zero, suc, ◌<◌, ◌≤◌, ◌==◌, nat_lt, Bool, true, false, ◌&&◌, cond, List, [], ◌∷◌, ℤ, pos, negsuc, ◌+ℤ◌, ◌*ℤ◌, Option, Some, None, Result, Ok, Err, refl}
use Rattle.std.proofs.Common.{arith, ◌∙◌, ap, sym, subst}
use Rattle.pi_effects.specs.Range.{has_128_bits}
use Rattle.pi_prop_spec.specs.Rules.{magnitude}
use Rattle.pi_prop_spec.specs.PostingSums.{Sum, of_number, of_variable, in_front, with_term, with_terms, scaled_terms, added, scaled, opposite, difference}
use Rattle.pi_prop_spec.specs.Steps.{Refusal, wide_coefficient, Made, Known, Reading, gives, refuses, after, then, have_128_bits, step, constant_of, variable_of, side, side_by, product, product_by, product_variable, absolute_sum, absolute_by, absolute_variable}
use Rattle.pi_prop_made.specs.Making.{AllBelow}
use Rattle.pi_prop_read.specs.declared.operands.node.Binary.{Binary}
use Rattle.pi_prop_read.specs.declared.operands.node.Unary.{Unary}
use Rattle.pi_prop_read.specs.OperandFrames.{combined, changed}

below-in_front : (n : ℕ) (c : ℤ) (k : ℕ) (ts : List (ℤ × ℕ)) → k < n → AllBelow n ts → AllBelow n (in_front c k ts)
unfolding AllBelow
below-in_front n (pos zero) k ts h b = b
below-in_front n (pos (suc c)) k ts h b = (h, b)
below-in_front n (negsuc c) k ts h b = (h, b)

below-with_term : (n : ℕ) (c : ℤ) (k : ℕ) (ts : List (ℤ × ℕ)) → k < n → AllBelow n ts → AllBelow n (with_term c k ts)
unfolding AllBelow with_term
below-with_term n c k [] h b = below-in_front n c k [] h b
below-with_term n c k (t ∷ ts) h b = by (nat_lt k t.1) (k == t.1) (below-with_term n c k ts h b.1)
  where
    by : (less same : Bool) → AllBelow n (with_term c k ts) → AllBelow n (cond less (in_front c k (t ∷ ts)) (cond same (in_front (c +ℤ t.0) k ts) (t ∷ with_term c k ts)))
    by true same rest = below-in_front n c k (t ∷ ts) h b
    by false true rest = below-in_front n (c +ℤ t.0) k ts h b.1
    by false false rest = (b.0, rest)

below-with_terms : (n : ℕ) (ts us : List (ℤ × ℕ)) → AllBelow n ts → AllBelow n us → AllBelow n (with_terms ts us)
unfolding AllBelow with_terms
below-with_terms n [] us a b = b
below-with_terms n (t ∷ ts) us a b = below-with_term n t.0 t.1 (with_terms ts us) a.0 (below-with_terms n ts us a.1 b)

below-scaled : (n : ℕ) (c : ℤ) (ts : List (ℤ × ℕ)) → AllBelow n ts → AllBelow n (scaled_terms c ts)
unfolding AllBelow scaled_terms
below-scaled n c [] b = tt
below-scaled n c (t ∷ ts) b = below-in_front n (c *ℤ t.0) t.1 (scaled_terms c ts) b.0 (below-scaled n c ts b.1)

pub below-number : (n : ℕ) (i : ℤ) → AllBelow n (of_number i).terms
unfolding AllBelow
below-number n i = tt

pub below-variable : (n k : ℕ) → k < n → AllBelow n (of_variable k).terms
unfolding AllBelow
below-variable n k h = (h, tt)

pub below_more : (n k : ℕ) (ts : List (ℤ × ℕ)) → n ≤ k → AllBelow n ts → AllBelow k ts
unfolding AllBelow
below_more n k [] l b = tt
below_more n k (t ∷ ts) l b = (omega (arith, l, b.0), below_more n k ts l b.1)

-- ---- what a reading makes

-- no variables are taken back, and the sum is one of those that were made by then
abbrev pub GrownFrom : ℕ → Result (Known Sum) Refusal → Type 0
GrownFrom n (Err r) = ⊤
GrownFrom n (Ok k) = (n ≤ k.made.unused) × AllBelow k.made.unused k.what.terms

grown-gives : (u : Sum) (m : Made) → AllBelow m.unused u.terms → GrownFrom m.unused (gives u m)
grown-gives u m b = (omega arith, b)

grown-step : (n : ℕ) (u : Sum) (m : Made) → n ≤ m.unused → AllBelow m.unused u.terms → GrownFrom n (step u m)
grown-step n u m l b = by (have_128_bits u.terms && has_128_bits u.constant)
  where
    by : (p : Bool) → GrownFrom n (cond p (gives u) (refuses wide_coefficient) m)
    by true = (l, b)
    by false = tt

grown-steps : (n : ℕ) (o : Result (Known Sum) Refusal) → GrownFrom n o → GrownFrom n (after o step)
grown-steps n (Err r) g = tt
grown-steps n (Ok k) g = grown-step n k.what k.made g.0 g.1

-- a side
abbrev SideFrom : ℕ → Result (Known ℕ) Refusal → Type 0
SideFrom n (Err r) = ⊤
SideFrom n (Ok k) = n ≤ k.made.unused

side-from : (u : Sum) (m : Made) → SideFrom m.unused (side u m)
side-from u m = by (variable_of u)
  where
    by : (o : Option ℕ) → SideFrom m.unused (side_by o u m)
    by (Some k) = omega arith
    by None = omega arith

after-side : (n : ℕ) (o : Result (Known ℕ) Refusal) (f : ℕ → Reading Sum) → SideFrom n o → ((x : ℕ) (m : Made) → n ≤ m.unused → GrownFrom n (f x m)) → GrownFrom n (after o f)
after-side n (Err r) f s g = tt
after-side n (Ok k) f s g = g k.what k.made s

less-side : (n k : ℕ) (o : Result (Known ℕ) Refusal) → n ≤ k → SideFrom k o → SideFrom n o
less-side n k (Err r) l s = tt
less-side n k (Ok j) l s = omega (arith, l, s)

product_variable-grows : (n x y : ℕ) (m : Made) → n ≤ m.unused → GrownFrom n (product_variable x y m)
product_variable-grows n x y m l = (omega (arith, l), below-variable (suc m.unused) m.unused (omega arith))

absolute_variable-grows : (n x : ℕ) (m : Made) → n ≤ m.unused → GrownFrom n (absolute_variable x m)
absolute_variable-grows n x m l = (omega (arith, l), below-variable (suc m.unused) m.unused (omega arith))

product-grows : (u v : Sum) (m : Made) → AllBelow m.unused u.terms → AllBelow m.unused v.terms → GrownFrom m.unused (product u v m)
product-grows u v m a b = by (constant_of u) (constant_of v)
  where
    by : (c d : Option ℤ) → GrownFrom m.unused (product_by c d u v m)
    by (Some c) d = grown-gives (scaled c v) m (below-scaled m.unused c v.terms b)
    by None (Some d) = grown-gives (scaled d u) m (below-scaled m.unused d u.terms a)
    by None None =
        after-side m.unused (side u m) (λ x. then (side v) (λ y. product_variable x y)) (side-from u m)
        (λ x k l. after-side m.unused (side v k) (λ y. product_variable x y) (less-side m.unused k.unused (side v k) l (side-from v k)) (λ y j h. product_variable-grows m.unused x y j h))

absolute-grows : (u : Sum) (m : Made) → GrownFrom m.unused (absolute_sum u m)
absolute-grows u m = by (constant_of u)
  where
    by : (c : Option ℤ) → GrownFrom m.unused (absolute_by c u m)
    by (Some c) = grown-gives (of_number (magnitude c)) m (below-number m.unused (magnitude c))
    by None = after-side m.unused (side u m) absolute_variable (side-from u m) (λ x k l. absolute_variable-grows m.unused x k l)

pub combined-grows : (o : Binary) (u v : Sum) (m : Made) → AllBelow m.unused u.terms → AllBelow m.unused v.terms → GrownFrom m.unused (combined o u v m)
combined-grows Binary.Plus u v m a b = grown-step m.unused (added u v) m (omega arith) (below-with_terms m.unused u.terms v.terms a b)
combined-grows Binary.Minus u v m a b =
    grown-step m.unused (difference u v) m (omega arith) (below-with_terms m.unused u.terms (opposite v).terms a (below-scaled m.unused (negsuc 0) v.terms b))
combined-grows Binary.Times u v m a b = grown-steps m.unused (product u v m) (product-grows u v m a b)

pub changed-grows : (o : Unary) (u : Sum) (m : Made) → AllBelow m.unused u.terms → GrownFrom m.unused (changed o u m)
changed-grows Unary.Positive u m a = grown-step m.unused u m (omega arith) a
changed-grows Unary.Negative u m a = grown-step m.unused (opposite u) m (omega arith) (below-scaled m.unused (negsuc 0) u.terms a)
changed-grows Unary.Absolute u m a = grown-steps m.unused (absolute_sum u m) (absolute-grows u m)
