-- A new variable without a sum: how many terms there are, and whether they are narrow.
use Rattle.std.specs.Prelude.{◌≡◌, ◌≢◌, ℕ, zero, suc, ◌<◌, ◌^◌, ◌==◌, nat_lt, nat_le, nat_abs, Bool, true, false, ◌&&◌, cond, List, [], ◌∷◌, length, Some, None, Ok, ℤ, pos, negsuc, ◌+ℤ◌, ◌*ℤ◌, refl}
use Rattle.std.proofs.Common.{arith, tests, ltb-true, eqb-true, ◌∙◌, ap, sym, subst}
use Rattle.std.proofs.lemmas.Int.{ints}
use Rattle.pi_effects.specs.Range.{has_128_bits}
use Rattle.pi_constraints.specs.declared.constraint.Rel.{Rel}
use Rattle.pi_prop_spec.specs.PostingSums.{Sum, of_variable, in_front, with_term, with_terms, scaled_terms, difference, Ascend}
use Rattle.pi_prop_spec.specs.Steps.{Made, linear, have_128_bits, variable_of, side, side_by}
use Rattle.pi_prop_spec.specs.Limits.{are_narrow, refusal_by, refusal_of}
use Rattle.pi_prop_made.specs.Steps.{fits}
use Rattle.pi_prop_made.specs.declared.limits.Limit.{Limit}
use Rattle.pi_prop_made.specs.declared.making.Making.{Making}
use Rattle.pi_prop_made.specs.Making.{refusal_for, Shows, Reads, AllBelow, with_constraint, with_variable}

pub in_front_some : (c : ℤ) (n : ℕ) (ts : List (ℤ × ℕ)) → c ≢ pos 0 → in_front c n ts ≡ (c, n) ∷ ts
in_front_some (pos zero) n ts h = absurd (h refl)
in_front_some (pos (suc c)) n ts h = refl
in_front_some (negsuc c) n ts h = refl

turned_some : (c : ℤ) → c ≢ pos 0 → negsuc 0 *ℤ c ≢ pos 0
turned_some c h e = h (omega (arith, ints, e))

-- the opposite has as many terms, of the same variables
length-opposite : (least : ℕ) (ts : List (ℤ × ℕ)) → Ascend least ts → length (scaled_terms (negsuc 0) ts) ≡ length ts
unfolding scaled_terms Ascend
length-opposite least [] s = refl
length-opposite least (t ∷ ts) s = let rest = length-opposite (suc t.1) ts s.2 in ap (λ (us : List (ℤ × ℕ)). length us) (in_front_some (negsuc 0 *ℤ t.0) t.1 (scaled_terms (negsuc 0) ts) (turned_some t.0 s.0)) ∙ grind (arith, rest)

below-opposite : (n least : ℕ) (ts : List (ℤ × ℕ)) → Ascend least ts → AllBelow n ts → AllBelow n (scaled_terms (negsuc 0) ts)
unfolding scaled_terms Ascend AllBelow
below-opposite n least [] s b = tt
below-opposite n least (t ∷ ts) s b =
    subst (AllBelow n) (sym (in_front_some (negsuc 0 *ℤ t.0) t.1 (scaled_terms (negsuc 0) ts) (turned_some t.0 s.0))) (b.0, below-opposite n (suc t.1) ts s.2 b.1)

length-behind : (n : ℕ) (ts : List (ℤ × ℕ)) → AllBelow n ts → length (with_term (pos 1) n ts) ≡ suc (length ts)
unfolding with_term AllBelow
length-behind n [] b = refl
length-behind n (t ∷ ts) b = by (length-behind n ts b.1) (nat_lt n t.1) (n == t.1) refl refl
  where
    by : length (with_term (pos 1) n ts) ≡ suc (length ts) → (less same : Bool) → nat_lt n t.1 ≡ less → (n == t.1) ≡ same →
        length (cond less (in_front (pos 1) n (t ∷ ts)) (cond same (in_front (pos 1 +ℤ t.0) n ts) (t ∷ with_term (pos 1) n ts))) ≡ suc (length (t ∷ ts))
    by rest true same e f = absurd (omega (arith, ltb-true n t.1 e, b.0))
    by rest false true e f = absurd (omega (arith, eqb-true n t.1 f, b.0))
    by rest false false e f = grind (arith, rest)

pub length-apart : (n : ℕ) (u : Sum) → Ascend 0 u.terms → AllBelow n u.terms → length (difference (of_variable n) u).terms ≡ suc (length u.terms)
unfolding with_terms
length-apart n u s b = length-behind n (scaled_terms (negsuc 0) u.terms) (below-opposite n 0 u.terms s b) ∙ ap suc (length-opposite 0 u.terms s)

-- ---- what doesn't fit isn't narrow

both_true : (p q : Bool) → (p && q) ≡ true → (p ≡ true) × (q ≡ true)
both_true true q e = (refl, e)
both_true false q e = absurd cc

both : (p q : Bool) → p ≡ true → q ≡ true → (p && q) ≡ true
both p q e f = (λ i. e i && f i)

narrow_fits : (bits : ℕ) (z : ℤ) → bits < 2 ^ 127 → nat_le (nat_abs z) bits ≡ true → has_128_bits z ≡ true
narrow_fits bits z l e = grind (arith, ints, tests, e, l)

narrow_terms_fit : (ts : List (ℤ × ℕ)) → are_narrow ts ≡ true → have_128_bits ts ≡ true
unfolding are_narrow have_128_bits
narrow_terms_fit [] e = refl
narrow_terms_fit (t ∷ ts) e =
    let h = both_true (nat_le (nat_abs t.0) (2 ^ 40)) (are_narrow ts) e in
    both (has_128_bits t.0) (have_128_bits ts) (narrow_fits (2 ^ 40) t.0 (omega arith) h.0) (narrow_terms_fit ts h.1)

not_narrow : (w : Sum) → fits w ≡ false → (are_narrow w.terms && nat_le (nat_abs w.constant) (2 ^ 100)) ≡ false
not_narrow w e = by (are_narrow w.terms && nat_le (nat_abs w.constant) (2 ^ 100)) refl
  where
    by : (b : Bool) → (are_narrow w.terms && nat_le (nat_abs w.constant) (2 ^ 100)) ≡ b → (are_narrow w.terms && nat_le (nat_abs w.constant) (2 ^ 100)) ≡ false
    by true f =
        let h = both_true (are_narrow w.terms) (nat_le (nat_abs w.constant) (2 ^ 100)) f in
        absurd (let g : fits w ≡ true = both (have_128_bits w.terms) (has_128_bits w.constant) (narrow_terms_fit w.terms h.0) (narrow_fits (2 ^ 100) w.constant (omega arith) h.1) in cc)
    by false f = f

pub apart_refused : (n : ℕ) (u : Sum) (limit : Limit) → Ascend 0 u.terms → AllBelow n u.terms → fits (difference (of_variable n) u) ≡ false → Some (refusal_for limit) ≡ refusal_by (suc (length u.terms)) false →
    refusal_of (linear Rel.Equal (difference (of_variable n) u)) ≡ Some (refusal_for limit)
apart_refused n u limit s b f e = (λ i. refusal_by (length-apart n u s b i) (not_narrow (difference (of_variable n) u) f i)) ∙ sym e

-- ---- sides

pub new_side : (u : Sum) (m : Made) (n : ℕ) (new : Making) → None ≡ variable_of u → n ≡ m.unused → Shows new (with_constraint (with_variable m) (linear Rel.Equal (difference (of_variable n) u))) → Reads (side u) m n new
new_side u m n new e is s = record {
  made = with_constraint (with_variable m) (linear Rel.Equal (difference (of_variable n) u));
  is = (λ i. side_by (sym e i) u m) ∙ ap (λ (k : ℕ). Ok (record { what = k; made = with_constraint (with_variable m) (linear Rel.Equal (difference (of_variable k) u)) })) (sym is);
  shown = s;
}
