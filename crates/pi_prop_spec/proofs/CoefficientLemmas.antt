-- The coefficients of joined sums.
use Rattle.std.specs.Prelude.{◌≡◌, ◌≢◌, ℕ, zero, suc, ◌==◌, nat_lt, ◌<◌, ◌≤◌, Bool, true, false, cond, List, [], ◌∷◌, ℤ, pos, negsuc, ◌+ℤ◌, ◌*ℤ◌, refl}
use Rattle.std.proofs.Common.{arith, tests, ltb-true, ltb-false, eqb-true, ◌∙◌, ap, sym, subst}
use Rattle.std.proofs.lemmas.Int.{ints}
use Rattle.std.proofs.Math.IntN.{*ℤ-zero}
use Rattle.pi_prop_spec.specs.PostingSums.{in_front, with_term, with_terms, scaled_terms, Ascend, coefficient}
use Rattle.pi_prop_spec.specs.PostingLaws.{SumsStayJoined, CoefficientsAdd, CoefficientsScale, CoefficientsTellTerms}
use Rattle.pi_prop_spec.proofs.PostingSumLemmas.{distributes_left}

-- ---- terms ascend

ascend_from : (least l : ℕ) (ts : List (ℤ × ℕ)) → l ≤ least → Ascend least ts → Ascend l ts
unfolding Ascend
ascend_from least l [] h s = tt
ascend_from least l (t ∷ ts) h s = (s.0, omega (arith, s.1, h), s.2)

not_zero_pos : (c : ℕ) → pos (suc c) ≢ pos 0
not_zero_pos c e = omega (arith, ints)

not_zero_negsuc : (c : ℕ) → negsuc c ≢ pos 0
not_zero_negsuc c e = omega (arith, ints)

ascend-in_front : (least m : ℕ) (c : ℤ) (ts : List (ℤ × ℕ)) → least ≤ m → Ascend (suc m) ts → Ascend least (in_front c m ts)
unfolding Ascend
ascend-in_front least m (pos zero) ts l s = ascend_from (suc m) least ts (omega (arith, l)) s
ascend-in_front least m (pos (suc c)) ts l s = (not_zero_pos c, l, s)
ascend-in_front least m (negsuc c) ts l s = (not_zero_negsuc c, l, s)

ascend-with_term : (least m : ℕ) (c : ℤ) (ts : List (ℤ × ℕ)) → least ≤ m → Ascend least ts → Ascend least (with_term c m ts)
unfolding with_term Ascend
ascend-with_term least m c [] l s = ascend-in_front least m c [] l tt
ascend-with_term least m c (t ∷ ts) l s = by (λ h. ascend-with_term (suc t.1) m c ts h s.2) (nat_lt m t.1) (m == t.1) refl refl
  where
    by : (suc t.1 ≤ m → Ascend (suc t.1) (with_term c m ts)) → (less same : Bool) → nat_lt m t.1 ≡ less → (m == t.1) ≡ same →
        Ascend least (cond less (in_front c m (t ∷ ts)) (cond same (in_front (c +ℤ t.0) m ts) (t ∷ with_term c m ts)))
    by rest true same e f = ascend-in_front least m c (t ∷ ts) l (s.0, omega (arith, ltb-true m t.1 e), s.2)
    by rest false true e f = ascend-in_front least m (c +ℤ t.0) ts l (subst (λ (k : ℕ). Ascend (suc k) ts) (sym (eqb-true m t.1 f)) s.2)
    by rest false false e f = (s.0, s.1, rest (grind (arith, tests, ltb-false m t.1 e, f)))

ascend-with_terms : (ts us : List (ℤ × ℕ)) → Ascend 0 us → Ascend 0 (with_terms ts us)
unfolding with_terms
ascend-with_terms [] us r = r
ascend-with_terms (t ∷ ts) us r = ascend-with_term 0 t.1 t.0 (with_terms ts us) (omega arith) (ascend-with_terms ts us r)

ascend-scaled : (least : ℕ) (c : ℤ) (ts : List (ℤ × ℕ)) → Ascend least ts → Ascend least (scaled_terms c ts)
unfolding scaled_terms Ascend
ascend-scaled least c [] s = tt
ascend-scaled least c (t ∷ ts) s = ascend-in_front least t.1 (c *ℤ t.0) (scaled_terms c ts) s.1 (ascend-scaled (suc t.1) c ts s.2)

pub sums_stay_joined : SumsStayJoined
sums_stay_joined c u v s r = (ascend-with_terms u.terms v.terms r, ascend-scaled 0 c u.terms s)

-- ---- their coefficients

coefficient-in_front : (c : ℤ) (m n : ℕ) (ts : List (ℤ × ℕ)) → coefficient (in_front c m ts) n ≡ cond (n == m) (c +ℤ coefficient ts n) (coefficient ts n)
unfolding coefficient
coefficient-in_front (pos zero) m n ts = by (n == m) (coefficient ts n)
  where
    by : (b : Bool) (x : ℤ) → x ≡ cond b (pos 0 +ℤ x) x
    by true x = omega (arith, ints)
    by false x = refl
coefficient-in_front (pos (suc c)) m n ts = refl
coefficient-in_front (negsuc c) m n ts = refl

coefficient-with_term : (c : ℤ) (m n : ℕ) (ts : List (ℤ × ℕ)) → coefficient (with_term c m ts) n ≡ cond (n == m) (c +ℤ coefficient ts n) (coefficient ts n)
unfolding with_term coefficient
coefficient-with_term c m n [] = coefficient-in_front c m n []
coefficient-with_term c m n (t ∷ ts) = by (coefficient-with_term c m n ts) (nat_lt m t.1) (m == t.1) refl
  where
    regroup : (x y z : ℤ) → (x +ℤ y) +ℤ z ≡ x +ℤ (y +ℤ z)
    regroup x y z = omega (arith, ints)

    swap : (x y z : ℤ) → y +ℤ (x +ℤ z) ≡ x +ℤ (y +ℤ z)
    swap x y z = omega (arith, ints)

    joined_at : (a : Bool) (x y z : ℤ) → cond a ((x +ℤ y) +ℤ z) z ≡ cond a (x +ℤ cond a (y +ℤ z) z) (cond a (y +ℤ z) z)
    joined_at true x y z = regroup x y z
    joined_at false x y z = refl

    apart : (a b : Bool) (x y z : ℤ) → cond b (y +ℤ cond a (x +ℤ z) z) (cond a (x +ℤ z) z) ≡ cond a (x +ℤ cond b (y +ℤ z) z) (cond b (y +ℤ z) z)
    apart true true x y z = swap x y z
    apart true false x y z = refl
    apart false true x y z = refl
    apart false false x y z = refl

    by : coefficient (with_term c m ts) n ≡ cond (n == m) (c +ℤ coefficient ts n) (coefficient ts n) → (less same : Bool) → (m == t.1) ≡ same →
        coefficient (cond less (in_front c m (t ∷ ts)) (cond same (in_front (c +ℤ t.0) m ts) (t ∷ with_term c m ts))) n
        ≡ cond (n == m) (c +ℤ cond (n == t.1) (t.0 +ℤ coefficient ts n) (coefficient ts n)) (cond (n == t.1) (t.0 +ℤ coefficient ts n) (coefficient ts n))
    by rest true same e = coefficient-in_front c m n (t ∷ ts)
    by rest false true e =
        coefficient-in_front (c +ℤ t.0) m n ts
        ∙ subst (λ (k : ℕ). cond (n == m) ((c +ℤ t.0) +ℤ coefficient ts n) (coefficient ts n) ≡ cond (n == m) (c +ℤ cond (n == k) (t.0 +ℤ coefficient ts n) (coefficient ts n)) (cond (n == k) (t.0 +ℤ coefficient ts n) (coefficient ts n)))
        (eqb-true m t.1 e) (joined_at (n == m) c t.0 (coefficient ts n))
    by rest false false e = ap (λ (x : ℤ). cond (n == t.1) (t.0 +ℤ x) x) rest ∙ apart (n == m) (n == t.1) c t.0 (coefficient ts n)

coefficient-with_terms : (ts us : List (ℤ × ℕ)) (n : ℕ) → coefficient (with_terms ts us) n ≡ coefficient ts n +ℤ coefficient us n
unfolding with_terms coefficient
coefficient-with_terms [] us n = nothing_more (coefficient us n)
  where
    nothing_more : (x : ℤ) → x ≡ pos 0 +ℤ x
    nothing_more x = omega (arith, ints)
coefficient-with_terms (t ∷ ts) us n =
    coefficient-with_term t.0 t.1 n (with_terms ts us) ∙ (ap (λ (x : ℤ). cond (n == t.1) (t.0 +ℤ x) x) (coefficient-with_terms ts us n) ∙ by (n == t.1) t.0 (coefficient ts n) (coefficient us n))
  where
    by : (b : Bool) (x y z : ℤ) → cond b (x +ℤ (y +ℤ z)) (y +ℤ z) ≡ cond b (x +ℤ y) y +ℤ z
    by true x y z = omega (arith, ints)
    by false x y z = refl

pub coefficients_add : CoefficientsAdd
coefficients_add u v n = coefficient-with_terms u.terms v.terms n

coefficient-scaled : (c : ℤ) (ts : List (ℤ × ℕ)) (n : ℕ) → coefficient (scaled_terms c ts) n ≡ c *ℤ coefficient ts n
unfolding scaled_terms coefficient
coefficient-scaled c [] n = sym (*ℤ-zero c)
coefficient-scaled c (t ∷ ts) n =
    coefficient-in_front (c *ℤ t.0) t.1 n (scaled_terms c ts) ∙ (ap (λ (x : ℤ). cond (n == t.1) (c *ℤ t.0 +ℤ x) x) (coefficient-scaled c ts n) ∙ by (n == t.1) (coefficient ts n))
  where
    by : (b : Bool) (x : ℤ) → cond b (c *ℤ t.0 +ℤ c *ℤ x) (c *ℤ x) ≡ c *ℤ cond b (t.0 +ℤ x) x
    by true x = sym (distributes_left c t.0 x)
    by false x = refl

pub coefficients_scale : CoefficientsScale
coefficients_scale c u n = coefficient-scaled c u.terms n

-- ---- terms by their coefficients

-- a variable below all of the terms
zero_below : (least n : ℕ) (ts : List (ℤ × ℕ)) → Ascend least ts → n < least → coefficient ts n ≡ pos 0
unfolding Ascend coefficient
zero_below least n [] s h = refl
zero_below least n (t ∷ ts) s h = by (zero_below (suc t.1) n ts s.2 (omega (arith, h, s.1))) (n == t.1) refl
  where
    by : coefficient ts n ≡ pos 0 → (b : Bool) → (n == t.1) ≡ b → cond b (t.0 +ℤ coefficient ts n) (coefficient ts n) ≡ pos 0
    by rest true e = absurd (omega (arith, h, s.1, eqb-true n t.1 e))
    by rest false e = rest

-- the first variable has its coefficient
first_coefficient : (t : ℤ × ℕ) (ts : List (ℤ × ℕ)) → Ascend (suc t.1) ts → coefficient (t ∷ ts) t.1 ≡ t.0
unfolding coefficient
first_coefficient t ts s = by (t.1 == t.1) refl
  where
    no_more : (x : ℤ) → x +ℤ pos 0 ≡ x
    no_more x = omega (arith, ints)

    by : (b : Bool) → (t.1 == t.1) ≡ b → cond b (t.0 +ℤ coefficient ts t.1) (coefficient ts t.1) ≡ t.0
    by true e = ap (λ (x : ℤ). t.0 +ℤ x) (zero_below (suc t.1) t.1 ts s (omega arith)) ∙ no_more t.0
    by false e = absurd (grind (arith, tests, e))

-- behind one first term
behind_first : (t : ℤ × ℕ) (ts us : List (ℤ × ℕ)) → Ascend (suc t.1) ts → Ascend (suc t.1) us → ((n : ℕ) → coefficient (t ∷ ts) n ≡ coefficient (t ∷ us) n) → (n : ℕ) → coefficient ts n ≡ coefficient us n
unfolding coefficient
behind_first t ts us s r h n = by (n == t.1) refl (h n)
  where
    by : (b : Bool) → (n == t.1) ≡ b → cond b (t.0 +ℤ coefficient ts n) (coefficient ts n) ≡ cond b (t.0 +ℤ coefficient us n) (coefficient us n) → coefficient ts n ≡ coefficient us n
    by true e f = zero_below (suc t.1) n ts s (omega (arith, eqb-true n t.1 e)) ∙ sym (zero_below (suc t.1) n us r (omega (arith, eqb-true n t.1 e)))
    by false e f = f

told_from : (l k : ℕ) (ts us : List (ℤ × ℕ)) → Ascend l ts → Ascend k us → ((n : ℕ) → coefficient ts n ≡ coefficient us n) → ts ≡ us
unfolding Ascend coefficient
told_from l k [] [] s r h = refl
told_from l k [] (u ∷ us) s r h = absurd (r.0 (sym (first_coefficient u us r.2) ∙ sym (h u.1)))
told_from l k (t ∷ ts) [] s r h = absurd (s.0 (sym (first_coefficient t ts s.2) ∙ h t.1))
told_from l k (t ∷ ts) (u ∷ us) s r h = by (told_from (suc t.1) (suc t.1) ts us) (nat_lt t.1 u.1) (nat_lt u.1 t.1) refl refl
  where
    by : (Ascend (suc t.1) ts → Ascend (suc t.1) us → ((n : ℕ) → coefficient ts n ≡ coefficient us n) → ts ≡ us) → (less more : Bool) → nat_lt t.1 u.1 ≡ less → nat_lt u.1 t.1 ≡ more → t ∷ ts ≡ u ∷ us
    by rest true more e f = absurd (s.0 (sym (first_coefficient t ts s.2) ∙ (h t.1 ∙ zero_below (suc t.1) t.1 (u ∷ us) (r.0, ltb-true t.1 u.1 e, r.2) (omega arith))))
    by rest false true e f = absurd (r.0 (sym (first_coefficient u us r.2) ∙ (sym (h u.1) ∙ zero_below (suc u.1) u.1 (t ∷ ts) (s.0, ltb-true u.1 t.1 f, s.2) (omega arith))))
    by rest false false e f =
        let same : t.1 ≡ u.1 = omega (arith, ltb-false t.1 u.1 e, ltb-false u.1 t.1 f) in
        let there : Ascend (suc t.1) us = subst (λ (k : ℕ). Ascend (suc k) us) (sym same) r.2 in
        let coefficients : t.0 ≡ u.0 =
        sym (first_coefficient t ts s.2) ∙ (h t.1 ∙ (ap (coefficient (u ∷ us)) same ∙ first_coefficient u us r.2)) in
        let first : t ≡ u = (λ i. (coefficients i, same i)) in
        let behind : (n : ℕ) → coefficient (t ∷ ts) n ≡ coefficient (t ∷ us) n = λ n. h n ∙ ap (λ (w : ℤ × ℕ). coefficient (w ∷ us) n) (sym first) in
        let tails : ts ≡ us = rest s.2 there (behind_first t ts us s.2 there behind) in
        (λ i. first i ∷ tails i)

pub coefficients_tell_terms : CoefficientsTellTerms
coefficients_tell_terms ts us s r h = told_from 0 0 ts us s r h
