-- Terms that ascend, constraints that are formed as they may be posted, and what holds of values that agree.
use Rattle.std.specs.Prelude.{◌≡◌, ◌≢◌, ⊤, ℕ, zero, suc, ◌==◌, nat_lt, ◌<◌, ◌≤◌, Bool, true, false, cond, List, [], ◌∷◌, get_or, ℤ, pos, negsuc, ◌+ℤ◌, ◌*ℤ◌, refl}
use Rattle.std.proofs.Common.{arith, tests, ltb-true, ltb-false, eqb-true, ◌∙◌, ap, sym, subst, inl, inr}
use Rattle.std.proofs.lemmas.Int.{ints}
use Rattle.pi_constraints.specs.declared.constraint.Item.{Item}
use Rattle.pi_constraints.specs.declared.constraint.Constraint.{Constraint}
use Rattle.pi_constraints.specs.Constraint.{HoldsVariable, HoldVariable, SumHasVariable, SpeaksOf}
use Rattle.pi_prop_spec.specs.Solutions.{sum_of, value_of, values_of_items, Stands, AreDifferent, Holds}
use Rattle.pi_prop_spec.specs.Rules.{magnitude}
use Rattle.pi_prop_spec.specs.PostingSums.{Sum, of_number, of_variable, of_item, in_front, with_term, with_terms, scaled_terms, added, scaled, opposite, difference, sum_value}
use Rattle.pi_prop_spec.specs.Says.{AgreeBelow}

-- ---- terms that ascend

-- variables ascend from `least` on and are below n, and no coefficient is 0
unfoldable pub AscendBelow : ℕ → ℕ → List (ℤ × ℕ) → Type 0
AscendBelow n least [] = ⊤
AscendBelow n least (t ∷ ts) = (t.0 ≢ pos 0) × (least ≤ t.1) × (t.1 < n) × AscendBelow n (suc t.1) ts

ascend_from : (n least l : ℕ) (ts : List (ℤ × ℕ)) → l ≤ least → AscendBelow n least ts → AscendBelow n l ts
unfolding AscendBelow
ascend_from n least l [] h s = tt
ascend_from n least l (t ∷ ts) h s = (s.0, omega (arith, s.1), s.2, s.3)

pub ascend_below : (n m least : ℕ) (ts : List (ℤ × ℕ)) → n ≤ m → AscendBelow n least ts → AscendBelow m least ts
unfolding AscendBelow
ascend_below n m least [] h s = tt
ascend_below n m least (t ∷ ts) h s = (s.0, s.1, omega (arith, s.2), ascend_below n m (suc t.1) ts h s.3)

not_zero_pos : (c : ℕ) → pos (suc c) ≢ pos 0
not_zero_pos c e = omega (arith, ints)

not_zero_negsuc : (c : ℕ) → negsuc c ≢ pos 0
not_zero_negsuc c e = omega (arith, ints)

ascend-in_front : (n least m : ℕ) (c : ℤ) (ts : List (ℤ × ℕ)) → least ≤ m → m < n → AscendBelow n (suc m) ts → AscendBelow n least (in_front c m ts)
unfolding AscendBelow
ascend-in_front n least m (pos zero) ts l b s = ascend_from n (suc m) least ts (omega arith) s
ascend-in_front n least m (pos (suc c)) ts l b s = (not_zero_pos c, l, b, s)
ascend-in_front n least m (negsuc c) ts l b s = (not_zero_negsuc c, l, b, s)

ascend-with_term : (n least m : ℕ) (c : ℤ) (ts : List (ℤ × ℕ)) → least ≤ m → m < n → AscendBelow n least ts → AscendBelow n least (with_term c m ts)
unfolding with_term AscendBelow
ascend-with_term n least m c [] l b s = ascend-in_front n least m c [] l b tt
ascend-with_term n least m c (t ∷ ts) l b s = by (λ h. ascend-with_term n (suc t.1) m c ts h b s.3) (nat_lt m t.1) (m == t.1) refl refl
  where
    by : (suc t.1 ≤ m → AscendBelow n (suc t.1) (with_term c m ts)) → (less same : Bool) → nat_lt m t.1 ≡ less → (m == t.1) ≡ same →
        AscendBelow n least (cond less (in_front c m (t ∷ ts)) (cond same (in_front (c +ℤ t.0) m ts) (t ∷ with_term c m ts)))
    by rest true same e f = ascend-in_front n least m c (t ∷ ts) l b (s.0, omega (arith, ltb-true m t.1 e), s.2, s.3)
    by rest false true e f = ascend-in_front n least m (c +ℤ t.0) ts l b (subst (λ (k : ℕ). AscendBelow n (suc k) ts) (sym (eqb-true m t.1 f)) s.3)
    by rest false false e f = (s.0, s.1, s.2, rest (grind (arith, tests, ltb-false m t.1 e, f)))

ascend-with_terms : (n least : ℕ) (ts us : List (ℤ × ℕ)) → AscendBelow n least ts → AscendBelow n 0 us → AscendBelow n 0 (with_terms ts us)
unfolding with_terms AscendBelow
ascend-with_terms n least [] us s r = r
ascend-with_terms n least (t ∷ ts) us s r = ascend-with_term n 0 t.1 t.0 (with_terms ts us) (omega arith) s.2 (ascend-with_terms n (suc t.1) ts us s.3 r)

ascend-scaled : (n least : ℕ) (c : ℤ) (ts : List (ℤ × ℕ)) → AscendBelow n least ts → AscendBelow n least (scaled_terms c ts)
unfolding scaled_terms AscendBelow
ascend-scaled n least c [] s = tt
ascend-scaled n least c (t ∷ ts) s = ascend-in_front n least t.1 (c *ℤ t.0) (scaled_terms c ts) s.1 s.2 (ascend-scaled n (suc t.1) c ts s.3)

-- a joined sum of variables below n
abbrev pub IsJoined : ℕ → Sum → Type 0
IsJoined n u = AscendBelow n 0 u.terms

pub joined-added : (n : ℕ) (u v : Sum) → IsJoined n u → IsJoined n v → IsJoined n (added u v)
joined-added n u v s r = ascend-with_terms n 0 u.terms v.terms s r

pub joined-scaled : (n : ℕ) (c : ℤ) (u : Sum) → IsJoined n u → IsJoined n (scaled c u)
joined-scaled n c u s = ascend-scaled n 0 c u.terms s

pub joined-difference : (n : ℕ) (u v : Sum) → IsJoined n u → IsJoined n v → IsJoined n (difference u v)
joined-difference n u v s r = joined-added n u (opposite v) s (joined-scaled n (negsuc 0) v r)

pub joined-of_number : (n : ℕ) (i : ℤ) → IsJoined n (of_number i)
unfolding AscendBelow
joined-of_number n i = tt

pub joined-of_variable : (n m : ℕ) → m < n → IsJoined n (of_variable m)
unfolding AscendBelow
joined-of_variable n m h = (not_zero_pos 0, omega arith, h, tt)

-- ---- the variables of formed constraints

abbrev pub ItemBelow : ℕ → Item → Type 0
ItemBelow n x = (m : ℕ) → HoldsVariable x m → m < n

abbrev pub ItemsBelow : ℕ → List Item → Type 0
ItemsBelow n xs = (m : ℕ) → HoldVariable xs m → m < n

pub joined-of_item : (n : ℕ) (x : Item) → ItemBelow n x → IsJoined n (of_item x)
joined-of_item n (Item.Var m) h = joined-of_variable n m (h m refl)
joined-of_item n (Item.Int i) h = joined-of_number n i

pub variables_below : (n least : ℕ) (ts : List (ℤ × ℕ)) → AscendBelow n least ts → (m : ℕ) → SumHasVariable ts m → m < n
unfolding AscendBelow SumHasVariable
variables_below n least [] s m h = absurd h
variables_below n least (t ∷ ts) s m (inl e) = subst (λ (k : ℕ). k < n) e s.2
variables_below n least (t ∷ ts) s m (inr h) = variables_below n (suc t.1) ts s.3 m h

-- a constraint as it is made, where n variables are: it may be posted, but for the limits
abbrev pub IsFormed : ℕ → Constraint → Type 0
IsFormed n (Constraint.Linear rel ts k) = (ts ≢ []) × AscendBelow n 0 ts
IsFormed n (Constraint.Product z x y) = ItemBelow n z × ItemBelow n x × ItemBelow n y
IsFormed n (Constraint.Absolute z x) = ItemBelow n z × ItemBelow n x
IsFormed n (Constraint.Different items) = ItemsBelow n items
IsFormed n (Constraint.Element index items value) = ItemBelow n index × ItemsBelow n items × ItemBelow n value
IsFormed n (Constraint.Reified truth rel ts k) = ItemBelow n truth × (ts ≢ []) × AscendBelow n 0 ts
IsFormed n (Constraint.Distinct items) = ItemsBelow n items

pub formed_below : (n m : ℕ) (c : Constraint) → n ≤ m → IsFormed n c → IsFormed m c
formed_below n m (Constraint.Linear rel ts k) h f = (f.0, ascend_below n m 0 ts h f.1)
formed_below n m (Constraint.Product z x y) h f = (λ k e. omega (arith, f.0 k e), λ k e. omega (arith, f.1 k e), λ k e. omega (arith, f.2 k e))
formed_below n m (Constraint.Absolute z x) h f = (λ k e. omega (arith, f.0 k e), λ k e. omega (arith, f.1 k e))
formed_below n m (Constraint.Different items) h f = λ k e. omega (arith, f k e)
formed_below n m (Constraint.Element index items value) h f = (λ k e. omega (arith, f.0 k e), λ k e. omega (arith, f.1 k e), λ k e. omega (arith, f.2 k e))
formed_below n m (Constraint.Reified truth rel ts k) h f = (λ k e. omega (arith, f.0 k e), f.1, ascend_below n m 0 ts h f.2)
formed_below n m (Constraint.Distinct items) h f = λ k e. omega (arith, f k e)

pub speaks_below : (n : ℕ) (c : Constraint) → IsFormed n c → (m : ℕ) → SpeaksOf c m → m < n
speaks_below n (Constraint.Linear rel ts k) f m h = variables_below n 0 ts f.1 m h
speaks_below n (Constraint.Product z x y) f m (inl h) = f.0 m h
speaks_below n (Constraint.Product z x y) f m (inr (inl h)) = f.1 m h
speaks_below n (Constraint.Product z x y) f m (inr (inr h)) = f.2 m h
speaks_below n (Constraint.Absolute z x) f m (inl h) = f.0 m h
speaks_below n (Constraint.Absolute z x) f m (inr h) = f.1 m h
speaks_below n (Constraint.Different items) f m h = f m h
speaks_below n (Constraint.Element index items value) f m (inl h) = f.0 m h
speaks_below n (Constraint.Element index items value) f m (inr (inl h)) = f.1 m h
speaks_below n (Constraint.Element index items value) f m (inr (inr h)) = f.2 m h
speaks_below n (Constraint.Reified truth rel ts k) f m (inl h) = f.0 m h
speaks_below n (Constraint.Reified truth rel ts k) f m (inr h) = variables_below n 0 ts f.2 m h
speaks_below n (Constraint.Distinct items) f m h = f m h

-- ---- values that agree

pub sums_agree : (n least : ℕ) (ts : List (ℤ × ℕ)) (a b : ℕ → ℤ) → AscendBelow n least ts → AgreeBelow n a b → sum_of b ts ≡ sum_of a ts
unfolding AscendBelow sum_of
sums_agree n least [] a b s g = refl
sums_agree n least (t ∷ ts) a b s g = let rest : sum_of b ts ≡ sum_of a ts = sums_agree n (suc t.1) ts a b s.3 g in (λ i. t.0 *ℤ g t.1 s.2 i +ℤ rest i)

pub sum_values_agree : (n : ℕ) (u : Sum) (a b : ℕ → ℤ) → IsJoined n u → AgreeBelow n a b → sum_value b u ≡ sum_value a u
sum_values_agree n u a b s g = ap (λ (x : ℤ). u.constant +ℤ x) (sums_agree n 0 u.terms a b s g)

pub items_agree : (n : ℕ) (x : Item) (a b : ℕ → ℤ) → ItemBelow n x → AgreeBelow n a b → value_of b x ≡ value_of a x
items_agree n (Item.Var m) a b s g = g m (s m refl)
items_agree n (Item.Int i) a b s g = refl

pub lists_agree : (n : ℕ) (xs : List Item) (a b : ℕ → ℤ) → ItemsBelow n xs → AgreeBelow n a b → values_of_items b xs ≡ values_of_items a xs
unfolding HoldVariable
lists_agree n [] a b s g = refl
lists_agree n (x ∷ xs) a b s g =
    let first : value_of b x ≡ value_of a x = items_agree n x a b (λ m h. s m (inl h)) g in
    let rest : values_of_items b xs ≡ values_of_items a xs = lists_agree n xs a b (λ m h. s m (inr h)) g in
    (λ i. first i ∷ rest i)

pub holds_agrees : (n : ℕ) (c : Constraint) (a b : ℕ → ℤ) → IsFormed n c → AgreeBelow n a b → Holds c a → Holds c b
holds_agrees n (Constraint.Linear rel ts k) a b f g h = subst (λ (x : ℤ). Stands rel (k +ℤ x)) (sym (sums_agree n 0 ts a b f.1 g)) h
holds_agrees n (Constraint.Product z x y) a b f g h = items_agree n z a b f.0 g ∙ (h ∙ (λ i. sym (items_agree n x a b f.1 g) i *ℤ sym (items_agree n y a b f.2 g) i))
holds_agrees n (Constraint.Absolute z x) a b f g h = items_agree n z a b f.0 g ∙ (h ∙ ap magnitude (sym (items_agree n x a b f.1 g)))
holds_agrees n (Constraint.Different items) a b f g h = subst AreDifferent (sym (lists_agree n items a b f g)) h
holds_agrees n (Constraint.Element index items value) a b f g h = (
  h.0,
  h.1,
  items_agree n index a b f.0 g ∙ h.2,
  subst (λ (vs : List ℤ). get_or vs h.0 (pos 0) ≡ value_of b value) (sym (lists_agree n items a b f.1 g)) (h.3 ∙ sym (items_agree n value a b f.2 g)),
)
holds_agrees n (Constraint.Reified truth rel ts k) a b f g (inl h) =
    inl (items_agree n truth a b f.0 g ∙ h.0, subst (λ (x : ℤ). Stands rel (k +ℤ x)) (sym (sums_agree n 0 ts a b f.2 g)) h.1)
holds_agrees n (Constraint.Reified truth rel ts k) a b f g (inr h) =
    inr (items_agree n truth a b f.0 g ∙ h.0, λ s. h.1 (subst (λ (x : ℤ). Stands rel (k +ℤ x)) (sums_agree n 0 ts a b f.2 g) s))
holds_agrees n (Constraint.Distinct items) a b f g h = subst AreDifferent (sym (lists_agree n items a b f g)) h
