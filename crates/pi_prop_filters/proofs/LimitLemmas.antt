-- The limits of items and sums, one more at a time.
use Rattle.std.specs.Prelude.{◌≡◌, ◌≢◌, ◌↔◌, ℕ, suc, ◌+◌, ◌<◌, ◌≤◌, ◌^◌, List, [], ◌∷◌, length, drop, ℤ, pos, nat_abs, ◌==◌, Bool, true, false, IsTrue}
use Rattle.std.proofs.Common.{arith, sym, ap, subst}
use Rattle.std.proofs.lemmas.Bool.{false≢true}
use Rattle.std.proofs.lemmas.Bool.Decides.{nat_tests}
use Rattle.std.proofs.lemmas.List.{drop_more, drop_all, nil_from_length}
use Rattle.pi_constraints.specs.declared.constraint.Item.{Item}
use Rattle.pi_constraints.specs.Constraint.{most_items, IsItem, AreItems, IsSum, IsSumWithinLimits}
use Rattle.pi_prop_spec.specs.Sums.{coefficient_at}
use Rattle.pi_prop_spec.proofs.SumLemmas.{variable_at}

-- what was seen is right, and what is left says what all say
abbrev pub Left : Type 0 → Type 0 → Type 0
Left rest all = rest ↔ all

-- ---- items

pub item_passed : (items : List Item) (i : ℕ) (x : Item) → i < length items → drop i items ≡ x ∷ drop (i + 1) items → IsItem x → Left (AreItems (drop i items)) (AreItems items) → Left (AreItems (drop (i + 1) items)) (AreItems items)
unfolding AreItems
item_passed items i x l e is h = (λ rest. h.0 (subst AreItems (sym e) (is, rest)), λ all. (subst AreItems e (h.1 all)).1)

pub item_wrong : (items : List Item) (i : ℕ) (x : Item) → drop i items ≡ x ∷ drop (i + 1) items → (IsItem x → ⊥) → Left (AreItems (drop i items)) (AreItems items) → AreItems items → ⊥
unfolding AreItems
item_wrong items i x e o h all = o (subst AreItems e (h.1 all)).0

pub items_seen : (items : List Item) (i : ℕ) → length items ≤ i → Left (AreItems (drop i items)) (AreItems items) → AreItems items
unfolding AreItems
items_seen items i l h = h.0 (subst AreItems (sym (drop_all i items l)) tt)

-- ---- terms

next_term : (ts : List (ℤ × ℕ)) (i : ℕ) → i < length ts → drop i ts ≡ (coefficient_at ts i, variable_at ts i) ∷ drop (i + 1) ts
next_term ts i l = drop_more ts i (pos 0, 0) l

pub term_passed : (ts : List (ℤ × ℕ)) (i least next : ℕ) → i < length ts → coefficient_at ts i ≢ pos 0 → nat_abs (coefficient_at ts i) ≤ 2 ^ 40 → least ≤ variable_at ts i → next ≡ suc (variable_at ts i)
    → Left (IsSum least (drop i ts)) (IsSum 0 ts) → Left (IsSum next (drop (i + 1) ts)) (IsSum 0 ts)
unfolding IsSum
term_passed ts i least next l o narrow low e h =
    let at = next_term ts i l in
    subst (λ (n : ℕ). Left (IsSum n (drop (i + 1) ts)) (IsSum 0 ts)) (sym e)
    (λ rest. h.0 (subst (IsSum least) (sym at) (o, narrow, low, rest)), λ all. (subst (IsSum least) at (h.1 all)).3)

pub term_wrong : (ts : List (ℤ × ℕ)) (i least : ℕ) → i < length ts → (coefficient_at ts i ≢ pos 0 → nat_abs (coefficient_at ts i) ≤ 2 ^ 40 → least ≤ variable_at ts i → ⊥) → Left (IsSum least (drop i ts)) (IsSum 0 ts) → IsSum 0 ts → ⊥
unfolding IsSum
term_wrong ts i least l o h all = let s = subst (IsSum least) (next_term ts i l) (h.1 all) in o s.0 s.1 s.2

pub terms_seen : (ts : List (ℤ × ℕ)) (i least : ℕ) → length ts ≤ i → Left (IsSum least (drop i ts)) (IsSum 0 ts) → IsSum 0 ts
unfolding IsSum
terms_seen ts i least l h = h.0 (subst (IsSum least) (sym (drop_all i ts l)) tt)

-- ---- terms and a constant

pub no_terms : (ts : List (ℤ × ℕ)) (b : Bool) → b ≡ (length ts == 0) → b ≡ true → ts ≡ []
no_terms ts b e t = nil_from_length ts (grind (arith, nat_tests, e, t))

pub some_terms : (ts : List (ℤ × ℕ)) (b : Bool) → b ≡ (length ts == 0) → b ≡ false → ts ≢ []
some_terms ts b e f none =
    let some : 0 < length ts = grind (arith, e, f) in
    let count : length ts ≡ 0 = ap (λ (us : List (ℤ × ℕ)). length us) none in
    absurd (omega (arith, some, count))

pub within_none : (ts : List (ℤ × ℕ)) (m : ℤ) → ts ≡ [] → IsTrue false ↔ IsSumWithinLimits ts m
within_none ts m e = (λ t. absurd (false≢true t), λ h. absurd (h.0 e))

pub within_many : (ts : List (ℤ × ℕ)) (m : ℤ) → most_items < length ts → IsTrue false ↔ IsSumWithinLimits ts m
within_many ts m l = (λ t. absurd (false≢true t), λ h. let few = h.1 in absurd (omega (arith, few, l)))

pub within_wide : (ts : List (ℤ × ℕ)) (m : ℤ) → (nat_abs m ≤ 2 ^ 100 → ⊥) → IsTrue false ↔ IsSumWithinLimits ts m
within_wide ts m wide = (λ t. absurd (false≢true t), λ h. absurd (wide h.3))

pub within_all : (ts : List (ℤ × ℕ)) (m : ℤ) (b : Bool) → ts ≢ [] → length ts ≤ most_items → nat_abs m ≤ 2 ^ 100 → IsTrue b ↔ IsSum 0 ts → IsTrue b ↔ IsSumWithinLimits ts m
within_all ts m b some few narrow f = (λ t. (some, few, f.0 t, narrow), λ h. f.1 h.2)
