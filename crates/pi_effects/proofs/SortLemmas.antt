-- Sorting: the list that comes out ascends, has the items that went in, and keeps those with one value in their order.
use Rattle.std.proofs.Common.{◌≡◌, zero, suc, Bool, true, false, not, cond, List, [], ◌∷◌, filter, refl, sym, ap, ◌∙◌, arith, Ordering, Less, Equal, Greater, is_lt, is_gt, true≢false, add-one, IsPermutation, IsSorted}
use Rattle.std.specs.Prelude.{◌&&◌}
use Rattle.std.specs.List.{AllByRecursion}
use Rattle.std.specs.List.Sorted.{ties}
use Rattle.std.specs.Cmp.{IsTotalOrder}
use Rattle.std.specs.Ordering.{is_le, ordering_reverse}
use Rattle.std.proofs.lemmas.Cmp.{upto, on_total}
use Rattle.std.proofs.lemmas.List.Sorted.{IsPermutation-refl, IsPermutation-cons, IsPermutation-trans, IsPermutation-middle}
use Rattle.pi_terms.specs.Tree.{Tree}
use Rattle.pi_terms.proofs.OrderLemmas.{order_total, same_from_order, equal_is_identity}
use Rattle.pi_constraints.specs.Value.{value}
use Rattle.pi_constraints.specs.State.{State, bindings}
use Rattle.pi_effects.specs.Comparing.{value_order}
use Rattle.pi_effects.specs.Sorting.{inserted, sorted, SortingAscends, SortingKeepsItems, SortingIsStable}

values_total : (s : State) → IsTotalOrder (value_order s)
values_total s = on_total (value (bindings s)) order_total

-- ---- ascending

abbrev AtMost : State → Tree → Tree → Type 0
AtMost s t u = is_gt (value_order s t u) ≡ false

abbrev Ascends : State → List Tree → Type 0
Ascends s [] = Unit {0}
Ascends s (t ∷ ts) = AllByRecursion (AtMost s t) ts × Ascends s ts

at_most-if : (o : Ordering) → is_le o ≡ true → is_gt o ≡ false
at_most-if Less h = refl
at_most-if Equal h = refl
at_most-if Greater h = absurd (true≢false (sym h))

turned : (o : Ordering) → is_le o ≡ false → is_gt (ordering_reverse o) ≡ false
turned Less h = absurd (true≢false h)
turned Equal h = absurd (true≢false h)
turned Greater h = refl

not-below : (o : Ordering) → is_gt o ≡ false → is_lt (ordering_reverse o) ≡ false
not-below Less h = refl
not-below Equal h = refl
not-below Greater h = absurd (true≢false h)

all-above : (s : State) (t u : Tree) (us : List Tree) → AtMost s t u → AllByRecursion (AtMost s u) us → AllByRecursion (AtMost s t) us
all-above s t u [] h all = tt
all-above s t u (v ∷ us) h all = (upto (values_total s) t u v h all.0, all-above s t u us h all.1)

all-inserted : (P : Tree → Type 0) (s : State) (t : Tree) (us : List Tree) → P t → AllByRecursion P us → AllByRecursion P (inserted s t us)
unfolding inserted
all-inserted P s t [] h all = (h, tt)
all-inserted P s t (u ∷ us) h all =
    elim (is_le (value_order s t u)) as (λ b. AllByRecursion P (cond b (t ∷ u ∷ us) (u ∷ inserted s t us))) [ true ↦ (h, all) | false ↦ (all.0, all-inserted P s t us h all.1) ]

ascends-inserted : (s : State) (t : Tree) (us : List Tree) → Ascends s us → Ascends s (inserted s t us)
unfolding inserted
ascends-inserted s t [] up = (tt, tt)
ascends-inserted s t (u ∷ us) up = go (is_le (value_order s t u)) refl (ascends-inserted s t us up.1)
  where
    go : (b : Bool) → is_le (value_order s t u) ≡ b → Ascends s (inserted s t us) → Ascends s (cond b (t ∷ u ∷ us) (u ∷ inserted s t us))
    go true e rest = let first : AtMost s t u = at_most-if (value_order s t u) e in ((first, all-above s t u us first up.0), up)
    go false e rest =
        let first : AtMost s u t = ap is_gt ((values_total s).antisymm u t) ∙ turned (value_order s t u) e in
        (all-inserted (AtMost s u) s t us first up.0, rest)

ascends-sorted : (s : State) (ts : List Tree) → Ascends s (sorted s ts)
unfolding sorted
ascends-sorted s [] = tt
ascends-sorted s (t ∷ ts) = ascends-inserted s t (sorted s ts) (ascends-sorted s ts)

next-place : (s : State) (t u : Tree) (us : List Tree) → AtMost s t u → IsSorted (value_order s) (u ∷ us) → IsSorted (value_order s) (t ∷ u ∷ us)
next-place s t u us h rest zero d low high = ap is_lt ((values_total s).antisymm u t) ∙ not-below (value_order s t u) h
next-place s t u us h rest (suc k) d low high = rw add-one (rw add-one at (rest k d (omega arith) (omega arith)))

by-place : (s : State) (ts : List Tree) → Ascends s ts → IsSorted (value_order s) ts
by-place s [] up = λ k d low high. absurd (omega arith)
by-place s (t ∷ []) up = λ k d low high. absurd (omega arith)
by-place s (t ∷ u ∷ us) up = next-place s t u us up.0.0 (by-place s (u ∷ us) up.1)

pub sorting-ascends : SortingAscends
sorting-ascends s ts = by-place s (sorted s ts) (ascends-sorted s ts)

-- ---- the same items

items-inserted : (s : State) (t : Tree) (us : List Tree) → IsPermutation (t ∷ us) (inserted s t us)
unfolding inserted
items-inserted s t [] = IsPermutation-refl (t ∷ [])
items-inserted s t (u ∷ us) =
    elim (is_le (value_order s t u)) as (λ b. IsPermutation (t ∷ u ∷ us) (cond b (t ∷ u ∷ us) (u ∷ inserted s t us))) [
      | true ↦ IsPermutation-refl (t ∷ u ∷ us)
      | false ↦ IsPermutation-trans _ _ _ (IsPermutation-middle (t ∷ []) u us) (IsPermutation-cons u _ _ (items-inserted s t us))
    ]

pub sorting-keeps_items : SortingKeepsItems
unfolding sorted
sorting-keeps_items s [] = IsPermutation-refl []
sorting-keeps_items s (t ∷ ts) = IsPermutation-trans _ _ _ (IsPermutation-cons t _ _ (sorting-keeps_items s ts)) (items-inserted s t (sorted s ts))

-- ---- in their order

abbrev is_below : State → Tree → Tree → Bool
is_below s t u = is_lt (value_order s t u)

tied : (o p : Ordering) → p ≡ ordering_reverse o → (not (is_lt o) && not (is_lt p)) ≡ true → o ≡ Equal
tied Less p e h = absurd (true≢false (sym h))
tied Equal p e h = refl
tied Greater p e h = absurd (true≢false (sym (ap (λ q. not (is_lt q)) (sym e) ∙ h)))

same-value : (s : State) (x t : Tree) → ties (is_below s) x t ≡ true → value (bindings s) x ≡ value (bindings s) t
same-value s x t h = same_from_order _ _ (tied (value_order s x t) (value_order s t x) ((values_total s).antisymm t x) h)

never-both : (s : State) (x t u : Tree) → is_le (value_order s t u) ≡ false → ties (is_below s) x t ≡ true → ties (is_below s) x u ≡ true → ⊥
never-both s x t u e h g =
    let one : value (bindings s) t ≡ value (bindings s) u = sym (same-value s x t h) ∙ same-value s x u g in
    true≢false (sym (ap is_le ((equal_is_identity (value (bindings s) t) (value (bindings s) u)).1 one)) ∙ e)

moved : (t u : Tree) (c d : Bool) (more rest : List Tree) → more ≡ cond c (t ∷ rest) rest → (c ≡ true → d ≡ true → ⊥)
    → cond d (u ∷ more) more ≡ cond c (t ∷ cond d (u ∷ rest) rest) (cond d (u ∷ rest) rest)
moved t u true true more rest e h = absurd (h refl refl)
moved t u true false more rest e h = e
moved t u false true more rest e h = ap (λ r. u ∷ r) e
moved t u false false more rest e h = e

stable-inserted : (s : State) (x t : Tree) (us : List Tree) → filter (ties (is_below s) x) (inserted s t us) ≡ filter (ties (is_below s) x) (t ∷ us)
unfolding inserted
stable-inserted s x t [] = refl
stable-inserted s x t (u ∷ us) = go (is_le (value_order s t u)) refl (stable-inserted s x t us)
  where
    go : (b : Bool) → is_le (value_order s t u) ≡ b → filter (ties (is_below s) x) (inserted s t us) ≡ filter (ties (is_below s) x) (t ∷ us)
        → filter (ties (is_below s) x) (cond b (t ∷ u ∷ us) (u ∷ inserted s t us)) ≡ filter (ties (is_below s) x) (t ∷ u ∷ us)
    go true e rest = refl
    go false e rest =
        moved t u (ties (is_below s) x t) (ties (is_below s) x u) (filter (ties (is_below s) x) (inserted s t us)) (filter (ties (is_below s) x) us) rest
        (never-both s x t u e)

kept : (p : Tree → Bool) (t : Tree) (us vs : List Tree) → filter p us ≡ filter p vs → filter p (t ∷ us) ≡ filter p (t ∷ vs)
kept p t us vs e = ap (λ r. cond (p t) (t ∷ r) r) e

pub sorting-is_stable : SortingIsStable
unfolding sorted
sorting-is_stable s [] x = refl
sorting-is_stable s (t ∷ ts) x = stable-inserted s x t (sorted s ts) ∙ kept (ties (is_below s) x) t (sorted s ts) ts (sorting-is_stable s ts x)
