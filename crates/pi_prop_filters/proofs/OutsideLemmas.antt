-- Which of the intervals from a number on have the ends of a place within them.
use Rattle.std.specs.Prelude.{◌≡◌, ◌↔◌, ℕ, ◌-◌, ◌<◌, ◌≤◌, Bool, true, false, not, IsTrue, ◌&&◌, List, length, get_or, ℤ, pos, ◌≤ℤ◌, ◌<ℤ◌, int_le, int_lt}
use Rattle.std.specs.List.Sorted.{IsPartitionedBy}
use Rattle.std.proofs.Common.{arith, sym, ◌∙◌, ap, subst, inl, inr}
use Rattle.std.proofs.lemmas.Bool.{cases_lt, cases_Bool, and_parts, and_from, false≢true}
use Rattle.std.proofs.lemmas.Int.{ints}
use Rattle.std.proofs.lemmas.List.{get_or_default}
use Rattle.std.proofs.lemmas.List.Elements.{Contains-get_or}
use Rattle.pi_prop_filters.specs.Intervals.{IsAscending, IsOutside, is_inside}
use Rattle.pi_prop_filters.proofs.CountLemmas.{never}

pub starts_before : (a b : ℤ) (e : ℤ × ℤ) → e.1 <ℤ a → is_inside a b e ≡ false
starts_before a b e h = let f : int_le a e.1 ≡ false = grind (arith, ints) in ap (λ (p : Bool). p && int_le e.0 b) f

pub ends_before : (a b : ℤ) (e : ℤ × ℤ) → b <ℤ e.0 → is_inside a b e ≡ false
ends_before a b e h = let f : int_le e.0 b ≡ false = grind (arith, ints) in never (int_le a e.1) (int_le e.0 b) f

pub ends_within : (a b : ℤ) (e : ℤ × ℤ) → a ≤ℤ e.1 → e.0 ≤ℤ b → is_inside a b e ≡ true
ends_within a b e h k = let t : int_le a e.1 ≡ true = grind (arith, ints) in let u : int_le e.0 b ≡ true = grind (arith, ints) in and_from (int_le a e.1) (int_le e.0 b) t u

pub IsPartitionedBy-before : (full : List ℤ) (top : ℤ) → IsAscending full → IsPartitionedBy (λ b. int_lt b top) full
IsPartitionedBy-before full top up i j d l m t = let rise = up i j d l m in grind (arith, ints)

not_between : (a n h : ℤ) → a ≤ℤ n → n ≤ℤ h → IsTrue (not (int_le a n && int_le n h)) → ⊥
not_between a n h low high t =
    let l : int_le a n ≡ true = grind (arith, ints) in
    let m : int_le n h ≡ true = grind (arith, ints) in
    false≢true (ap not (sym (and_from (int_le a n) (int_le n h) l m)) ∙ t)

-- of the intervals within which a place doesn't lie, the widest has the others
pub widest_has : (a : ℤ) (full : List ℤ) (e : ℤ × ℤ) (many : ℕ) (n : ℤ) → IsAscending full → 0 < many → many ≤ length full → ((i : ℕ) → i < many → is_inside a (get_or full i (pos 0)) e ≡ false) → ((i : ℕ) → many ≤ i → i < length full → is_inside a (get_or full i (pos 0)) e ≡ true)
    → IsTrue (not (int_le a n && int_le n (get_or full (many - 1) (pos 0)))) ↔ IsOutside a full e n
widest_has a full e many n up some inside outside within = (
  λ t b c f p.
      let here : get_or full c.0 (pos 0) ≡ b = get_or_default full c.0 (pos 0) b c.1 ∙ c.2 in
      elim (cases_lt c.0 many) [
        | inl l ↦
            let rise : get_or full c.0 (pos 0) ≤ℤ get_or full (many - 1) (pos 0) = up c.0 (many - 1) (pos 0) (omega arith) (omega arith) in
            not_between a n (get_or full (many - 1) (pos 0)) p.0 (omega (arith, ints, p.1)) t
        | inr l ↦ false≢true (sym f ∙ subst (λ (z : ℤ). is_inside a z e ≡ true) here (within c.0 l c.1))
      ],
  λ p. elim (cases_Bool (int_le a n && int_le n (get_or full (many - 1) (pos 0)))) [
    | inl t ↦
        let q = and_parts (int_le a n) (int_le n (get_or full (many - 1) (pos 0))) t in
        let low : int_le a n ≡ true = q.0 in
        let high : int_le n (get_or full (many - 1) (pos 0)) ≡ true = q.1 in
        absurd (p (get_or full (many - 1) (pos 0)) (Contains-get_or full (many - 1) (pos 0) (omega arith)) (outside (many - 1) (omega arith)) (omega (arith, ints), omega (arith, ints)))
    | inr f ↦ ap not f
  ],
)

-- a place that lies within all of them loses nothing
pub has_all : (a : ℤ) (full : List ℤ) (e : ℤ × ℤ) (n : ℤ) → ((i : ℕ) → i < length full → is_inside a (get_or full i (pos 0)) e ≡ true) → IsOutside a full e n
has_all a full e n within b c f p =
    let here : get_or full c.0 (pos 0) ≡ b = get_or_default full c.0 (pos 0) b c.1 ∙ c.2 in
    false≢true (sym f ∙ subst (λ (z : ℤ). is_inside a z e ≡ true) here (within c.0 c.1))
