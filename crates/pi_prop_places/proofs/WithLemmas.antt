-- Values of a place that leave a sum and its negative at most 0.
use Rattle.std.specs.Prelude.{◌≡◌, ◌≢◌, ◌↔◌, Bool, IsTrue, List, ℤ, pos, ◌+ℤ◌, ◌*ℤ◌, neg_ℤ, ◌≤ℤ◌, ◌<ℤ◌, int_le}
use Rattle.std.specs.Int.{int_div_euclid}
use Rattle.std.proofs.Common.{arith, sym, ◌∙◌}
use Rattle.std.proofs.lemmas.Int.{ints, by_lt_z}
use Rattle.pi_constraints.specs.declared.domain.Span.{Span}
use Rattle.pi_prop_places.specs.Reads.{HasValueBetween, HasValueWith}
use Rattle.pi_prop_places.proofs.RoundLemmas.{le_test, test_le, cut_above_tests, cut_below_tests}

negative_below : (c : ℤ) → pos 0 <ℤ c → neg_ℤ c ≤ℤ pos 0
negative_below c h = omega (arith, ints)

turned : (c : ℤ) → neg_ℤ c ≡ pos 0 → c ≡ pos 0
turned c e = omega (arith, ints)

negative_other : (c : ℤ) → c ≢ pos 0 → neg_ℤ c ≢ pos 0
negative_other c o = λ e. o (turned c e)

negative_above : (c : ℤ) → c ≤ℤ pos 0 → c ≢ pos 0 → pos 0 <ℤ neg_ℤ c
negative_above c h o = by_lt_z (pos 0) (neg_ℤ c) (λ l. l) (λ l. absurd (o (omega (arith, ints))))

above_zero : (c : ℤ) → pos 0 <ℤ c → c ≡ pos 0 → ⊥
above_zero c h e = omega (arith, ints)

-- a coefficient above 0: n goes from the second quotient to the first
pub with_above : (d : List Span) (c above below first last : ℤ) (b : Bool) → pos 0 <ℤ c → first ≡ int_div_euclid (neg_ℤ above) c → last ≡ int_div_euclid (neg_ℤ below) (neg_ℤ c) → IsTrue b ↔ HasValueBetween d last first → IsTrue b ↔ HasValueWith d c above below
with_above d c above below first last b h e f g =
    let high : (n : ℤ) → int_le n first ≡ int_le (c *ℤ n +ℤ above) (pos 0) = λ n. cut_above_tests c above first n h e in
    let low : (n : ℤ) → int_le last n ≡ int_le (neg_ℤ c *ℤ n +ℤ below) (pos 0) = λ n. cut_below_tests (neg_ℤ c) below last n (negative_below c h) (negative_other c (above_zero c h)) f in (
      λ t. let v = g.0 t in (v.0, v.1, test_le (c *ℤ v.0 +ℤ above) (pos 0) (sym (high v.0) ∙ le_test v.0 first v.3), test_le (neg_ℤ c *ℤ v.0 +ℤ below) (pos 0) (sym (low v.0) ∙ le_test last v.0 v.2)),
      λ v. g.1 (v.0, v.1, test_le last v.0 (low v.0 ∙ le_test (neg_ℤ c *ℤ v.0 +ℤ below) (pos 0) v.3), test_le v.0 first (high v.0 ∙ le_test (c *ℤ v.0 +ℤ above) (pos 0) v.2)),
    )

-- one below 0: from the first to the second
pub with_below : (d : List Span) (c above below first last : ℤ) (b : Bool) → c ≤ℤ pos 0 → c ≢ pos 0 → first ≡ int_div_euclid (neg_ℤ above) c → last ≡ int_div_euclid (neg_ℤ below) (neg_ℤ c) → IsTrue b ↔ HasValueBetween d first last → IsTrue b ↔ HasValueWith d c above below
with_below d c above below first last b h o e f g =
    let low : (n : ℤ) → int_le first n ≡ int_le (c *ℤ n +ℤ above) (pos 0) = λ n. cut_below_tests c above first n h o e in
    let high : (n : ℤ) → int_le n last ≡ int_le (neg_ℤ c *ℤ n +ℤ below) (pos 0) = λ n. cut_above_tests (neg_ℤ c) below last n (negative_above c h o) f in (
      λ t. let v = g.0 t in (v.0, v.1, test_le (c *ℤ v.0 +ℤ above) (pos 0) (sym (low v.0) ∙ le_test first v.0 v.2), test_le (neg_ℤ c *ℤ v.0 +ℤ below) (pos 0) (sym (high v.0) ∙ le_test v.0 last v.3)),
      λ v. g.1 (v.0, v.1, test_le first v.0 (low v.0 ∙ le_test (c *ℤ v.0 +ℤ above) (pos 0) v.2), test_le v.0 last (high v.0 ∙ le_test (neg_ℤ c *ℤ v.0 +ℤ below) (pos 0) v.3)),
    )
