-- What a literal leaves, as it is found.
use Rattle.std.specs.Prelude.{◌≡◌, Bool, true, false, not, ◌&&◌, IsTrue, List, [], ◌∷◌, ℤ, pos, ◌+ℤ◌, ◌<ℤ◌, ◌≤ℤ◌, int_le, int_lt, refl}
use Rattle.std.proofs.Common.{arith, sym, ◌∙◌, ap, inl, inr}
use Rattle.std.proofs.lemmas.Bool.{cases_Bool, and_parts}
use Rattle.std.proofs.lemmas.Int.{ints}
use Rattle.pi_constraints.specs.declared.domain.Span.{Span}
use Rattle.pi_constraints.specs.Domain.{IsDomain, has_value, common, IsGreatestValue, IsLeastValue}
use Rattle.pi_constraints.proofs.DomainLemmas.{same_values_same_domain}
use Rattle.pi_prop_spec.specs.Ends.{least_of}
use Rattle.pi_prop_spec.proofs.EndLemmas.{least-has}
use Rattle.pi_sat_spec.specs.declared.literal.Literal.{Literal}
use Rattle.pi_sat_spec.specs.Literals.{allows, left_by}
use Rattle.pi_sat_spec.specs.Domains.{has_none}
use Rattle.pi_sat_spec.proofs.LiteralLemmas.{left-value, left-domain, left-has}

allows-above : (l : Literal) (n : ℤ) → l.above ≡ true → allows l n ≡ int_le (l.bound +ℤ pos 1) n
allows-above l n e = rw e (above-less l.bound n)
  where
    above-less : (b m : ℤ) → not (int_le m b) ≡ int_le (b +ℤ pos 1) m
    above-less b m = grind (arith, ints)

allows-at_most : (l : Literal) (n : ℤ) → l.above ≡ false → allows l n ≡ int_le n l.bound
allows-at_most l n e = rw e refl

same-left : (l : Literal) (d made : List Span) → IsDomain d → IsDomain made → ((n : ℤ) → has_value made n ≡ (has_value d n && allows l n)) → made ≡ left_by l d
same-left l d made good is values = same_values_same_domain made (left_by l d) is (left-domain l d good) (λ n. values n ∙ sym (left-value l d n good))

pub left-above : (l : Literal) (d made : List Span) (bound : ℤ) → l.above ≡ true → IsDomain d → IsDomain made → ((n : ℤ) → has_value made n ≡ (has_value d n && int_le bound n)) → bound ≡ l.bound +ℤ pos 1 → made ≡ left_by l d
left-above l d made bound e good is values same =
    same-left l d made good is (λ n. values n ∙ ap (λ (t : Bool). has_value d n && t) (ap (λ (b : ℤ). int_le b n) same ∙ sym (allows-above l n e)))

pub left-at_most : (l : Literal) (d made : List Span) (bound : ℤ) → l.above ≡ false → IsDomain d → IsDomain made → ((n : ℤ) → has_value made n ≡ (has_value d n && int_le n bound)) → bound ≡ l.bound → made ≡ left_by l d
left-at_most l d made bound e good is values same =
    same-left l d made good is (λ n. values n ∙ ap (λ (t : Bool). has_value d n && t) (ap (λ (b : ℤ). int_le n b) same ∙ sym (allows-at_most l n e)))

-- ---- whether something is left

has-some : (d : List Span) (n : ℤ) → IsTrue (has_value d n) → true ≡ not (has_none d)
unfolding has_value
has-some [] n h = absurd cc
has-some (s ∷ ss) n h = refl

some-left : (l : Literal) (d : List Span) (n : ℤ) → IsDomain d → IsTrue (has_value d n) → IsTrue (allows l n) → true ≡ not (has_none (left_by l d))
some-left l d n good h ok = has-some (left_by l d) n (left-has l d n good h ok)

no-value : (d : List Span) → IsDomain d → ((n : ℤ) → IsTrue (has_value d n) → ⊥) → false ≡ not (has_none d)
no-value [] good none = refl
no-value (s ∷ ss) good none = absurd (none (least_of (s ∷ ss)) (least-has (s ∷ ss) good (λ e. cc)))

none-left : (l : Literal) (d : List Span) → IsDomain d → ((n : ℤ) → IsTrue (has_value d n) → IsTrue (allows l n) → ⊥) → false ≡ not (has_none (left_by l d))
none-left l d good none = no-value (left_by l d) (left-domain l d good)
    (λ n h. let both : (has_value d n && allows l n) ≡ true = sym (left-value l d n good) ∙ h in let p = and_parts (has_value d n) (allows l n) both in none n p.0 p.1)

pub empty-left : (l : Literal) (d : List Span) → d ≡ [] → false ≡ not (has_none (left_by l d))
unfolding left_by common
empty-left l d e = rw e refl

le-true : (m n : ℤ) → m ≤ℤ n → int_le m n ≡ true
le-true m n h = grind (arith, ints, h)

lt-less : (m n : ℤ) → int_lt m n ≡ true → m <ℤ n
lt-less m n h = grind (arith, ints, h)

not-less : (m n : ℤ) → int_lt m n ≡ false → n ≤ℤ m
not-less m n h = grind (arith, ints, h)

false-less : (m n : ℤ) → int_le m n ≡ false → n <ℤ m
false-less m n h = grind (arith, ints, h)

true-le : (m n : ℤ) → int_le m n ≡ true → m ≤ℤ n
true-le m n h = grind (arith, ints, h)

pub above-is : (l : Literal) (d : List Span) (greatest : ℤ) → l.above ≡ true → IsDomain d → IsGreatestValue d greatest → int_lt l.bound greatest ≡ not (has_none (left_by l d))
above-is l d greatest e good g = elim (cases_Bool (int_lt l.bound greatest)) [
  | inl t ↦ t ∙ some-left l d greatest good g.is_value (allows-above l greatest e ∙ le-true (l.bound +ℤ pos 1) greatest (let less : l.bound <ℤ greatest = lt-less l.bound greatest t in omega (arith, ints, less)))
  | inr f ↦ f ∙ none-left l d good
      (λ n h ok.
      let more : (l.bound +ℤ pos 1) ≤ℤ n = true-le (l.bound +ℤ pos 1) n (sym (allows-above l n e) ∙ ok) in
      let top : n ≤ℤ greatest = g.none_above n h in
      let less : greatest ≤ℤ l.bound = not-less l.bound greatest f in
      omega (arith, ints, more, top, less))
]

pub at_most-is : (l : Literal) (d : List Span) (least : ℤ) → l.above ≡ false → IsDomain d → IsLeastValue d least → int_le least l.bound ≡ not (has_none (left_by l d))
at_most-is l d least e good g = elim (cases_Bool (int_le least l.bound)) [
  | inl t ↦ t ∙ some-left l d least good g.is_value (allows-at_most l least e ∙ t)
  | inr f ↦ f ∙ none-left l d good
      (λ n h ok.
      let low : n ≤ℤ l.bound = true-le n l.bound (sym (allows-at_most l n e) ∙ ok) in
      let bottom : least ≤ℤ n = g.none_below n h in
      let more : l.bound <ℤ least = false-less least l.bound f in
      omega (arith, ints, low, bottom, more))
]

-- ---- domains with and without values

pub no-values : (d : List Span) (n : ℤ) → has_none d ≡ true → IsTrue (has_value d n) → ⊥
unfolding has_value
no-values [] n e h = cc
no-values (s ∷ ss) n e h = cc

pub a-value : (d : List Span) → IsDomain d → has_none d ≡ false → (n : ℤ) × IsTrue (has_value d n)
a-value [] good e = absurd cc
a-value (s ∷ ss) good e = (least_of (s ∷ ss), least-has (s ∷ ss) good (λ f. cc))
