-- The alternatives of a variable stand in the order of the values that they allow.
use Rattle.std.specs.Prelude.{◌≡◌, ℕ, suc, ◌-◌, ◌<◌, ℤ, pos, ◌<ℤ◌, IsTrue, List, [], ◌∷◌, length, map, reverse, get_or, AllPairs, ⊤}
use Rattle.std.proofs.Common.{arith, sym, subst, inl, inr}
use Rattle.std.proofs.lemmas.Int.{ints}
use Rattle.std.proofs.lemmas.List.{length-reverse, get_or-reverse}
use Rattle.pi_constraints.specs.declared.domain.Span.{Span}
use Rattle.pi_constraints.specs.Domain.{IsDomain, values_of}
use Rattle.pi_constraints.proofs.DomainLemmas.{values_ascend}
use Rattle.pi_settling.specs.Options.{ValueWord, up, down, split, reverse_split}
use Rattle.pi_settling.specs.Choices.{Alternative, is_value, at_most, above, allows, middle, alternatives}
use Rattle.pi_settling.proofs.ChoiceLemmas.{allowed_is}
use Rattle.pi_settling.proofs.LabelKeeps.{SomeAllows}
use Rattle.pi_label_laws.proofs.PickLemmas.{Ahead}

-- each value that one allows comes before those that the alternatives behind it allow
unfoldable pub AllAhead : ValueWord → List Alternative → Type 0
AllAhead w [] = ⊤
AllAhead w (x ∷ xs) = ((i j : ℤ) → IsTrue (allows x i) → SomeAllows xs j → Ahead w i j) × AllAhead w xs

some-value : (ns : List ℤ) (j : ℤ) → SomeAllows (map is_value ns) j → (k : ℕ) × (k < length ns) × (get_or ns k (pos 0) ≡ j)
unfolding SomeAllows
some-value [] j h = absurd h
some-value (n ∷ ns) j (inl h) = (0, omega arith, allowed_is j n h)
some-value (n ∷ ns) j (inr h) = let there = some-value ns j h in (suc there.0, omega (arith, there.1), there.2)

values-ahead : (w : ValueWord) (ns : List ℤ) → AllPairs (Ahead w) ns → AllAhead w (map is_value ns)
unfolding AllAhead
values-ahead w [] h = tt
values-ahead w (n ∷ ns) h = (
  λ i j allowed some.
      let there = some-value ns j some in
      let before : Ahead w n (get_or ns there.0 (pos 0)) = h 0 (suc there.0) (pos 0) (omega arith) (omega (arith, there.1)) in
      subst (λ (z : ℤ). Ahead w z j) (allowed_is i n allowed) (subst (Ahead w n) there.2 before),
  values-ahead w ns (λ i j d l m. h (suc i) (suc j) d (omega arith) (omega arith)),
)

-- descending
reversed : (ns : List ℤ) → AllPairs (λ (i j : ℤ). i <ℤ j) ns → AllPairs (λ (i j : ℤ). j <ℤ i) (reverse ns)
reversed ns h i j d l m =
    let many : length (reverse ns) ≡ length ns = length-reverse ns in
    let first : get_or (reverse ns) i d ≡ get_or ns (length ns - 1 - i) d = get_or-reverse ns i d (omega arith) in
    let second : get_or (reverse ns) j d ≡ get_or ns (length ns - 1 - j) d = get_or-reverse ns j d (omega arith) in
    let less : get_or ns (length ns - 1 - j) d <ℤ get_or ns (length ns - 1 - i) d = h (length ns - 1 - j) (length ns - 1 - i) d (omega arith) (omega arith) in
    subst (λ (z : ℤ). get_or (reverse ns) j d <ℤ z) (sym first) (subst (λ (z : ℤ). z <ℤ get_or ns (length ns - 1 - i) d) (sym second) less)

half-below : (m i j : ℤ) → IsTrue (allows (at_most m) i) → IsTrue (allows (above m) j) → i <ℤ j
half-below m i j h k = grind (arith, ints, h, k)

halves-ahead : (m : ℤ) → AllAhead split (at_most m ∷ above m ∷ [])
unfolding AllAhead SomeAllows
halves-ahead m = (λ i j h some. elim some [ inl k ↦ half-below m i j h k | inr none ↦ absurd none ], ((λ i j h none. absurd none), tt))

halves-behind : (m : ℤ) → AllAhead reverse_split (above m ∷ at_most m ∷ [])
unfolding AllAhead SomeAllows
halves-behind m = (λ i j h some. elim some [ inl k ↦ half-below m j i k h | inr none ↦ absurd none ], ((λ i j h none. absurd none), tt))

pub alternatives-ahead : (w : ValueWord) (d : List Span) → IsDomain d → AllAhead w (alternatives w d)
alternatives-ahead up d domain = values-ahead up (values_of d) (values_ascend d domain)
alternatives-ahead down d domain = values-ahead down (reverse (values_of d)) (reversed (values_of d) (values_ascend d domain))
alternatives-ahead split d domain = halves-ahead (middle d)
alternatives-ahead reverse_split d domain = halves-behind (middle d)
