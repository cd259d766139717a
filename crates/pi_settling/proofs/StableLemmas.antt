-- What stays: the greatest domains that no filter changes, which lose no solution.
use Rattle.std.specs.Prelude.{◌≡◌, ℕ, ◌<◌, ℤ, Bool, true, cond, ◌&&◌, int_le, neg_ℤ, IsTrue, List, [], length, Contains, refl}
use Rattle.std.proofs.Common.{arith, sym, ◌∙◌, ap, subst, inl, inr}
use Rattle.std.proofs.lemmas.Bool.{cases_Bool, and_parts}
use Rattle.std.proofs.lemmas.Int.{ints}
use Rattle.pi_constraints.specs.declared.constraint.Constraint.{Constraint}
use Rattle.pi_constraints.specs.declared.constraint.Item.{Item}
use Rattle.pi_constraints.specs.declared.domain.Span.{Span}
use Rattle.pi_constraints.specs.declared.domain.TheConstants.{MAX_VALUE}
use Rattle.pi_constraints.specs.Domain.{IsWithinBounds, AscendFrom, IsDomain, has_value}
use Rattle.pi_prop_spec.specs.Places.{places_of, domain_at}
use Rattle.pi_prop_spec.specs.Filter.{Leaves}
use Rattle.pi_prop_spec.specs.Solutions.{value_of, value_at}
use Rattle.pi_prop_spec.specs.Laws.{AreWithin}
use Rattle.pi_prop_spec.proofs.FilterLemmas.{filters_are_monotone, filters_keep_solutions}
use Rattle.pi_constraints.specs.State.{State}
use Rattle.pi_settling.specs.Roots.{root_item, only, given, Counts}
use Rattle.pi_settling.specs.Stable.{Domains, at_places, LieBelow, NoFilterChanges, Stays}
use Rattle.pi_settling.specs.Solves.{Solves}
use Rattle.pi_settling.specs.SettlingLaws.{SettlingKeepsSolutions, StableIsUnchanged}
use Rattle.pi_settling.proofs.PlaceLemmas.{place_at, place-domain, place-value, place-counts, count-places, places-domains, at_place, from_place}

-- ---- what stays is unchanged

-- of domains that no filter changes, whose values all stay, the places of a constraint lie within those of what stays
within_places : (s : State) (ds : Domains) → ((x : Item) (i : ℤ) → Counts s x → Stays s x i → IsTrue (has_value (ds x) i)) →
    (es : Domains) → LieBelow s es → NoFilterChanges s es → (c : Constraint) → Contains s.constraints c → AreWithin (at_places s ds c) (at_places s es c)
within_places s ds all es below unchanged c posted k n l h =
    let inside : k < length (places_of c) = omega (arith, count-places s ds c) in
    from_place s ds c k n inside
    (all (root_item s (place_at c k)) n (place-counts s c k posted inside) (record { domains = es; below = below; unchanged = unchanged; has = at_place s es c k n inside h }))

pub stable_is_unchanged : StableIsUnchanged
stable_is_unchanged s ds below all stay c k i posted l h =
    let st : Stays s (root_item s (place_at c k)) i = stay (root_item s (place_at c k)) i (place-counts s c k posted l) (at_place s ds c k i l h) in
    filters_are_monotone c (at_places s ds c) (at_places s st.domains c) (places-domains s ds c below.domains) (places-domains s st.domains c st.below.domains)
    (within_places s ds all st.domains st.below st.unchanged c posted) k i l
    (st.unchanged c k i posted l (from_place s st.domains c k i l st.has))

-- ---- no solution is lost

is_within : ℤ → Bool
is_within i = int_le (neg_ℤ MAX_VALUE) i && int_le i MAX_VALUE

within-bounds : (i : ℤ) → is_within i ≡ true → IsWithinBounds i
unfolding is_within
within-bounds i h = let p = and_parts (int_le (neg_ℤ MAX_VALUE) i) (int_le i MAX_VALUE) h in (grind (arith, ints, p.0), grind (arith, ints, p.1))

bounds-within : (i : ℤ) → IsWithinBounds i → is_within i ≡ true
unfolding is_within
bounds-within i h = grind (arith, ints, h.0, h.1)

pub only-domain : (i : ℤ) → IsWithinBounds i → IsDomain (only i)
unfolding AscendFrom
only-domain i h = (h.0, omega (arith, ints), h.1, tt)

pub only-has : (i : ℤ) → IsTrue (has_value (only i) i)
unfolding has_value
only-has i = grind (arith, ints)

pub has-only : (i j : ℤ) → IsTrue (has_value (only i) j) → j ≡ i
unfolding has_value
has-only i j h = grind (arith, ints)

-- the domain of the value i alone, where that is a value of d
pub just : List Span → ℤ → List Span
just d i = cond (has_value d i && is_within i) (only i) []

pub just-domain : (d : List Span) (i : ℤ) → IsDomain (just d i)
unfolding just AscendFrom
just-domain d i = elim (cases_Bool (has_value d i && is_within i)) [
  | inl e ↦ rw e (only-domain i (within-bounds i (and_parts (has_value d i) (is_within i) e).1))
  | inr e ↦ rw e tt
]

pub just-is : (d : List Span) (i : ℤ) → IsTrue (has_value d i) → IsWithinBounds i → just d i ≡ only i
unfolding just
just-is d i h b = let e : is_within i ≡ true = bounds-within i b in rw (h, e) refl

pub empty-has : (j : ℤ) → IsTrue (has_value [] j) → ⊥
unfolding has_value
empty-has j h = cc

pub just-below : (d : List Span) (i j : ℤ) → IsTrue (has_value (just d i) j) → IsTrue (has_value d j)
unfolding just
just-below d i j h = elim (cases_Bool (has_value d i && is_within i)) [
  | inl e ↦
      let one : IsTrue (has_value (only i) j) = rw e at h in
      subst (λ (z : ℤ). IsTrue (has_value d z)) (sym (has-only i j one)) (and_parts (has_value d i) (is_within i) e).0
  | inr e ↦ absurd (empty-has j (rw e at h))
]

-- the value of each item alone
alone : State → (ℕ → ℤ) → Domains
alone s a x = just (given s x) (value_of a x)

pub root-value : (s : State) (a : ℕ → ℤ) → Solves s a → (x : Item) → value_of a (root_item s x) ≡ value_of a x
root-value s a h (Item.Var n) = h.follows n
root-value s a h (Item.Int i) = refl

alone-is : (s : State) (a : ℕ → ℤ) → Solves s a → (c : Constraint) (k : ℕ) → Contains s.constraints c → k < length (places_of c) →
    alone s a (root_item s (place_at c k)) ≡ only (value_at a c k)
unfolding alone
alone-is s a h c k posted l =
    let x : Item = root_item s (place_at c k) in
    let counts : Counts s x = place-counts s c k posted l in
    just-is (given s x) (value_of a x) (h.values x counts) (h.bounded x counts) ∙ ap only (root-value s a h (place_at c k) ∙ sym (place-value a c k l))

alone-domain : (s : State) (a : ℕ → ℤ) (x : Item) → IsDomain (alone s a x)
unfolding alone
alone-domain s a x = just-domain (given s x) (value_of a x)

alone-unchanged : (s : State) (a : ℕ → ℤ) → Solves s a → NoFilterChanges s (alone s a)
alone-unchanged s a h c k i posted l has =
    let is : (j : ℕ) → j < length (places_of c) → domain_at (at_places s (alone s a) c) j ≡ only (value_at a c j) =
    λ j m. place-domain s (alone s a) c j m ∙ alone-is s a h c j posted m in
    let same : i ≡ value_at a c k = has-only (value_at a c k) i (subst (λ (d : List Span). IsTrue (has_value d i)) (is k l) has) in
    subst (λ (z : ℤ). Leaves c (at_places s (alone s a) c) k z) (sym same)
    (filters_keep_solutions c (at_places s (alone s a) c) a (places-domains s (alone s a) c (alone-domain s a))
    (λ j m. subst (λ (d : List Span). IsTrue (has_value d (value_at a c j))) (sym (is j m)) (only-has (value_at a c j))) (h.holds c posted) k l)

pub settling_keeps_solutions : SettlingKeepsSolutions
unfolding alone
settling_keeps_solutions s a h x counts = record {
  domains = alone s a;
  below = record { domains = λ y. just-domain (given s y) (value_of a y); below = λ y i has. just-below (given s y) (value_of a y) i has };
  unchanged = alone-unchanged s a h;
  has = subst (λ (d : List Span). IsTrue (has_value d (value_of a x))) (sym (just-is (given s x) (value_of a x) (h.values x counts) (h.bounded x counts))) (only-has (value_of a x));
}
