-- Stable states that may settle: what items come to there, and what the filters leave at places that come to integers.
use Rattle.std.specs.Prelude.{◌≡◌, ℕ, ◌<◌, ℤ, IsTrue, List, length, Some, Contains, refl}
use Rattle.std.proofs.Common.{arith, sym, ◌∙◌, ap, subst, inl, inr}
use Rattle.std.proofs.lemmas.Option.{slice_get-get_or}
use Rattle.pi_constraints.specs.declared.constraint.Constraint.{Constraint}
use Rattle.pi_constraints.specs.declared.constraint.Item.{Item}
use Rattle.pi_constraints.specs.declared.domain.Span.{Span}
use Rattle.pi_constraints.specs.Domain.{IsWithinBounds, IsDomain, has_value}
use Rattle.pi_constraints.specs.Constraint.{IsWithinLimits}
use Rattle.pi_constraints.specs.State.{State, domain_of, IsState}
use Rattle.pi_prop_spec.specs.Ends.{greatest_of, IsFixedTo}
use Rattle.pi_prop_spec.specs.Places.{places_of, domain_at}
use Rattle.pi_prop_spec.specs.Filter.{Leaves}
use Rattle.pi_prop_spec.specs.Solutions.{value_of, value_at, Holds}
use Rattle.pi_prop_spec.proofs.FilterLemmas.{filters_are_decisive}
use Rattle.pi_settling.specs.Roots.{root_item, only, domain_or_all}
use Rattle.pi_settling.specs.Stable.{at_places, IsStable}
use Rattle.pi_settling.specs.SettlingLaws.{MaySettle}
use Rattle.pi_settling.proofs.PlaceLemmas.{place_at, place-domain, place-value, place-contained, count-places, from_place}
use Rattle.pi_settling.proofs.StableLemmas.{only-domain, only-has, just-is}
use Rattle.pi_settling.proofs.TwiceLemmas.{left, later-root, left-unchanged, has_in}
use Rattle.pi_label_laws.proofs.HoldLemmas.{holds-again}

-- a stable state that may settle
pub record Rests (r : State) : Type 0 where
  pub state : IsState r
  pub may : MaySettle r
  pub stable : IsStable r r

-- an item comes to an integer
abbrev pub IsTold : State → Item → Type 0
IsTold r y = (i : ℤ) × (root_item r y ≡ Item.Int i)

-- ---- values of what items come to

-- each variable has the value of what it comes to, where these give each unbound variable one
pub valued : State → (ℕ → ℤ) → ℕ → ℤ
valued r b n = value_of b (root_item r (Item.Var n))

pub valued-item : (r : State) (b : ℕ → ℤ) (y : Item) → value_of (valued r b) y ≡ value_of b (root_item r y)
unfolding valued
valued-item r b (Item.Var n) = refl
valued-item r b (Item.Int i) = refl

pub root-twice : (r : State) → Rests r → (y : Item) → root_item r (root_item r y) ≡ root_item r y
root-twice r w y = later-root r r w.state w.state w.stable y

pub valued-root : (r : State) (b : ℕ → ℤ) → Rests r → (y : Item) → value_of (valued r b) (root_item r y) ≡ value_of b (root_item r y)
valued-root r b w y = valued-item r b (root_item r y) ∙ ap (value_of b) (root-twice r w y)

pub valued-told : (r : State) (b : ℕ → ℤ) (y : Item) (i : ℤ) → root_item r y ≡ Item.Int i → value_of (valued r b) y ≡ i
valued-told r b y i e = valued-item r b y ∙ ap (value_of b) e

-- ---- places

pub is_posted : (r : State) (c : Constraint) → IsState r → Contains r.constraints c → IsWithinLimits c
is_posted r c is (k, l, e) = (is.constraints k c (slice_get-get_or r.constraints k c l ∙ ap Some e)).0

pub told-bounds : (r : State) (c : Constraint) (y : Item) (i : ℤ) → MaySettle r → Contains r.constraints c → Contains (places_of c) y → root_item r y ≡ Item.Int i → IsWithinBounds i
told-bounds r c y i may posted at e = elim (may c y posted at) [
  | inl (n, d, f, has) ↦ absurd (cc)
  | inr (j, f, b) ↦ let same : j ≡ i = cc in subst IsWithinBounds same b
]

-- the items of a place have one value alone
abbrev pub IsOnly : State → (ℕ → ℤ) → Item → Type 0
IsOnly r b y = left r (root_item r y) ≡ only (value_of (valued r b) y)

pub told-only : (r : State) (b : ℕ → ℤ) (c : Constraint) (y : Item) → Rests r → Contains r.constraints c → Contains (places_of c) y → IsTold r y → IsOnly r b y
unfolding left
told-only r b c y w posted at (i, e) =
    ap (left r) e ∙ (just-is (only i) i (only-has i) (told-bounds r c y i w.may posted at e) ∙ ap only (sym (valued-told r b y i e)))

pub told-value : (r : State) (b : ℕ → ℤ) (c : Constraint) (y : Item) → Rests r → Contains r.constraints c → Contains (places_of c) y → IsTold r y → IsWithinBounds (value_of (valued r b) y)
told-value r b c y w posted at (i, e) = subst IsWithinBounds (sym (valued-told r b y i e)) (told-bounds r c y i w.may posted at e)

-- the domains that a filter reads
abbrev pub read_at : State → Constraint → List (List Span)
read_at r c = at_places r (left r) c

-- what a stable state has at a place the filter leaves
pub rest-leaves : (r : State) (c : Constraint) (k : ℕ) (i : ℤ) → Rests r → Contains r.constraints c → k < length (places_of c) → IsTrue (has_value (left r (root_item r (place_at c k))) i) → Leaves c (read_at r c) k i
rest-leaves r c k i w posted l h = left-unchanged r r w.state w.state w.may w.stable c k i posted l (from_place r (left r) c k i l h)

-- the values of a variable with a domain
pub left-variable : (r : State) (v : ℕ) (d : List Span) → domain_of r v ≡ Some d → left r (Item.Var v) ≡ d
unfolding left
left-variable r v d has = ap domain_or_all has

pub only-fixed : (i : ℤ) → IsFixedTo (only i) i
unfolding greatest_of
only-fixed i = (refl, refl)

-- ---- where all places of a constraint come to integers it holds

place-only : (r : State) (b : ℕ → ℤ) (c : Constraint) (k : ℕ) → Rests r → Contains r.constraints c → ((y : Item) → Contains (places_of c) y → IsTold r y) → k < length (places_of c) →
    domain_at (read_at r c) k ≡ only (value_at (valued r b) c k)
place-only r b c k w posted told l =
    let at : Contains (places_of c) (place_at c k) = place-contained c k l in
    place-domain r (left r) c k l ∙ (told-only r b c (place_at c k) w posted at (told (place_at c k) at) ∙ ap only (sym (place-value (valued r b) c k l)))

place-bounds : (r : State) (b : ℕ → ℤ) (c : Constraint) (k : ℕ) → Rests r → Contains r.constraints c → ((y : Item) → Contains (places_of c) y → IsTold r y) → k < length (places_of c) → IsWithinBounds (value_at (valued r b) c k)
place-bounds r b c k w posted told l =
    let at : Contains (places_of c) (place_at c k) = place-contained c k l in
    subst IsWithinBounds (sym (place-value (valued r b) c k l)) (told-value r b c (place_at c k) w posted at (told (place_at c k) at))

pub all_told-holds : (r : State) (b : ℕ → ℤ) (c : Constraint) → Rests r → Contains r.constraints c → ((y : Item) → Contains (places_of c) y → IsTold r y) → Holds c (valued r b)
all_told-holds r b c w posted told =
    let a : ℕ → ℤ = valued r b in
    let ds : List (List Span) = read_at r c in
    let count : length ds ≡ length (places_of c) = count-places r (left r) c in
    let is : (k : ℕ) → k < length (places_of c) → domain_at ds k ≡ only (value_at a c k) = λ k l. place-only r b c k w posted told l in
    let has : (k : ℕ) → k < length (places_of c) → IsTrue (has_value (domain_at ds k) (value_at a c k)) = λ k l. has_in (only (value_at a c k)) (domain_at ds k) (value_at a c k) (sym (is k l)) (only-has (value_at a c k)) in
    holds-again c a (λ fails.
    let none = (filters_are_decisive c ds a (is_posted r c w.state posted)
    (record {
      count = count;
      domains = λ k l. let inside : k < length (places_of c) = omega (arith, count) in subst IsDomain (sym (is k inside)) (only-domain (value_at a c k) (place-bounds r b c k w posted told inside));
    })
    has (λ k l. subst (λ (d : List Span). IsFixedTo d (value_at a c k)) (sym (is k l)) (only-fixed (value_at a c k)))).1 fails in
    none.2 (value_at a c none.0)
    (rest-leaves r c none.0 (value_at a c none.0) w posted none.1 (has_in (domain_at ds none.0) (left r (root_item r (place_at c none.0))) (value_at a c none.0) (place-domain r (left r) c none.0 none.1) (has none.0 none.1))))
