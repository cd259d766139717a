-- Keys of facts while they are made: what has a key keeps it.
use Rattle.std.proofs.Common.{◌≡◌, inl, inr, ℕ, ◌+◌, ◌≤◌, ◌<◌, ◌==◌, Bool, true, false, cond, List, [], ◌∷◌, ◌++◌, Option, Some, refl, sym, ap, ◌∙◌, subst, arith}
use Rattle.std.specs.Prelude.{slice_get, Contains}
use Rattle.std.specs.HashMap.{get_by}
use Rattle.std.specs.Ordering.{nat_cmp}
use Rattle.std.specs.declared.cmp.Ordering.{Ordering}
use Rattle.std.specs.declared.cmp.Ordering.TheVariants.{Less, Equal, Greater}
use Rattle.std.proofs.lemmas.Cmp.{ranked}
use Rattle.std.specs.BTreeSet.{contains}
use Rattle.std.proofs.lemmas.Bool.Decides.{Decides-eqb}
use Rattle.std.proofs.lemmas.List.Elements.{Contains-push_cases}
use Rattle.pi_engine_code.specs.declared.fact_keys.FactKeys.{FactKeys}
use Rattle.pi_engine_code.specs.Order.{key, key_order}
use Rattle.pi_engine_code.specs.Keys.{items_of, places_in}
use Rattle.pi_engine_code.specs.declared.code.HeadTest.{HeadTest}
use Rattle.pi_engine_code.specs.declared.code.Rule.{Rule}
use Rattle.pi_engine_code.specs.declared.code.Predicate.{Predicate}
use Rattle.pi_engine_code.specs.Keyed.{shown_at, IsFactKeyed, IsPlaceKeyed, AreKeyed, StillHas, ArePlaces}

pub still-then : (m n k : FactKeys) → StillHas m n → StillHas n k → StillHas m k
still-then m n k first more = λ at number has. more at number (first at number has)

pub fact-still : (rules : List Rule) (tests : List HeadTest) (m n : FactKeys) (p place number : ℕ) → StillHas m n → IsFactKeyed rules tests m p place number → IsFactKeyed rules tests n p place number
fact-still rules tests m n p place number still is = λ r t rule test. still (shown_at p place t) number (is r t rule test)

place-still : (predicates : List Predicate) (rules : List Rule) (tests : List HeadTest) (m n : FactKeys) (p place : ℕ) → StillHas m n → IsPlaceKeyed predicates rules tests m p place → IsPlaceKeyed predicates rules tests n p place
place-still predicates rules tests m n p place still is = λ predicate there. (
  (is predicate there).0,
  λ number low high. fact-still rules tests m n p place number still ((is predicate there).1 number low high),
)

-- ---- the facts of a predicate, one after the other

pub record FactsSoFar (rules : List Rule) (tests : List HeadTest) (m n : FactKeys) (p place first now : ℕ) : Type 0 where
  pub listed : n.places ≡ m.places
  pub still : StillHas m n
  pub keyed : (number : ℕ) → first ≤ number → number < now → IsFactKeyed rules tests n p place number

pub no-facts-yet : (rules : List Rule) (tests : List HeadTest) (m : FactKeys) (p place first : ℕ) → FactsSoFar rules tests m m p place first first
no-facts-yet rules tests m p place first = record { listed = refl; still = λ at number has. has; keyed = λ number low high. absurd (omega (arith, low, high)) }

-- a number below the next one is below this one, or it is this one
one-more-by : (P : ℕ → Type 0) (number now : ℕ) (o : Ordering) → o ≡ nat_cmp number now → number < now + 1 → (number < now → P number) → P now → P number
one-more-by P number now Less is less before here = before (ranked number now Less is)
one-more-by P number now Equal is less before here = let same : number ≡ now = ranked number now Equal is in subst P (sym same) here
one-more-by P number now Greater is less before here = let more : now < number = ranked number now Greater is in absurd (omega (arith, less, more))

one-more : (P : ℕ → Type 0) (number now : ℕ) → number < now + 1 → (number < now → P number) → P now → P number
one-more P number now less before here = one-more-by P number now (nat_cmp number now) refl less before here

pub fact-more : (rules : List Rule) (tests : List HeadTest) (m n k : FactKeys) (p place first now : ℕ) → FactsSoFar rules tests m n p place first now → k.places ≡ n.places → StillHas n k → IsFactKeyed rules tests k p place now → FactsSoFar rules tests m k p place first (now + 1)
fact-more rules tests m n k p place first now so listed still is =
    record {
      listed = listed ∙ so.listed;
      still = still-then m n k so.still still;
      keyed = λ number low high.
          one-more (IsFactKeyed rules tests k p place) number now high (λ less. fact-still rules tests n k p place number still (so.keyed number low less)) is;
    }

-- ---- the places of a predicate, one after the other

same-predicate : (o : Option Predicate) (p q : Predicate) → o ≡ Some p → o ≡ Some q → p ≡ q
same-predicate o p q h k = cc

place-keyed : (predicates : List Predicate) (rules : List Rule) (tests : List HeadTest) (n : FactKeys) (p place : ℕ) (predicate : Predicate) → slice_get predicates p ≡ Some predicate → place < predicate.arity →
    ((number : ℕ) → predicate.first ≤ number → number < predicate.end → IsFactKeyed rules tests n p place number) → IsPlaceKeyed predicates rules tests n p place
place-keyed predicates rules tests n p place predicate there within keyed = λ q at.
    subst (λ (r : Predicate). (place < r.arity) × ((number : ℕ) → r.first ≤ number → number < r.end → IsFactKeyed rules tests n p place number)) (same-predicate (slice_get predicates p) predicate q there at) (within, keyed)

-- a place whose facts have their keys goes to the others
pub place-more : (predicates : List Predicate) (rules : List Rule) (tests : List HeadTest) (m n : FactKeys) (p place : ℕ) (predicate : Predicate) (places more : List ℕ) → slice_get predicates p ≡ Some predicate → place < predicate.arity →
    StillHas m n → ((number : ℕ) → predicate.first ≤ number → number < predicate.end → IsFactKeyed rules tests n p place number) → more ≡ places ++ place ∷ [] → ArePlaces predicates rules tests m p places → ArePlaces predicates rules tests n p more
place-more predicates rules tests m n p place predicate places more there within still keyed pushed are = λ other listed.
    elim (Contains-push_cases places place other (subst (λ (xs : List ℕ). Contains xs other) pushed listed)) [
      | inl old ↦ place-still predicates rules tests m n p other still (are other old)
      | inr same ↦ subst (IsPlaceKeyed predicates rules tests n p) same (place-keyed predicates rules tests n p place predicate there within keyed)
    ]

nothing : (place : ℕ) → Contains [] place → ⊥
nothing place h = omega (arith, h.1)

pub record PlacesSoFar (predicates : List Predicate) (rules : List Rule) (tests : List HeadTest) (m n : FactKeys) (p : ℕ) (places : List ℕ) : Type 0 where
  pub listed : n.places ≡ m.places
  pub still : StillHas m n
  pub places_are : ArePlaces predicates rules tests n p places

pub no-places-yet : (predicates : List Predicate) (rules : List Rule) (tests : List HeadTest) (m : FactKeys) (p : ℕ) (places : List ℕ) → places ≡ [] → PlacesSoFar predicates rules tests m m p places
no-places-yet predicates rules tests m p places none =
    record { listed = refl; still = λ at number has. has; places_are = λ place listed. absurd (nothing place (subst (λ (xs : List ℕ). Contains xs place) none listed)) }

pub places-more : (predicates : List Predicate) (rules : List Rule) (tests : List HeadTest) (m n k : FactKeys) (p : ℕ) (places more : List ℕ) → PlacesSoFar predicates rules tests m n p places → k.places ≡ n.places → StillHas n k →
    (ArePlaces predicates rules tests n p places → ArePlaces predicates rules tests k p more) → PlacesSoFar predicates rules tests m k p more
places-more predicates rules tests m n k p places more so listed still are =
    record { listed = listed ∙ so.listed; still = still-then m n k so.still still; places_are = are so.places_are }

-- ---- the predicates

pub no-keys : (predicates : List Predicate) (rules : List Rule) (tests : List HeadTest) (m : FactKeys) → ((p : ℕ) → places_in m p ≡ []) → AreKeyed predicates rules tests m
no-keys predicates rules tests m none = λ p place listed. absurd (nothing place (subst (λ (xs : List ℕ). Contains xs place) (none p) listed))

kept : (m n : FactKeys) → n.keys ≡ m.keys → StillHas m n
kept m n same = λ at number has. ap (λ s. contains key_order s (key at number)) same ∙ has

found-by : (predicates : List Predicate) (rules : List Rule) (tests : List HeadTest) (m n k : FactKeys) (p q place : ℕ) (places : List ℕ) (b : Bool) → (p == q) ≡ b → PlacesSoFar predicates rules tests m n p places → StillHas n k → AreKeyed predicates rules tests m →
    Contains (cond b places (places_in n q)) place → IsPlaceKeyed predicates rules tests k q place
found-by predicates rules tests m n k p q place places true is so still keyed here =
    subst (λ (r : ℕ). IsPlaceKeyed predicates rules tests k r place) ((Decides-eqb p q).0 is) (place-still predicates rules tests n k p place still (so.places_are place here))
found-by predicates rules tests m n k p q place places false is so still keyed here =
    place-still predicates rules tests m k q place (still-then m n k so.still still) (keyed q place (subst (λ ls. Contains (items_of (get_by (λ r. q == r) ls)) place) so.listed here))

-- the facts of one more are found by these places
pub keyed-more : (predicates : List Predicate) (rules : List Rule) (tests : List HeadTest) (m n k : FactKeys) (p : ℕ) (places : List ℕ) → PlacesSoFar predicates rules tests m n p places → k.keys ≡ n.keys →
    ((q : ℕ) → places_in k q ≡ cond (p == q) places (places_in n q)) → AreKeyed predicates rules tests m → AreKeyed predicates rules tests k
keyed-more predicates rules tests m n k p places so same listed keyed = λ q place here.
    found-by predicates rules tests m n k p q place places (p == q) refl so (kept n k same) keyed (subst (λ (xs : List ℕ). Contains xs place) (listed q) here)
