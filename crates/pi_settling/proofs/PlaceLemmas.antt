-- The domains at the places of a constraint.
use Rattle.std.specs.Prelude.{◌≡◌, ℕ, ◌<◌, ℤ, pos, IsTrue, List, [], length, get_or, Contains, refl}
use Rattle.std.proofs.Common.{arith, sym, subst}
use Rattle.std.proofs.lemmas.List.{length-map, get_or-map, get_or_default}
use Rattle.pi_constraints.specs.declared.constraint.Constraint.{Constraint}
use Rattle.pi_constraints.specs.declared.constraint.Item.{Item}
use Rattle.pi_constraints.specs.declared.domain.Span.{Span}
use Rattle.pi_constraints.specs.Domain.{IsDomain, has_value}
use Rattle.pi_prop_spec.specs.Places.{places_of, domain_at}
use Rattle.pi_prop_spec.specs.Solutions.{value_of, value_at}
use Rattle.pi_prop_spec.specs.Laws.{AreDomainsOf}
use Rattle.pi_constraints.specs.State.{State}
use Rattle.pi_settling.specs.Roots.{root_item, Counts, by_place}
use Rattle.pi_settling.specs.Stable.{Domains, at_places}

-- the item at a place
abbrev pub place_at : Constraint → ℕ → Item
place_at c k = get_or (places_of c) k (Item.Int (pos 0))

pub place-domain : (s : State) (ds : Domains) (c : Constraint) (k : ℕ) → k < length (places_of c) → domain_at (at_places s ds c) k ≡ ds (root_item s (place_at c k))
place-domain s ds c k l = get_or-map (λ x. ds (root_item s x)) (places_of c) k (Item.Int (pos 0)) [] l

pub place-value : (a : ℕ → ℤ) (c : Constraint) (k : ℕ) → k < length (places_of c) → value_at a c k ≡ value_of a (place_at c k)
place-value a c k l = get_or-map (value_of a) (places_of c) k (Item.Int (pos 0)) (pos 0) l

pub place-contained : (c : Constraint) (k : ℕ) → k < length (places_of c) → Contains (places_of c) (place_at c k)
place-contained c k l = (k, l, get_or_default (places_of c) k (place_at c k) (Item.Int (pos 0)) l)

pub place-counts : (s : State) (c : Constraint) (k : ℕ) → Contains s.constraints c → k < length (places_of c) → Counts s (root_item s (place_at c k))
place-counts s c k posted l = by_place c (place_at c k) posted (place-contained c k l) refl

pub count-places : (s : State) (ds : Domains) (c : Constraint) → length (at_places s ds c) ≡ length (places_of c)
count-places s ds c = length-map (places_of c) (λ x. ds (root_item s x))

pub places-domains : (s : State) (ds : Domains) (c : Constraint) → ((x : Item) → IsDomain (ds x)) → AreDomainsOf c (at_places s ds c)
places-domains s ds c all = record {
  count = count-places s ds c;
  domains = λ k l. subst IsDomain (sym (place-domain s ds c k (omega (arith, count-places s ds c)))) (all (root_item s (place_at c k)));
}

-- a value is one of the domain at a place, and of the item there
pub at_place : (s : State) (ds : Domains) (c : Constraint) (k : ℕ) (i : ℤ) → k < length (places_of c) → IsTrue (has_value (domain_at (at_places s ds c) k) i) → IsTrue (has_value (ds (root_item s (place_at c k))) i)
at_place s ds c k i l h = subst (λ (d : List Span). IsTrue (has_value d i)) (place-domain s ds c k l) h

pub from_place : (s : State) (ds : Domains) (c : Constraint) (k : ℕ) (i : ℤ) → k < length (places_of c) → IsTrue (has_value (ds (root_item s (place_at c k))) i) → IsTrue (has_value (domain_at (at_places s ds c) k) i)
from_place s ds c k i l h = subst (λ (d : List Span). IsTrue (has_value d i)) (sym (place-domain s ds c k l)) h
