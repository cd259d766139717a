-- Putting a way and marking a place, by what maps and sets say of themselves.
use Rattle.std.proofs.Common.{◌≡◌, ◌≢◌, ℕ, true, false, List, [], ◌∷◌, ◌++◌, length, Option, Some, None, refl, ap, sym, ◌∙◌, subst}
use Rattle.std.specs.Prelude.{Contains, IsSome}
use Rattle.std.specs.BTreeMap.{get, is_at, BTreeMap}
use Rattle.std.specs.BTreeSet.{insert_key}
use Rattle.std.specs.Ordering.{is_eq}
use Rattle.std.specs.declared.cmp.Ordering.{Ordering}
use Rattle.std.specs.declared.cmp.Ordering.TheVariants.{Less, Equal, Greater}
use Rattle.pi_plan.specs.declared.place.Place.{Place}
use Rattle.pi_plan.specs.declared.due.Due.{Due}
use Rattle.pi_plan.specs.declared.search.Way.{Way}
use Rattle.pi_plan.specs.declared.search.Standing.{Standing}
use Rattle.pi_plan.specs.declared.search.Search.{Search}
use Rattle.pi_plan.specs.Place.{place_order}
use Rattle.pi_plan.specs.Due.{due_order}
use Rattle.pi_plan.specs.Search.{opens, Puts, Marks}
use Rattle.pi_plan.proofs.PlaceLemmas.{place_order_same, insert_key-new, insert_key-old, insert_key-cases}
use Rattle.pi_plan.proofs.SearchLemmas.{standing}

apart_by : (k q : Place) (o : Ordering) → place_order k q ≡ o → q ≢ k → is_eq o ≡ false
apart_by k q Less e not = refl
apart_by k q Equal e not = absurd (not (sym (place_order_same k q e)))
apart_by k q Greater e not = refl

pub apart : (k q : Place) → q ≢ k → is_at (place_order k) q ≡ false
apart k q not = apart_by k q (place_order k q) refl not

pub puts_by : (old new : Search) (k : Place) (w : Way) (cost spent number : ℕ) → spent ≡ cost → number ≡ length old.ways.items → new.ways.items ≡ old.ways.items ++ w ∷ [] →
    get place_order new.known k ≡ Some (standing spent false) → ((q : Place) → is_at (place_order k) q ≡ false → get place_order new.known q ≡ get place_order old.known q) →
    new.frontier.keys ≡ insert_key due_order old.frontier.keys (record { cost = spent; way = number }) → Puts old new k w cost
puts_by old new k w cost spent number e f ways here elsewhere keys =
    let due : Due = record { cost = cost; way = length old.ways.items } in
    let same : new.frontier.keys ≡ insert_key due_order old.frontier.keys due = keys ∙ (ap (λ (n : ℕ). insert_key due_order old.frontier.keys (record { cost = n; way = number })) e
    ∙ ap (λ (n : ℕ). insert_key due_order old.frontier.keys (record { cost = cost; way = n })) f) in
    record {
      ways = ways;
      here = here ∙ ap (λ (n : ℕ). Some (standing n false)) e;
      elsewhere = λ q not. elsewhere q (apart k q not);
      due_new = subst (λ (ds : List Due). Contains ds due) (sym same) (insert_key-new due old.frontier.keys);
      due_old = λ d h. subst (λ (ds : List Due). Contains ds d) (sym same) (insert_key-old due old.frontier.keys d h);
      due_cases = λ d h. insert_key-cases due old.frontier.keys d (subst (λ (ds : List Due). Contains ds d) same h);
    }

pub marks_by : (old new : BTreeMap Place Standing) (k : Place) (cost : ℕ) → get place_order new k ≡ Some (standing cost true) →
    ((q : Place) → is_at (place_order k) q ≡ false → get place_order new q ≡ get place_order old q) → Marks old new k cost
marks_by old new k cost here elsewhere = record { here = here; elsewhere = λ q not. elsewhere q (apart k q not) }

pub opens_some : (o : Option Standing) → opens o ≡ true → IsSome o
opens_some None e = absurd (cc)
opens_some (Some s) e = refl
