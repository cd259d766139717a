-- The loop over the places of a constraint: what was read of each, and what its filter leaves there.
use Rattle.std.specs.Prelude.{◌≡◌, ℕ, ◌+◌, ◌<◌, pos, Bool, true, false, IsTrue, List, [], length}
use Rattle.std.proofs.Common.{sym, ◌∙◌, ap, subst, get_or}
use Rattle.std.proofs.lemmas.List.{length-map, get_or-map, get_or_default}
use Rattle.pi_constraints.specs.declared.constraint.Constraint.{Constraint}
use Rattle.pi_constraints.specs.declared.constraint.Item.{Item}
use Rattle.pi_constraints.specs.declared.domain.Span.{Span}
use Rattle.pi_constraints.specs.Domain.{has_value}
use Rattle.pi_prop_spec.specs.Places.{places_of, domain_at}
use Rattle.pi_prop_spec.specs.Filter.{Leaves}
use Rattle.pi_constraints.specs.State.{State, IsState}
use Rattle.pi_settling.specs.Roots.{root_item, given}
use Rattle.pi_settling.proofs.PlaceLemmas.{count-places}
use Rattle.pi_settling.specs.Run.{given_at, KeptBefore, Fails}
use Rattle.pi_settling.proofs.NarrowLemmas.{narrow-state}
use Rattle.pi_queue.specs.Leaving.{MayTake, Takes, HasLeft, MayLeave, IsNarrower, LeavesAll, with_lost}
use Rattle.pi_queue.proofs.LeaveLemmas.{StandsAt, IsLeftAt, item_at, step, fails, meets, starts, narrower}

pub as-places : (s : State) (c : Constraint) (roots : List Item) (before left : List (List Span)) (lost : List ℕ) → MayLeave s c roots before left lost → length roots ≡ length (places_of c)
as-places s c roots before left lost m = ap length m.are_roots ∙ length-map (places_of c) (root_item s)

-- what stands at a place that was read, and what its filter leaves there
record IsRead (s : State) (c : Constraint) (k : ℕ) (item : Item) (before here : List Span) : Type 0 where
  inside : k < length (places_of c)
  item_is : item ≡ item_at s c k
  before_is : before ≡ domain_at (given_at s c) k
  here_is : IsLeftAt s c k here

is-read : (s : State) (c : Constraint) (k : ℕ) (roots : List Item) (given' left : List (List Span)) (lost : List ℕ) (item : Item) (before here : List Span) → MayLeave s c roots given' left lost → k < length roots →
    item ≡ get_or roots k item → before ≡ get_or given' k before → here ≡ get_or left k here → IsRead s c k item before here
is-read s c k roots given' left lost item before here m l item-is before-is here-is =
    let many : length roots ≡ length (places_of c) = as-places s c roots given' left lost m in
    let inside : k < length (places_of c) = subst (λ (n : ℕ). k < n) many l in
    let as-given : length given' ≡ length (places_of c) = ap length m.are_given ∙ count-places s (given s) c in
    let in-given : k < length given' = subst (λ (n : ℕ). k < n) (sym as-given) inside in
    let in-left : k < length left = subst (λ (n : ℕ). k < n) (sym m.are_left.count) in-given in
    let here' : here ≡ domain_at left k = here-is ∙ get_or_default left k here [] in-left in
    record {
      inside = inside;
      item_is = item-is ∙ (ap (λ (xs : List Item). get_or xs k item) m.are_roots ∙ get_or-map (root_item s) (places_of c) k (Item.Int (pos 0)) item inside);
      before_is = before-is ∙ (get_or_default given' k before [] in-given ∙ ap (λ (ds : List (List Span)). domain_at ds k) m.are_given);
      here_is = λ i.
          let both = m.are_left.values k i in-given in (
            λ h. subst (λ (ds : List (List Span)). Leaves c ds k i) m.are_given (both.0 (subst (λ (d : List Span). IsTrue (has_value d i)) here' h)),
            λ h. subst (λ (d : List Span). IsTrue (has_value d i)) (sym here') (both.1 (subst (λ (ds : List (List Span)). Leaves c ds k i) (sym m.are_given) h)),
          );
    }

stands : (s q : State) (c : Constraint) (k : ℕ) (roots : List Item) (given' left : List (List Span)) (lost now : List ℕ) → MayLeave s c roots given' left lost → k < length (places_of c) → HasLeft s c k q now → StandsAt s c k q now
stands s q c k roots given' left lost now m l h = record { state = m.narrows.state; settles = m.narrows.settles; posted = m.narrows.posted; inside = l; so_far = h }

-- what the item takes
taken : (s q r : State) (c : Constraint) (k : ℕ) (item : Item) (before here : List Span) (lost more : List ℕ) (some : Bool) → StandsAt s c k q lost → IsRead s c k item before here →
    (IsState q → MayTake q item before here → Takes here (with_lost q lost) (root_item q item) some (with_lost r more)) → Takes here (with_lost q lost) (root_item q (item_at s c k)) some (with_lost r more)
taken s q r c k item before here lost more some a is call =
    let state : IsState q = narrow-state (KeptBefore s c k) s q a.state a.so_far.narrowed in
    let may : MayTake q (item_at s c k) before here = meets s c k q lost before here a is.here_is is.before_is in
    subst (λ (x : Item). Takes here (with_lost q lost) (root_item q x) some (with_lost r more)) is.item_is (call state (subst (λ (x : Item). MayTake q x before here) (sym is.item_is) may))

pub leaves-more : (s q r : State) (c : Constraint) (k : ℕ) (roots : List Item) (given' left : List (List Span)) (lost now more : List ℕ) (item : Item) (before here : List Span) (some : Bool) → MayLeave s c roots given' left lost → k < length roots →
    item ≡ get_or roots k item → before ≡ get_or given' k before → here ≡ get_or left k here → HasLeft s c k q now →
    (IsState q → MayTake q item before here → Takes here (with_lost q now) (root_item q item) some (with_lost r more)) → some ≡ true → HasLeft s c (k + 1) r more
leaves-more s q r c k roots given' left lost now more item before here some m l item-is before-is here-is h call is =
    let read : IsRead s c k item before here = is-read s c k roots given' left lost item before here m l item-is before-is here-is in
    let a : StandsAt s c k q now = stands s q c k roots given' left lost now m read.inside h in
    let t : Takes here (with_lost q now) (root_item q (item_at s c k)) some (with_lost r more) = taken s q r c k item before here now more some a read call in
    step s c k q r now more here a read.here_is (subst (λ (b : Bool). Takes here (with_lost q now) (root_item q (item_at s c k)) b (with_lost r more)) is t)

pub leaves-none : (s q r : State) (c : Constraint) (k : ℕ) (roots : List Item) (given' left : List (List Span)) (lost now more : List ℕ) (item : Item) (before here : List Span) (some : Bool) → MayLeave s c roots given' left lost → k < length roots →
    item ≡ get_or roots k item → before ≡ get_or given' k before → here ≡ get_or left k here → HasLeft s c k q now →
    (IsState q → MayTake q item before here → Takes here (with_lost q now) (root_item q item) some (with_lost r more)) → some ≡ false → Fails s c × IsNarrower s r
leaves-none s q r c k roots given' left lost now more item before here some m l item-is before-is here-is h call is =
    let read : IsRead s c k item before here = is-read s c k roots given' left lost item before here m l item-is before-is here-is in
    let a : StandsAt s c k q now = stands s q c k roots given' left lost now m read.inside h in
    let t : Takes here (with_lost q now) (root_item q (item_at s c k)) some (with_lost r more) = taken s q r c k item before here now more some a read call in
    let none : Takes here (with_lost q now) (root_item q (item_at s c k)) false (with_lost r more) = subst (λ (b : Bool). Takes here (with_lost q now) (root_item q (item_at s c k)) b (with_lost r more)) is t in
    (fails s c k q now here a read.here_is none.1, subst (IsNarrower s) (sym none.0) (narrower (KeptBefore s c k) s q a.state a.settles h.narrowed))

pub leaves-start : (s : State) (c : Constraint) (roots : List Item) (given' left : List (List Span)) (lost : List ℕ) → MayLeave s c roots given' left lost → HasLeft s c 0 s lost
leaves-start s c roots given' left lost m = subst (HasLeft s c 0 s) (sym m.narrows.none) (starts s c m.narrows.state)

pub leaves-narrower : (s q r : State) (c : Constraint) (k : ℕ) (roots : List Item) (given' left : List (List Span)) (lost now : List ℕ) → MayLeave s c roots given' left lost → HasLeft s c k q now → r ≡ q → IsNarrower s r
leaves-narrower s q r c k roots given' left lost now m h same = subst (IsNarrower s) (sym same) (narrower (KeptBefore s c k) s q m.narrows.state m.narrows.settles h.narrowed)

pub leaves-end : (s q : State) (c : Constraint) (k : ℕ) (roots : List Item) (given' left : List (List Span)) (lost now : List ℕ) → MayLeave s c roots given' left lost → k ≡ length roots → HasLeft s c k q now → LeavesAll s c true q now
leaves-end s q c k roots given' left lost now m e h = subst (λ (n : ℕ). HasLeft s c n q now) (e ∙ as-places s c roots given' left lost m) h
