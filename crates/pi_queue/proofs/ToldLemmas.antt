-- The loop over the places of a constraint, where something is told of some of them.
use Rattle.std.specs.Prelude.{◌≡◌, ℕ, ◌+◌, ◌<◌, Bool, true, false, List, [], length, Option, unwrap_or}
use Rattle.std.proofs.Common.{arith, ◌∙◌, ap, get_or}
use Rattle.std.proofs.lemmas.List.{get_or_default}
use Rattle.pi_constraints.specs.declared.constraint.Constraint.{Constraint}
use Rattle.pi_constraints.specs.declared.constraint.Item.{Item}
use Rattle.pi_constraints.specs.declared.domain.Span.{Span}
use Rattle.pi_prop_spec.specs.Places.{places_of, domain_at}
use Rattle.pi_constraints.specs.State.{State, IsState}
use Rattle.pi_settling.specs.Roots.{root_item, given}
use Rattle.pi_settling.proofs.PlaceLemmas.{count-places}
use Rattle.pi_settling.specs.Run.{Fails}
use Rattle.pi_queue.specs.Changes.{AreTold}
use Rattle.pi_queue.specs.Leaving.{MayTake, Takes, HasLeft, MayLeave, IsNarrower, with_lost}
use Rattle.pi_queue.proofs.LoopLemmas.{as-places, leaves-more, leaves-none}
use Rattle.pi_queue.proofs.FilterLemmas.{told-at}

in-before : (s : State) (c : Constraint) (k : ℕ) (roots : List Item) (before left : List (List Span)) (lost : List ℕ) → MayLeave s c roots before left lost → k < length roots → k < length before
in-before s c k roots before left lost m l =
    let many : length roots ≡ length (places_of c) = as-places s c roots before left lost m in
    let as-given : length before ≡ length (places_of c) = ap length m.are_given ∙ count-places s (given s) c in
    omega (arith, many, as-given, l)

in-left : (s : State) (c : Constraint) (k : ℕ) (roots : List Item) (before left : List (List Span)) (lost : List ℕ) → MayLeave s c roots before left lost → k < length roots → k < length left
in-left s c k roots before left lost m l = let inside = in-before s c k roots before left lost m l in let e : length left ≡ length before = m.are_left.count in omega (arith, e, inside)

-- what leaving one place comes to, whatever its values were
abbrev pub TakesTold : State → State → Option (List Span) → List ℕ → Item → Bool → List ℕ → Type 0
TakesTold q r one now item some more = (b l : List Span) → l ≡ unwrap_or one b → IsState q → MayTake q item b l → Takes l (with_lost q now) (root_item q item) some (with_lost r more)

pub told-more : (s q r : State) (c : Constraint) (k : ℕ) (roots : List Item) (before left : List (List Span)) (told : List (Option (List Span))) (lost now more : List ℕ) (item : Item) (one : Option (List Span)) (some : Bool) → AreTold before told left → MayLeave s c roots before left lost →
    k < length roots → item ≡ get_or roots k item → one ≡ get_or told k one → HasLeft s c k q now → TakesTold q r one now item some more → some ≡ true → HasLeft s c (k + 1) r more
told-more s q r c k roots before left told lost now more item one some t m l item-is one-is h call is =
    let b : List Span = domain_at before k in
    let d : List Span = domain_at left k in
    leaves-more s q r c k roots before left lost now more item b d some m l item-is
    (get_or_default before k [] b (in-before s c k roots before left lost m l)) (get_or_default left k [] d (in-left s c k roots before left lost m l)) h
    (call b d (told-at before left told k one t (in-left s c k roots before left lost m l) one-is)) is

pub told-none : (s q r : State) (c : Constraint) (k : ℕ) (roots : List Item) (before left : List (List Span)) (told : List (Option (List Span))) (lost now more : List ℕ) (item : Item) (one : Option (List Span)) (some : Bool) → AreTold before told left → MayLeave s c roots before left lost →
    k < length roots → item ≡ get_or roots k item → one ≡ get_or told k one → HasLeft s c k q now → TakesTold q r one now item some more → some ≡ false → Fails s c × IsNarrower s r
told-none s q r c k roots before left told lost now more item one some t m l item-is one-is h call is =
    let b : List Span = domain_at before k in
    let d : List Span = domain_at left k in
    leaves-none s q r c k roots before left lost now more item b d some m l item-is
    (get_or_default before k [] b (in-before s c k roots before left lost m l)) (get_or_default left k [] d (in-left s c k roots before left lost m l)) h
    (call b d (told-at before left told k one t (in-left s c k roots before left lost m l) one-is)) is
