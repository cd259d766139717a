-- A turn is one more run, and wakes just the constraints that a run makes due.
use Rattle.std.specs.Prelude.{◌≡◌, ℕ, ◌<◌, Bool, true, false, List, [], length, slice_get, Some, None, Contains}
use Rattle.std.proofs.Common.{sym, ◌∙◌, ap, subst, inl, inr}
use Rattle.std.proofs.lemmas.Option.{slice_get_within, get_or_from_slice_get}
use Rattle.pi_terms.specs.Places.{held}
use Rattle.pi_constraints.specs.declared.constraint.Constraint.{Constraint}
use Rattle.pi_constraints.specs.declared.constraint.Item.{Item}
use Rattle.pi_constraints.specs.declared.domain.Span.{Span}
use Rattle.pi_prop_spec.specs.Places.{places_of}
use Rattle.pi_constraints.specs.State.{State, bindings, next, domain_in, domain_of, IsState}
use Rattle.pi_constraints.proofs.StateLemmas.{variable, domain_unbound}
use Rattle.pi_settling.specs.Roots.{root_item, given}
use Rattle.pi_settling.specs.SettlingLaws.{MaySettle}
use Rattle.pi_settling.proofs.TwiceLemmas.{has_in}
use Rattle.pi_settling.proofs.UniqueLemmas.{domain_made}
use Rattle.pi_settling.specs.Run.{KeptBefore, LosesValue}
use Rattle.pi_settling.specs.Runs.{IsWoken, AreMadeDue}
use Rattle.pi_settling.proofs.NarrowLemmas.{narrow-state, Comes, to_variable, to_integer, comes, unbound-domain}
use Rattle.pi_settling.proofs.RunLemmas.{contained}
use Rattle.pi_queue.specs.Waiting.{AreAdded, IsOnSome}
use Rattle.pi_constraints.specs.Value.{IsAcyclic}
use Rattle.pi_queue.specs.Leaving.{HasLeft, IsNarrower, MayNarrow, LeavesAll}
use Rattle.pi_queue.specs.Turn.{MayTurn, IsTurn, IsFailure}
use Rattle.pi_queue.proofs.PlaceLemmas.{posted-has, has-posted}
use Rattle.pi_queue.proofs.LeaveLemmas.{ends}

-- a variable that came to itself with a domain has it still where it is as it was
has-still : (s q : State) (n : ℕ) (d : List Span) → domain_of s n ≡ Some d → variable q n ≡ variable s n → LosesValue s q n → ⊥
has-still s q n d has same (v, here, gone) =
    let u = unbound-domain s n d has in
    let start : given s (root_item s (Item.Var n)) ≡ d = ap (given s) u.0 ∙ u.1 in
    let has' : domain_of q n ≡ Some d = ap domain_in same ∙ has in
    let u' = unbound-domain q n d has' in
    let end : given q (root_item q (Item.Var n)) ≡ d = ap (given q) u'.0 ∙ u'.1 in
    gone (has_in d (given q (root_item q (Item.Var n))) v (sym end) (has_in (given s (root_item s (Item.Var n))) d v start here))

variable-had : (s : State) (n : ℕ) (x : Item) → Comes s x → x ≡ Item.Var n → (d : List Span) × (domain_of s n ≡ Some d)
variable-had s n x (to_variable m d e has) is = (d, let same : m ≡ n = cc in subst (λ (j : ℕ). domain_of s j ≡ Some d) same has)
variable-had s n x (to_integer i e b) is = absurd (cc)

pub woken-on : (s q : State) (c : Constraint) (many i : ℕ) (lost : List ℕ) → IsState s → MaySettle s → HasLeft s c many q lost → IsWoken s q i → IsOnSome q lost i
woken-on s q c many i lost is may h (n, loses, (cj, k, at, (y, place, e))) =
    let inside : Contains (places_of cj) y = (k, slice_get_within (places_of cj) k y place, get_or_from_slice_get (places_of cj) k y y place) in
    let had = variable-had s n (root_item s y) (comes s may cj y (contained s.constraints i cj at) inside) e in
    let none : held (bindings s) n ≡ None = domain_unbound s n had.0 had.1 in
    elim (h.others n) [
      | inl in-lost ↦ (n, in-lost, has-posted (KeptBefore s c many) s q n i h.narrowed none (cj, k, at, (y, place, e)))
      | inr same ↦ absurd (has-still s q n had.0 had.1 same loses)
    ]

pub on-woken : (s q : State) (c : Constraint) (many i : ℕ) (lost : List ℕ) → IsState s → HasLeft s c many q lost → IsOnSome q lost i → IsWoken s q i
on-woken s q c many i lost is h (n, in-lost, posted) =
    let loses = h.losing n in-lost in
    let none : held (bindings s) n ≡ None = domain_unbound s n loses.0.0 loses.0.1 in
    (n, loses.1, posted-has (KeptBefore s c many) s q n i is.acyclic h.narrowed none posted)

pub made-due : (s q : State) (c : Constraint) (many : ℕ) (lost rest now : List ℕ) → IsState s → MaySettle s → HasLeft s c many q lost → (a : AreAdded (IsOnSome q lost) rest now) → AreMadeDue s q rest a.fresh
made-due s q c many lost rest now is may h a = record {
  different = a.different;
  has = λ i. (
    λ there. let was = (a.has i).0 there in (on-woken s q c many i lost is h was.0, was.1),
    λ woken. (a.has i).1 (woken-on s q c many i lost is may h woken.0, woken.1),
  );
}

-- what is asked where those are told that are to wake
pub lost-made : (s q : State) (c : Constraint) (many : ℕ) (lost : List ℕ) → HasLeft s c many q lost → (n : ℕ) → Contains lost n → n < next q
lost-made s q c many lost h n in-lost =
    let had = (h.losing n in-lost).0 in
    subst (λ (z : ℕ). n < z) (sym h.narrowed.count) (domain_made s n had.0 had.1)

pub left-state : (s q : State) (c : Constraint) (many : ℕ) (lost : List ℕ) → IsState s → HasLeft s c many q lost → IsState q
left-state s q c many lost is h = narrow-state (KeptBefore s c many) s q is h.narrowed

pub turned : (s q : State) (i : ℕ) (c : Constraint) (lost rest now : List ℕ) → IsState s → MaySettle s → slice_get s.constraints i ≡ Some c → HasLeft s c (length (places_of c)) q lost → AreAdded (IsOnSome q lost) rest now → IsTurn s i rest q now
turned s q i c lost rest now is may at h a = record {
  constraint = c;
  there = at;
  run = ends s c q lost h;
  fresh = a.fresh;
  made = made-due s q c (length (places_of c)) lost rest now is may h a;
  behind = a.behind;
}

-- ---- a constraint that a store tells by its number

pub may-narrow : (s : State) (i : ℕ) (c : Constraint) (lost : List ℕ) → MayTurn s i → (i < length s.constraints → slice_get s.constraints i ≡ Some c) → lost ≡ [] → MayNarrow s c lost
may-narrow s i c lost m at none = record { state = m.state; settles = m.settles; posted = contained s.constraints i c (at m.posted); none = none }

pub turn-narrower : (s r : State) (i : ℕ) (c : Constraint) (lost : List ℕ) → (i < length s.constraints → slice_get s.constraints i ≡ Some c) → lost ≡ [] → (MayNarrow s c lost → IsNarrower s r) → MayTurn s i → IsNarrower s r
turn-narrower s r i c lost at none narrows m = narrows (may-narrow s i c lost m at none)

pub turn-fails : (s r : State) (i : ℕ) (c : Constraint) (lost more : List ℕ) (some : Bool) → (i < length s.constraints → slice_get s.constraints i ≡ Some c) → lost ≡ [] → (MayNarrow s c lost → LeavesAll s c some r more) → some ≡ false → MayTurn s i → IsFailure s i
turn-fails s r i c lost more some at none leaves is m = record { constraint = c; there = at m.posted; fails = subst (λ (b : Bool). LeavesAll s c b r more) is (leaves (may-narrow s i c lost m at none)) }

pub turn-goes : (s q : State) (i : ℕ) (c : Constraint) (lost more rest now numbers : List ℕ) (some : Bool) → (i < length s.constraints → slice_get s.constraints i ≡ Some c) → lost ≡ [] → (MayNarrow s c lost → LeavesAll s c some q more) → some ≡ true → numbers ≡ more →
    (IsAcyclic (bindings q) → ((n : ℕ) → Contains numbers n → n < next q) → AreAdded (IsOnSome q numbers) rest now) → MayTurn s i → IsTurn s i rest q now
turn-goes s q i c lost more rest now numbers some at none leaves is same wakes m =
    let h : HasLeft s c (length (places_of c)) q more = subst (λ (b : Bool). LeavesAll s c b q more) is (leaves (may-narrow s i c lost m at none)) in
    let acyclic : IsAcyclic (bindings q) = (left-state s q c (length (places_of c)) more m.state h).acyclic in
    let woken : (IsAcyclic (bindings q) → ((n : ℕ) → Contains more n → n < next q) → AreAdded (IsOnSome q more) rest now) = subst (λ (ns : List ℕ). IsAcyclic (bindings q) → ((n : ℕ) → Contains ns n → n < next q) → AreAdded (IsOnSome q ns) rest now) same wakes in
    turned s q i c more rest now m.state m.settles (at m.posted) h (woken acyclic (lost-made s q c (length (places_of c)) more h))
