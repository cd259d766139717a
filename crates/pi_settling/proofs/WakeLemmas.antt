-- A run leaves the domains of each constraint as they were that it doesn't wake, so that the constraints that aren't due change nothing.
use Rattle.std.specs.Prelude.{◌≡◌, ◌⊎◌, ℕ, zero, suc, ◌<◌, ℤ, IsTrue, List, [], ◌∷◌, ◌++◌, length, slice_get, Some, Contains, refl}
use Rattle.std.proofs.Common.{arith, sym, ◌∙◌, ap, subst, inl, inr}
use Rattle.std.proofs.lemmas.List.{ext_get_or}
use Rattle.std.proofs.lemmas.Option.{slice_get-get_or}
use Rattle.std.proofs.lemmas.List.Elements.{Contains-append_left, Contains-append_right}
use Rattle.pi_constraints.specs.declared.constraint.Constraint.{Constraint}
use Rattle.pi_constraints.specs.declared.constraint.Item.{Item}
use Rattle.pi_constraints.specs.declared.domain.Span.{Span}
use Rattle.pi_constraints.specs.Domain.{has_value}
use Rattle.pi_prop_spec.specs.Places.{places_of, domain_at}
use Rattle.pi_prop_spec.specs.Filter.{Leaves}
use Rattle.pi_constraints.specs.State.{State, domain_of, IsState}
use Rattle.pi_constraints.proofs.StateLemmas.{domain_good, same_or_not}
use Rattle.pi_settling.specs.Roots.{root_item, given}
use Rattle.pi_settling.specs.SettlingLaws.{MaySettle}
use Rattle.pi_settling.proofs.PlaceLemmas.{place_at, place-domain, count-places, at_place}
use Rattle.pi_settling.proofs.StableLemmas.{has-only}
use Rattle.pi_settling.proofs.TwiceLemmas.{has_in}
use Rattle.pi_settling.specs.Narrowed.{IsNarrowed}
use Rattle.pi_settling.specs.Run.{given_at, KeptBy, LosesValue, IsRun, ChangesNothing}
use Rattle.pi_settling.specs.Runs.{IsWoken, AreMadeDue, Runs, no_run, one_more, MayPropagate}
use Rattle.pi_settling.specs.PropagationLaws.{RunsReachStableDomains}
use Rattle.pi_settling.proofs.NarrowLemmas.{narrow-state, narrow-root, Comes, to_variable, to_integer, item-comes, unbound-domain, left-values}
use Rattle.pi_settling.proofs.RunLemmas.{runs_keep_states, place-there, place-comes, comes-domain, contained, runs-between}
use Rattle.pi_settling.proofs.SizeLemmas.{same-or-lost}
use Rattle.pi_settling.proofs.StableRuns.{stable-when-done}

-- ---- a variable that a run leaves as it was

pub narrow-within : (K : ℕ → ℤ → Type 0) (s r : State) (x : Item) → IsState s → IsNarrowed K s r → Comes s x → (i : ℤ) → IsTrue (has_value (given r (root_item r x)) i) → IsTrue (has_value (given s x) i)
narrow-within K s r x is f (to_variable n d e has) i h =
    let kept = (left-values K s r n d is f has i).0 (subst (λ (y : Item). IsTrue (has_value (given r (root_item r y)) i)) e h) in
    subst (λ (g : List Span). IsTrue (has_value g i)) (sym (ap (given s) e ∙ (unbound-domain s n d has).1)) kept.0
narrow-within K s r x is f (to_integer j e b) i h =
    subst (λ (g : List Span). IsTrue (has_value g i)) (ap (λ (y : Item). given r (root_item r y)) e ∙ sym (ap (given s) e)) h

pub same-or-changed : (K : ℕ → ℤ → Type 0) (r q : State) (n : ℕ) (d : List Span) → IsState r → IsNarrowed K r q → domain_of r n ≡ Some d → (given q (root_item q (Item.Var n)) ≡ d) ⊎ LosesValue r q n
same-or-changed K r q n d is f has =
    let was : Comes r (Item.Var n) = to_variable n d refl has in
    let u = unbound-domain r n d has in
    let whole : given r (root_item r (Item.Var n)) ≡ d = ap (given r) u.0 ∙ u.1 in
    let within : (i : ℤ) → IsTrue (has_value (given q (root_item q (Item.Var n))) i) → IsTrue (has_value d i) = λ i h. has_in (given r (Item.Var n)) d i u.1 (narrow-within K r q (Item.Var n) is f was i h) in
    elim (same-or-lost d (given q (root_item q (Item.Var n))) (domain_good r n d is has).0 (comes-domain q (root_item q (Item.Var n)) (narrow-state K r q is f) (item-comes K r q is f (Item.Var n) was)) within) [
      | inl same ↦ inl same
      | inr (v, here, lost) ↦ inr (v, has_in d (given r (root_item r (Item.Var n))) v (sym whole) here, lost)
    ]

-- ---- a constraint that a run doesn't wake

item-same : (K : ℕ → ℤ → Type 0) (r q : State) (i : ℕ) (c : Constraint) → IsState r → IsNarrowed K r q → slice_get r.constraints i ≡ Some c → (IsWoken r q i → ⊥) → (k : ℕ) → k < length (places_of c) →
    (x : Item) → root_item r (place_at c k) ≡ x → Comes r x → given q (root_item q x) ≡ given r x
item-same K r q i c is' f at quiet k l x e (to_variable n d is has) = elim (same-or-changed K r q n d is' f has) [
  | inl same ↦ ap (λ (y : Item). given q (root_item q y)) is ∙ (same ∙ (sym (unbound-domain r n d has).1 ∙ sym (ap (given r) is)))
  | inr changed ↦ absurd (quiet (n, changed, (c, k, at, (place_at c k, place-there c k l, e ∙ is))))
]
item-same K r q i c is' f at quiet k l x e (to_integer j is b) = ap (λ (y : Item). given q (root_item q y)) is ∙ sym (ap (given r) is)

pub places-same : (K : ℕ → ℤ → Type 0) (r q : State) (i : ℕ) (c : Constraint) → IsState r → MaySettle r → IsNarrowed K r q → slice_get r.constraints i ≡ Some c → (IsWoken r q i → ⊥) → given_at q c ≡ given_at r c
places-same K r q i c is may f at quiet = ext_get_or [] (given_at q c) (given_at r c) (count-places q (given q) c ∙ sym (count-places r (given r) c)) (λ k l.
    let inside : k < length (places_of c) = omega (arith, count-places q (given q) c) in
    let x : Item = root_item r (place_at c k) in
    place-domain q (given q) c k inside
    ∙ (sym (ap (given q) (narrow-root K r q is f (place_at c k)))
    ∙ (item-same K r q i c is f at quiet k inside x refl (place-comes r may c k (contained r.constraints i c at) inside) ∙ sym (place-domain r (given r) c k inside))))

-- a constraint that changed nothing changes nothing where its domains are as they were
pub still-nothing : (r q : State) (c : Constraint) → given_at q c ≡ given_at r c → ChangesNothing r c → ChangesNothing q c
still-nothing r q c same none k i l h =
    subst (λ (ds : List (List Span)). Leaves c ds k i) (sym same) (none k i l (subst (λ (ds : List (List Span)). IsTrue (has_value (domain_at ds k) i)) same h))

-- ---- the constraint that ran

ran-leaves : (r q : State) (c : Constraint) → IsState r → IsRun r c q → (k : ℕ) (i : ℤ) → k < length (places_of c) → (x : Item) → root_item r (place_at c k) ≡ x → Comes r x →
    IsTrue (has_value (given q (root_item q x)) i) → Leaves c (given_at r c) k i
ran-leaves r q c is run k i l x e (to_variable n d at has) h =
    let kept = (left-values (KeptBy r c) r q n d is run.narrowed has i).0 (subst (λ (y : Item). IsTrue (has_value (given q (root_item q y)) i)) at h) in
    kept.1 k l (place_at c k, place-there c k l, e ∙ at)
ran-leaves r q c is run k i l x e (to_integer j at b) h =
    let same : i ≡ j = has-only j i (subst (λ (y : Item). IsTrue (has_value (given q (root_item q y)) i)) at h) in
    subst (λ (m : ℤ). Leaves c (given_at r c) k m) (sym same) (run.integers k j (place_at c k, place-there c k l, e ∙ at))

pub ran-nothing : (r q : State) (i : ℕ) (c : Constraint) → IsState r → MaySettle r → IsRun r c q → slice_get r.constraints i ≡ Some c → (IsWoken r q i → ⊥) → ChangesNothing q c
ran-nothing r q i c is may run at quiet k j l h =
    let same : given_at q c ≡ given_at r c = places-same (KeptBy r c) r q i c is may run.narrowed at quiet in
    let x : Item = root_item r (place_at c k) in
    let later : root_item q x ≡ root_item q (place_at c k) = narrow-root (KeptBy r c) r q is run.narrowed (place_at c k) in
    let here : IsTrue (has_value (given q (root_item q x)) j) = subst (λ (y : Item). IsTrue (has_value (given q y) j)) (sym later) (at_place q (given q) c k j l h) in
    subst (λ (ds : List (List Span)). Leaves c ds k j) (sym same) (ran-leaves r q c is run k j l x refl (place-comes r may c k (contained r.constraints i c at) l) here)

-- ---- those that aren't due change nothing

abbrev pub OthersChangeNothing : State → List ℕ → Type 0
OthersChangeNothing s due = (i : ℕ) (c : Constraint) → slice_get s.constraints i ≡ Some c → (Contains due i → ⊥) → ChangesNothing s c

here-or-behind : (rest : List ℕ) (i j : ℕ) → Contains (i ∷ rest) j → (j ≡ i) ⊎ Contains rest j
here-or-behind rest i j (zero, l, e) = inl (sym e)
here-or-behind rest i j (suc k, l, e) = inr (k, omega arith, e)

pub others-run : (r q : State) (i : ℕ) (rest fresh : List ℕ) (c : Constraint) → IsState r → MaySettle r → OthersChangeNothing r (i ∷ rest) → slice_get r.constraints i ≡ Some c → IsRun r c q → AreMadeDue r q rest fresh →
    OthersChangeNothing q (rest ++ fresh)
others-run r q i rest fresh c is may others at run made j cj there absent =
    let was : slice_get r.constraints j ≡ Some cj = subst (λ (cs : List Constraint). slice_get cs j ≡ Some cj) run.narrowed.constraints there in
    let not-rest : Contains rest j → ⊥ = λ h. absent (Contains-append_left rest fresh j h) in
    let quiet : IsWoken r q j → ⊥ = λ w. absent (Contains-append_right rest fresh j ((made.has j).1 (w, not-rest))) in
    elim (same_or_not j i) [
      | inl same ↦
          let at' : slice_get r.constraints j ≡ Some c = subst (λ (m : ℕ). slice_get r.constraints m ≡ Some c) (sym same) at in
          let one : c ≡ cj = cc in
          subst (ChangesNothing q) one (ran-nothing r q j c is may run at' quiet)
      | inr ne ↦
          still-nothing r q cj (places-same (KeptBy r c) r q j cj is may run.narrowed was quiet)
          (others j cj was (λ h. elim (here-or-behind rest i j h) [ inl e ↦ ne e | inr b ↦ not-rest b ]))
    ]

pub runs-others : (s : State) (due : List ℕ) (k : ℕ) (r : State) (now : List ℕ) → MayPropagate s due → Runs s due k r now → OthersChangeNothing r now
runs-others s due k r now may no_run = may.others
runs-others s due k r now may (one_more j p q i rest fresh c before at run made) =
    let h = runs_keep_states s due j p (i ∷ rest) may.state may.settles before in
    others-run p q i rest fresh c h.0 h.1 (runs-others s due j p (i ∷ rest) may before) at run made

number-of : (cs : List Constraint) (c : Constraint) → Contains cs c → (i : ℕ) × (slice_get cs i ≡ Some c)
number-of cs c (i, l, e) = (i, slice_get-get_or cs i c l ∙ ap Some e)

nowhere : (i : ℕ) → Contains [] i → ⊥
nowhere i (k, l, e) = absurd (omega arith)

pub runs_reach_stable_domains : RunsReachStableDomains
runs_reach_stable_domains s due k r may runs =
    stable-when-done s r may.state may.settles (runs-between s due k r [] may.state may.settles runs) (λ c posted.
    let found = number-of r.constraints c posted in
    runs-others s due k r [] may runs found.0 c found.1 (nowhere found.0))
