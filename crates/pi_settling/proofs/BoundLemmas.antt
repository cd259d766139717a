-- Each constraint that a run makes due has a variable that lost a value.
use Rattle.std.specs.Prelude.{◌≡◌, ℕ, ◌+◌, ◌-◌, ◌<◌, ◌≤◌, ℤ, true, not, IsTrue, List, [], ◌∷◌, ◌++◌, length, map, filter, slice_get, Some, Contains, sum_by}
use Rattle.std.proofs.Common.{arith, sym, ◌∙◌, ap, subst, inl, inr, get_or, length-append}
use Rattle.std.proofs.lemmas.Bool.{cases_Bool, eqb-true}
use Rattle.std.proofs.lemmas.List.{length-map, get_or-map}
use Rattle.std.proofs.lemmas.List.Sums.{get_or-le-sum_by}
use Rattle.std.proofs.lemmas.Option.{slice_get_within, get_or_from_slice_get}
use Rattle.pi_constraints.specs.declared.constraint.Constraint.{Constraint}
use Rattle.pi_constraints.specs.declared.constraint.Item.{Item}
use Rattle.pi_constraints.specs.declared.domain.Span.{Span}
use Rattle.pi_constraints.specs.Domain.{has_value, size_of}
use Rattle.pi_prop_spec.specs.Places.{places_of}
use Rattle.pi_constraints.specs.State.{State, IsState}
use Rattle.pi_settling.specs.Roots.{root_item, given}
use Rattle.pi_settling.specs.Load.{same_item, roots_of, count_values, count_lost}
use Rattle.pi_settling.specs.SettlingLaws.{MaySettle}
use Rattle.pi_settling.specs.Narrowed.{IsNarrowed}
use Rattle.pi_settling.specs.Run.{KeptBy, LosesValue, IsRun}
use Rattle.pi_settling.specs.Runs.{IsWoken, AreMadeDue, no_run, one_more}
use Rattle.pi_settling.specs.PropagationLaws.{RunsAreBounded}
use Rattle.pi_settling.proofs.NarrowLemmas.{narrow-state, narrow-root, Comes, to_variable, to_integer, comes, item-comes, unbound-domain, root-before}
use Rattle.pi_settling.proofs.RunLemmas.{place-is, comes-domain, Has, IsBetween, contained, runs-between}
use Rattle.pi_settling.proofs.WakeLemmas.{narrow-within}
use Rattle.pi_settling.proofs.SizeLemmas.{size-within, size-lost, in-front, behind, front-or-behind, none-there, marks-below, sum-of-map, sum-of-both, from-filter, to-filter}

-- ---- how many values an item has

root-again : (s : State) (x : Item) → Comes s x → root_item s x ≡ x
root-again s x (to_variable n d e has) = ap (root_item s) e ∙ ((unbound-domain s n d has).0 ∙ sym e)
root-again s x (to_integer i e b) = ap (root_item s) e ∙ sym e

-- an item that is followed has no more values behind
narrow-count : (K : ℕ → ℤ → Type 0) (s r : State) (x : Item) → IsState s → IsNarrowed K s r → Comes s x → size_of (given r (root_item r x)) ≤ size_of (given s x)
narrow-count K s r x is f was =
    size-within (given s x) (given r (root_item r x)) (comes-domain s x is was) (comes-domain r (root_item r x) (narrow-state K s r is f) (item-comes K s r is f x was)) (narrow-within K s r x is f was)

count-falls : (s r : State) (x : Item) → IsState s → IsBetween s r → Comes s x → count_values r x ≤ count_values s x
count-falls s r x is b was =
    subst (λ (y : Item). size_of (given r (root_item r x)) ≤ size_of (given s y)) (sym (root-again s x was)) (narrow-count (Has r) s r x is b.narrowed was)

count-falls-on : (K : ℕ → ℤ → Type 0) (s r q : State) (x : Item) → IsState s → IsBetween s r → IsNarrowed K r q → Comes s x → count_values q x ≤ count_values r x
count-falls-on K s r q x is b f was =
    let to : Comes r (root_item r x) = item-comes (Has r) s r is b.narrowed x was in
    subst (λ (y : Item). size_of (given q y) ≤ size_of (given r (root_item r x))) (narrow-root K r q b.state f x) (narrow-count K r q (root_item r x) b.state f to)

-- ---- the items that are counted

pub roots-come : (s : State) (xs : List Item) → ((y : Item) → Contains xs y → Comes s (root_item s y)) → (x : Item) → Contains (roots_of s xs) x → Comes s x
unfolding roots_of
roots-come s [] all x h = absurd (none-there x h)
roots-come s (Item.Int i ∷ xs) all x h = roots-come s xs (λ y c. all y (behind (Item.Int i) y xs c)) x h
roots-come s (Item.Var n ∷ xs) all x h =
    let root : Item = root_item s (Item.Var n) in
    let rest : List Item = filter (λ y. not (same_item y root)) (roots_of s xs) in
    elim (front-or-behind root x rest h) [
      | inl same ↦ subst (Comes s) same (all (Item.Var n) (in-front (Item.Var n) xs))
      | inr b ↦ roots-come s xs (λ y c. all y (behind (Item.Var n) y xs c)) x (from-filter (λ y. not (same_item y root)) (roots_of s xs) x b)
    ]

same-variable : (n : ℕ) (y : Item) → same_item (Item.Var n) y ≡ true → Item.Var n ≡ y
same-variable n (Item.Var m) e = ap Item.Var (eqb-true n m e)
same-variable n (Item.Int i) e = absurd (cc)

pub roots-have : (s : State) (xs : List Item) (y : Item) (n : ℕ) → Contains xs y → root_item s y ≡ Item.Var n → Contains (roots_of s xs) (Item.Var n)
unfolding roots_of
roots-have s [] y n h e = absurd (none-there y h)
roots-have s (Item.Int i ∷ xs) y n h e = elim (front-or-behind (Item.Int i) y xs h) [
  | inl same ↦ absurd (let is : Item.Int i ≡ Item.Var n = subst (λ (z : Item). root_item s z ≡ Item.Var n) (sym same) e in cc)
  | inr b ↦ roots-have s xs y n b e
]
roots-have s (Item.Var m ∷ xs) y n h e =
    let root : Item = root_item s (Item.Var m) in
    let rest : List Item = filter (λ y. not (same_item y root)) (roots_of s xs) in
    elim (front-or-behind (Item.Var m) y xs h) [
      | inl same ↦ subst (λ (z : Item). Contains (root ∷ rest) z) (subst (λ (z : Item). root_item s z ≡ Item.Var n) (sym same) e) (in-front root rest)
      | inr b ↦ elim (cases_Bool (same_item (Item.Var n) root)) [
        | inl is ↦ subst (λ (z : Item). Contains (root ∷ rest) z) (sym (same-variable n root is)) (in-front root rest)
        | inr other ↦ behind root (Item.Var n) rest (to-filter (λ y. not (same_item y root)) (roots_of s xs) (Item.Var n) (roots-have s xs y n b e) (ap not other))
      ]
    ]

-- ---- what a constraint loses in a run

abbrev drop_of : State → State → State → Constraint → ℕ
drop_of s r q c = sum_by (λ x. count_values r x - count_values q x) (roots_of s (places_of c))

lost-more : (K : ℕ → ℤ → Type 0) (s r q : State) (c : Constraint) → IsState s → MaySettle s → IsBetween s r → IsNarrowed K r q → Contains s.constraints c → count_lost s q c ≡ count_lost s r c + drop_of s r q c
lost-more K s r q c is may b f posted = sum-of-both (λ x. count_values s x - count_values q x) (λ x. count_values s x - count_values r x) (λ x. count_values r x - count_values q x) (roots_of s (places_of c)) (λ x h.
    let was : Comes s x = roots-come s (places_of c) (λ y at. comes s may c y posted at) x h in
    let first : count_values r x ≤ count_values s x = count-falls s r x is b was in
    let then : count_values q x ≤ count_values r x = count-falls-on K s r q x is b f was in
    omega (arith, first, then))

pub lost-in-all : (K : ℕ → ℤ → Type 0) (s r q : State) → IsState s → MaySettle s → IsBetween s r → IsNarrowed K r q →
    sum_by (count_lost s q) s.constraints ≡ sum_by (count_lost s r) s.constraints + sum_by (drop_of s r q) s.constraints
lost-in-all K s r q is may b f = sum-of-both (count_lost s q) (count_lost s r) (drop_of s r q) s.constraints (λ c posted. lost-more K s r q c is may b f posted)

variable-falls : (K : ℕ → ℤ → Type 0) (r q : State) (n : ℕ) → IsState r → IsNarrowed K r q → Comes r (Item.Var n) → LosesValue r q n → count_values q (Item.Var n) < count_values r (Item.Var n)
variable-falls K r q n is f was (v, here, lost) =
    let same : given r (root_item r (Item.Var n)) ≡ given r (Item.Var n) = ap (given r) (root-again r (Item.Var n) was) in
    subst (λ (g : List Span). count_values q (Item.Var n) < size_of g) (sym same)
    (size-lost (given r (Item.Var n)) (given q (root_item q (Item.Var n))) v (comes-domain r (Item.Var n) is was) (comes-domain q (root_item q (Item.Var n)) (narrow-state K r q is f) (item-comes K r q is f (Item.Var n) was))
    (narrow-within K r q (Item.Var n) is f was) (subst (λ (g : List Span). IsTrue (has_value g v)) same here) lost)

woken-drops : (K : ℕ → ℤ → Type 0) (s r q : State) (c : Constraint) (y : Item) (k n : ℕ) → IsState s → MaySettle s → IsBetween s r → IsNarrowed K r q → Contains s.constraints c → slice_get (places_of c) k ≡ Some y → root_item r y ≡ Item.Var n → LosesValue r q n →
    1 ≤ drop_of s r q c
woken-drops K s r q c y k n is may b f posted at e changed =
    let place = place-is c k y at in
    let there : Contains (places_of c) y = (k, place.0, get_or_from_slice_get (places_of c) k y y at) in
    let was : Comes s (root_item s y) = comes s may c y posted there in
    let last : root_item r (root_item s y) ≡ Item.Var n = narrow-root (Has r) s r is b.narrowed y ∙ e in
    let same : root_item s y ≡ Item.Var n = root-before (Has r) s r is b.narrowed (root_item s y) n was last in
    let inside : Contains (roots_of s (places_of c)) (Item.Var n) = roots-have s (places_of c) y n there same in
    let to : Comes r (Item.Var n) = subst (Comes r) last (item-comes (Has r) s r is b.narrowed (root_item s y) was) in
    let fall : count_values q (Item.Var n) < count_values r (Item.Var n) = variable-falls K r q n b.state f to changed in
    let part : count_values r (get_or (roots_of s (places_of c)) inside.0 (Item.Var n)) - count_values q (get_or (roots_of s (places_of c)) inside.0 (Item.Var n)) ≤ drop_of s r q c = get_or-le-sum_by (λ x. count_values r x - count_values q x) (roots_of s (places_of c)) inside.0 (Item.Var n) inside.1 in
    let whole : count_values r (Item.Var n) - count_values q (Item.Var n) ≤ drop_of s r q c = subst (λ (x : Item). count_values r x - count_values q x ≤ drop_of s r q c) inside.2 part in
    omega (arith, fall, whole)

drops-at : (s r q : State) (j : ℕ) (c : Constraint) → slice_get s.constraints j ≡ Some c → 1 ≤ drop_of s r q c → (j < length (map (drop_of s r q) s.constraints)) × (1 ≤ get_or (map (drop_of s r q) s.constraints) j 0)
drops-at s r q j c at some =
    let inside : j < length s.constraints = slice_get_within s.constraints j c at in
    let there : get_or s.constraints j c ≡ c = get_or_from_slice_get s.constraints j c c at in
    let is : get_or (map (drop_of s r q) s.constraints) j 0 ≡ drop_of s r q c = get_or-map (drop_of s r q) s.constraints j c 0 inside ∙ ap (drop_of s r q) there in
    (subst (λ (m : ℕ). j < m) (sym (length-map s.constraints (drop_of s r q))) inside, subst (λ (m : ℕ). 1 ≤ m) (sym is) some)

fresh-drops : (s r q : State) (c : Constraint) (j : ℕ) → IsState s → MaySettle s → IsBetween s r → IsRun r c q → IsWoken r q j → (j < length (map (drop_of s r q) s.constraints)) × (1 ≤ get_or (map (drop_of s r q) s.constraints) j 0)
fresh-drops s r q c j is may b run (n, changed, (cj, k, at, (y, there, e))) =
    let at' : slice_get s.constraints j ≡ Some cj = subst (λ (cs : List Constraint). slice_get cs j ≡ Some cj) b.narrowed.constraints at in
    drops-at s r q j cj at' (woken-drops (KeptBy r c) s r q cj y k n is may b run.narrowed (contained s.constraints j cj at') there e changed)

fresh-bounded : (s r q : State) (c : Constraint) (rest fresh : List ℕ) → IsState s → MaySettle s → IsBetween s r → IsRun r c q → AreMadeDue r q rest fresh → length fresh ≤ sum_by (drop_of s r q) s.constraints
fresh-bounded s r q c rest fresh is may b run made =
    subst (λ (m : ℕ). length fresh ≤ m) (sum-of-map (drop_of s r q) s.constraints)
    (marks-below fresh (map (drop_of s r q) s.constraints) made.different (λ j h. fresh-drops s r q c j is may b run ((made.has j).0 h).0))

pub runs_are_bounded : RunsAreBounded
runs_are_bounded s due k r now is may no_run = omega arith
runs_are_bounded s due k r now is may (one_more j p q i rest fresh c before at run made) =
    let b : IsBetween s p = runs-between s due j p (i ∷ rest) is may before in
    let so-far : j + length (i ∷ rest) ≤ length due + sum_by (count_lost s p) s.constraints = runs_are_bounded s due j p (i ∷ rest) is may before in
    let more : length fresh ≤ sum_by (drop_of s p q) s.constraints = fresh-bounded s p q c rest fresh is may b run made in
    let whole = lost-in-all (KeptBy p c) s p q is may b run.narrowed in
    let both : length (rest ++ fresh) ≡ length rest + length fresh = length-append rest fresh in
    omega (arith, so-far, more, whole, both)
