-- What a posting leaves may settle: each item of its constraints is an integer that a domain can have, or a variable that isn't bound and has a domain then.
use Rattle.std.specs.Prelude.{◌≡◌, ℕ, zero, suc, ◌+◌, ◌<◌, ◌≤◌, ℤ, neg_ℤ, List, [], ◌∷◌, ◌++◌, length, map, get_or, Some, None, Contains, refl}
use Rattle.std.proofs.Common.{arith, sym, ◌∙◌, ap, subst, inl, inr, append_assoc, append-nil}
use Rattle.std.proofs.lemmas.List.Elements.{Contains-append_left, Contains-append_right, Contains-append_cases}
use Rattle.pi_terms.specs.Places.{held}
use Rattle.pi_constraints.specs.declared.constraint.Constraint.{Constraint}
use Rattle.pi_constraints.specs.declared.constraint.Item.{Item}
use Rattle.pi_constraints.specs.declared.domain.Span.{Span}
use Rattle.pi_constraints.specs.declared.domain.TheConstants.{MAX_VALUE}
use Rattle.pi_constraints.specs.Domain.{IsWithinBounds, size_of}
use Rattle.pi_constraints.specs.Constraint.{HoldsVariable, HoldVariable, SumHasVariable, SpeaksOf, IsItem, AreItems, IsWithinLimits}
use Rattle.pi_constraints.specs.State.{State, Variable, free, within, bound, binding, bindings, next, domain_in, domain_of, with_new, with_constraint, MayPost, IsState}
use Rattle.pi_constraints.specs.Evaluation.{with_new_variables}
use Rattle.pi_constraints.proofs.CommonLemmas.{size_of-cons}
use Rattle.pi_constraints.proofs.KeepsLemmas.{news-keep, news-next}
use Rattle.pi_constraints.proofs.StateLemmas.{variable, held_is}
use Rattle.pi_constraints.proofs.StateLawLemmas.{constraint-keeps-a-state}
use Rattle.pi_prop_spec.specs.Places.{sum_places, places_of}
use Rattle.pi_prop_spec.specs.Postings.{Posting}
use Rattle.pi_settling.specs.Roots.{root_item, all_values}
use Rattle.pi_settling.specs.SettlingLaws.{MaySettle}
use Rattle.pi_settling.specs.Confined.{with_default, confined_at, confined}
use Rattle.pi_settling.specs.Posted.{with_constraints, places_of_all, posted_in}
use Rattle.pi_settling.specs.CalmLaws.{MaySettleAfter}
use Rattle.pi_settling.proofs.TwiceLemmas.{all-domain, unbound-root}
use Rattle.pi_settling.proofs.KeepLemmas.{MayCome}
use Rattle.pi_settling.proofs.ConfinedLemmas.{one-next, all-keep, root-same, confining_binds_nothing, confined_have_domains}
use Rattle.pi_settling.proofs.CalmItems.{like-comes, news-like}
use Rattle.pi_settling.proofs.CalmFollowed.{news-held, with-variables}
use Rattle.pi_settling.proofs.CalmGoals.{left_with, fixed-keeps-state}
use Rattle.pi_settling.proofs.CalmReads.{ItemOnly, PlacesOnly, Each, each-append, AllOnly}

-- a variable that isn't bound
abbrev pub IsFree : State → ℕ → Type 0
IsFree s n = held (bindings s) n ≡ None

-- ---- places

pub each-at : (P : Item → Type 0) (xs : List Item) (x : Item) → Each P xs → Contains xs x → P x
unfolding Each
each-at P [] x h c = absurd (omega (arith, c.1))
each-at P (y ∷ xs) x h (zero, l, e) = subst P e h.0
each-at P (y ∷ xs) x h (suc k, l, e) = each-at P xs x h.1 (k, omega (arith, l), e)

all-at : (Q : ℕ → Type 0) (cs : List Constraint) (c : Constraint) → AllOnly Q cs → Contains cs c → PlacesOnly Q c
unfolding AllOnly
all-at Q [] c h d = absurd (omega (arith, d.1))
all-at Q (b ∷ cs) c h (zero, l, e) = subst (PlacesOnly Q) e h.0
all-at Q (b ∷ cs) c h (suc k, l, e) = all-at Q cs c h.1 (k, omega (arith, l), e)

-- an integer that a domain can have, or a variable below m
abbrev PlaceWithin : ℕ → Item → Type 0
PlaceWithin m (Item.Var n) = n < m
PlaceWithin m (Item.Int i) = IsWithinBounds i

item-within : (m : ℕ) (x : Item) → IsItem x → ((n : ℕ) → HoldsVariable x n → n < m) → PlaceWithin m x
item-within m (Item.Var n) is speaks = speaks n refl
item-within m (Item.Int i) is speaks = is

items-within : (m : ℕ) (xs : List Item) → AreItems xs → ((n : ℕ) → HoldVariable xs n → n < m) → Each (PlaceWithin m) xs
unfolding AreItems HoldVariable Each
items-within m [] are speaks = tt
items-within m (x ∷ xs) are speaks = (item-within m x are.0 (λ n h. speaks n (inl h)), items-within m xs are.1 (λ n h. speaks n (inr h)))

sum-within : (m : ℕ) (ts : List (ℤ × ℕ)) → ((n : ℕ) → SumHasVariable ts n → n < m) → Each (PlaceWithin m) (sum_places ts)
unfolding SumHasVariable Each sum_places
sum-within m [] speaks = tt
sum-within m (t ∷ ts) speaks = (speaks t.1 (inl refl), sum-within m ts (λ n h. speaks n (inr h)))

places-within : (m : ℕ) (c : Constraint) → IsWithinLimits c → ((n : ℕ) → SpeaksOf c n → n < m) → Each (PlaceWithin m) (places_of c)
unfolding Each
places-within m (Constraint.Linear rel ts k) limits speaks = sum-within m ts speaks
places-within m (Constraint.Product z x y) limits speaks = (item-within m z limits.0 (λ n h. speaks n (inl h)), (item-within m x limits.1 (λ n h. speaks n (inr (inl h))), (item-within m y limits.2 (λ n h. speaks n (inr (inr h))), tt)))
places-within m (Constraint.Absolute z x) limits speaks = (item-within m z limits.0 (λ n h. speaks n (inl h)), (item-within m x limits.1 (λ n h. speaks n (inr h)), tt))
places-within m (Constraint.Different items) limits speaks = items-within m items limits.1 speaks
places-within m (Constraint.Element x items v) limits speaks = (
  item-within m x limits.1 (λ n h. speaks n (inl h)),
  each-append (PlaceWithin m) items (v ∷ []) (items-within m items limits.2 (λ n h. speaks n (inr (inl h)))) (item-within m v limits.3 (λ n h. speaks n (inr (inr h))), tt),
)
places-within m (Constraint.Reified x rel ts k) limits speaks = (item-within m x limits.0 (λ n h. speaks n (inl h)), sum-within m ts (λ n h. speaks n (inr h)))
places-within m (Constraint.Distinct items) limits speaks = items-within m items limits.1 speaks

place-of-all : (cs : List Constraint) (c : Constraint) (y : Item) → Contains cs c → Contains (places_of c) y → Contains (places_of_all cs) y
unfolding places_of_all
place-of-all [] c y h at = absurd (omega (arith, h.1))
place-of-all (d ∷ cs) c y (zero, l, e) at = Contains-append_left (places_of d) (places_of_all cs) y (subst (λ (b : Constraint). Contains (places_of b) y) (sym e) at)
place-of-all (d ∷ cs) c y (suc k, l, e) at = Contains-append_right (places_of d) (places_of_all cs) y (place-of-all cs c y (k, omega (arith, l), e) at)

-- ---- the state with the constraints

with-state : (cs : List Constraint) (q : State) → IsState q → ((c : Constraint) → Contains cs c → MayPost q c) → IsState (with_constraints cs q)
unfolding with_constraints
with-state [] q is may = is
with-state (c ∷ cs) q is may =
    with-state cs (with_constraint q c) (constraint-keeps-a-state q c is (may c (0, omega arith, refl))) (λ d h. may d (suc h.0, omega (arith, h.1), h.2))

with-agents : (cs : List Constraint) (q : State) → ((with_constraints cs q).agents ≡ q.agents) × ((with_constraints cs q).waiting ≡ q.waiting)
unfolding with_constraints
with-agents [] q = (refl, refl)
with-agents (c ∷ cs) q = with-agents cs (with_constraint q c)

with-list : (cs : List Constraint) (q : State) → (with_constraints cs q).constraints ≡ q.constraints ++ cs
unfolding with_constraints
with-list [] q = sym (append-nil q.constraints)
with-list (c ∷ cs) q = with-list cs (with_constraint q c) ∙ append_assoc q.constraints (c ∷ []) cs

-- ---- and with the default domains

two-values : 2 ≤ size_of all_values
two-values = omega (arith, size_of-cons (record { lo = neg_ℤ MAX_VALUE; hi = MAX_VALUE }) [])

default-state : (s : State) (n : ℕ) (v : Variable) → IsState s → variable s n ≡ v → IsState (with_default s n v)
default-state s n free is at = fixed-keeps-state s n (within all_values) is (held_is s n ∙ ap binding at) (left_with all_values all-domain two-values)
default-state s n (within d) is at = is
default-state s n (bound t) is at = is

one-state : (s : State) (x : Item) → IsState s → IsState (confined_at s x)
one-state s (Item.Var n) is = default-state s n (variable s n) is refl
one-state s (Item.Int i) is = is

confined-state : (xs : List Item) (s : State) → IsState s → IsState (confined s xs)
unfolding confined
confined-state [] s is = is
confined-state (x ∷ xs) s is = confined-state xs (confined_at s (root_item s x)) (one-state s (root_item s x) is)

-- all else is as it was
record Else (s r : State) : Type 0 where
  constraints : r.constraints ≡ s.constraints
  agents : r.agents ≡ s.agents
  waiting : r.waiting ≡ s.waiting

default-else : (s : State) (n : ℕ) (v : Variable) → Else s (with_default s n v)
default-else s n free = record { constraints = refl; agents = refl; waiting = refl }
default-else s n (within d) = record { constraints = refl; agents = refl; waiting = refl }
default-else s n (bound t) = record { constraints = refl; agents = refl; waiting = refl }

one-else : (s : State) (x : Item) → Else s (confined_at s x)
one-else s (Item.Var n) = default-else s n (variable s n)
one-else s (Item.Int i) = record { constraints = refl; agents = refl; waiting = refl }

confined-else : (xs : List Item) (s : State) → Else s (confined s xs)
unfolding confined
confined-else [] s = record { constraints = refl; agents = refl; waiting = refl }
confined-else (x ∷ xs) s =
    let first : Else s (confined_at s (root_item s x)) = one-else s (root_item s x) in
    let rest : Else (confined_at s (root_item s x)) (confined (confined_at s (root_item s x)) xs) = confined-else xs (confined_at s (root_item s x)) in
    record { constraints = rest.constraints ∙ first.constraints; agents = rest.agents ∙ first.agents; waiting = rest.waiting ∙ first.waiting }

confined-next : (xs : List Item) (s : State) → next (confined s xs) ≡ next s
unfolding confined
confined-next [] s = refl
confined-next (x ∷ xs) s = confined-next xs (confined_at s (root_item s x)) ∙ one-next s (root_item s x)

confined-root : (s : State) (xs : List Item) (x : Item) → root_item (confined s xs) x ≡ root_item s x
confined-root s xs x = root-same s (confined s xs) (confining_binds_nothing s xs) x

confined-comes : (s : State) (xs : List Item) (x : Item) → MayCome s (root_item s x) → MayCome (confined s xs) (root_item (confined s xs) x)
confined-comes s xs x (inl (n, d, e, has)) = inl (n, d, confined-root s xs x ∙ e, all-keep s xs n d has)
confined-comes s xs x (inr (i, e, b)) = inr (i, confined-root s xs x ∙ e, b)

-- an item that is confined
place-comes : (q : State) (xs : List Item) (y : Item) → Contains xs y → PlaceWithin (next q) y → ItemOnly (IsFree q) y → MayCome (confined q xs) (root_item (confined q xs) y)
place-comes q xs (Item.Var n) at made none =
    let root : root_item q (Item.Var n) ≡ Item.Var n = unbound-root q n (sym (held_is q n) ∙ none) in
    let has : (d : List Span) × (domain_of (confined q xs) n ≡ Some d) = confined_have_domains q xs (Item.Var n) n at root made none in
    inl (n, has.0, confined-root q xs (Item.Var n) ∙ root, has.1)
place-comes q xs (Item.Int i) at b none = inr (i, refl, b)

-- ---- the goal

pub record Posts (s : State) (p : Posting) : Type 0 where
  pub state : IsState s
  pub settles : MaySettle s
  pub may : (c : Constraint) → Contains p.list c → IsWithinLimits c × ((m : ℕ) → SpeaksOf c m → m < next s + p.fresh)
  pub none : AllOnly (IsFree s) p.list

-- of new variables too
news-else : (k : ℕ) (s : State) → Else s (with_new_variables k s)
unfolding with_new_variables
news-else zero s = record { constraints = refl; agents = refl; waiting = refl }
news-else (suc k) s = let rest : Else (with_new s) (with_new_variables k (with_new s)) = news-else k (with_new s) in record { constraints = rest.constraints; agents = rest.agents; waiting = rest.waiting }

-- items go by the variables
same-comes : (s r : State) (y : Item) → r.variables ≡ s.variables → MayCome s (root_item s y) → MayCome r (root_item r y)
same-comes s r y same (inl (n, d, e, has)) = inl (n, d, root-same s r (ap (map binding) same) y ∙ e, ap (λ (vs : List Variable). domain_in (get_or vs n free)) same ∙ has)
same-comes s r y same (inr (i, e, b)) = inr (i, root-same s r (ap (map binding) same) y ∙ e, b)

abbrev before_domains : State → Posting → State
before_domains s p = with_constraints p.list (with_new_variables p.fresh s)

many-variables : (s : State) (p : Posting) → next (before_domains s p) ≡ next s + p.fresh
many-variables s p = ap (λ (vs : List Variable). length vs) (with-variables p.list (with_new_variables p.fresh s)) ∙ news-next p.fresh s

still-free : (s : State) (p : Posting) (n : ℕ) → IsFree s n → IsFree (before_domains s p) n
still-free s p n none = ap (λ (vs : List Variable). held (map binding vs) n) (with-variables p.list (with_new_variables p.fresh s)) ∙ (news-held p.fresh s n ∙ none)

still-only : (s : State) (p : Posting) (y : Item) → ItemOnly (IsFree s) y → ItemOnly (IsFree (before_domains s p)) y
still-only s p (Item.Var n) none = still-free s p n none
still-only s p (Item.Int i) none = tt

before-state : (s : State) (p : Posting) → Posts s p → IsState (before_domains s p)
before-state s p h =
    with-state p.list (with_new_variables p.fresh s) (news-keep p.fresh s h.state)
    (λ c at. let kept = h.may c at in (kept.0, λ m o. subst (λ (k : ℕ). m < k) (sym (news-next p.fresh s)) (kept.1 m o)))

before-like : (s : State) (p : Posting) (y : Item) → Posts s p → MayCome s (root_item s y) → MayCome (before_domains s p) (root_item (before_domains s p) y)
before-like s p y h old =
    let q : State = with_new_variables p.fresh s in
    same-comes q (before_domains s p) y (with-variables p.list q) (like-comes s q (news-like p.fresh s h.state) y old)

posted-comes : (s : State) (p : Posting) (c : Constraint) (y : Item) → Posts s p → Contains (posted_in s p).constraints c → Contains (places_of c) y → MayCome (posted_in s p) (root_item (posted_in s p) y)
posted-comes s p c y h posted at =
    let q : State = before_domains s p in
    let xs : List Item = places_of_all p.list in
    let there : Contains (s.constraints ++ p.list) c =
    subst (λ (cs : List Constraint). Contains cs c)
    ((confined-else xs q).constraints ∙ (with-list p.list (with_new_variables p.fresh s) ∙ ap (λ (cs : List Constraint). cs ++ p.list) (news-like p.fresh s h.state).constraints)) posted in
    elim (Contains-append_cases s.constraints p.list c there) [
      | inl old ↦ confined-comes q xs y (before-like s p y h (h.settles c y old at))
      | inr new ↦
          let kept = h.may c new in
          place-comes q xs y (place-of-all p.list c y new at)
          (subst (λ (m : ℕ). PlaceWithin m y) (sym (many-variables s p)) (each-at (PlaceWithin (next s + p.fresh)) (places_of c) y (places-within (next s + p.fresh) c kept.0 kept.1) at))
          (still-only s p y (each-at (ItemOnly (IsFree s)) (places_of c) y (all-at (IsFree s) p.list c h.none new) at))
    ]

pub posted-after : (s : State) (p : Posting) → Posts s p → MaySettleAfter s (posted_in s p)
posted-after s p h =
    let q : State = before_domains s p in
    let xs : List Item = places_of_all p.list in
    let same : Else q (confined q xs) = confined-else xs q in
    let news : Else s (with_new_variables p.fresh s) = news-else p.fresh s in
    let agents = with-agents p.list (with_new_variables p.fresh s) in
    record {
      state = confined-state xs q (before-state s p h);
      settles = λ c y posted at. posted-comes s p c y h posted at;
      more = omega (arith, confined-next xs q, many-variables s p);
      agents = same.agents ∙ (agents.0 ∙ news.agents);
      waiting = same.waiting ∙ (agents.1 ∙ news.waiting);
    }
