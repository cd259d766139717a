-- What a goal that posts constraints leaves may settle, and so may what an operand by itself posts: each of their items is an integer that a domain can have, or a variable that isn't bound and has a domain then.
use Rattle.std.specs.Prelude.{◌≡◌, ℕ, zero, suc, ◌+◌, ◌-◌, ◌<◌, ◌≤◌, ℤ, neg_ℤ, List, [], ◌∷◌, ◌++◌, length, map, get_or, Option, Some, None, unwrap_or, Contains, Result, Ok, Err, refl}
use Rattle.std.proofs.Common.{arith, sym, ◌∙◌, ap, subst, inl, inr, append_assoc, append-nil}
use Rattle.std.proofs.lemmas.List.Elements.{Contains-append_left, Contains-append_right, Contains-append_cases}
use Rattle.pi_terms.specs.Tree.{Tree, var}
use Rattle.pi_terms.specs.Places.{held}
use Rattle.pi_terms.specs.Variables.{Occurs}
use Rattle.pi_constraints.specs.declared.constraint.Constraint.{Constraint}
use Rattle.pi_constraints.specs.declared.constraint.Item.{Item}
use Rattle.pi_constraints.specs.declared.domain.Span.{Span}
use Rattle.pi_constraints.specs.declared.domain.TheConstants.{MAX_VALUE}
use Rattle.pi_constraints.specs.Domain.{IsWithinBounds, size_of}
use Rattle.pi_constraints.specs.Constraint.{HoldsVariable, HoldVariable, SumHasVariable, SpeaksOf, IsItem, AreItems, IsWithinLimits}
use Rattle.pi_constraints.specs.Value.{Bindings, replaced_once, rounds, value}
use Rattle.pi_constraints.specs.State.{State, Variable, free, within, bound, binding, bindings, next, domain_in, domain_of, with_new, with_constraint, SpeaksBelow, MayPost, IsState}
use Rattle.pi_constraints.specs.Evaluation.{with_new_variables}
use Rattle.pi_constraints.proofs.ValueLemmas.{occurs_in_instance, value_has_none_bound}
use Rattle.pi_constraints.proofs.CommonLemmas.{size_of-cons}
use Rattle.pi_constraints.proofs.KeepsLemmas.{news-keep, news-next}
use Rattle.pi_constraints.proofs.StateLemmas.{variable, held_is, bound_below}
use Rattle.pi_constraints.proofs.StateLawLemmas.{constraint-keeps-a-state}
use Rattle.pi_effects.specs.Effect.{Succeeds}
use Rattle.pi_prop_spec.specs.Places.{sum_places, places_of}
use Rattle.pi_prop_spec.specs.PostingSums.{Sum}
use Rattle.pi_prop_spec.specs.Steps.{Refusal, Known, read_operand}
use Rattle.pi_prop_spec.specs.Operands.{Goal}
use Rattle.pi_prop_spec.specs.Terms.{operand_of, goal_of}
use Rattle.pi_prop_spec.specs.Limits.{first_refusal}
use Rattle.pi_prop_spec.specs.Postings.{Posting, read_goal, nothing_made, posting_unless, finished, posting_of, posting_in}
use Rattle.pi_prop_spec.proofs.GrowLemmas.{AreFormed}
use Rattle.pi_prop_spec.proofs.LimitLemmas.{all_kept}
use Rattle.pi_prop_spec.proofs.OperandLemmas.{SumRead, operand-read}
use Rattle.pi_prop_spec.proofs.PostingLemmas.{postings_may_be_posted}
use Rattle.pi_prop_spec.proofs.TermLemmas.{operand-below}
use Rattle.pi_prop_spec.specs.Says.{operand_value}
use Rattle.pi_settling.specs.Roots.{root_item, all_values}
use Rattle.pi_settling.specs.SettlingLaws.{MaySettle}
use Rattle.pi_settling.specs.Confined.{with_default, confined_at, confined}
use Rattle.pi_settling.specs.Posted.{with_constraints, places_of_all, posted_in, effect_of_posting}
use Rattle.pi_settling.specs.Reading.{Sum as ReadSum, reads}
use Rattle.pi_settling.specs.Read.{operand_as, operand_in}
use Rattle.pi_settling.specs.CalmLaws.{MaySettleAfter, FollowedStay, ConfinedMaySettle, PostedMaySettle, PostedKeepsFollowed}
use Rattle.pi_settling.proofs.TwiceLemmas.{past_free, all-domain, unbound-root}
use Rattle.pi_settling.proofs.KeepLemmas.{MayCome}
use Rattle.pi_settling.proofs.ConfinedLemmas.{one-next, all-keep, root-same, confining_binds_nothing, confined_have_domains}
use Rattle.pi_settling.proofs.CalmItems.{like-comes, news-like}
use Rattle.pi_settling.proofs.CalmFollowed.{stay-then, new_variables_keep_followed, news-held, with-variables, constraints_keep_followed, confined_keeps_followed}
use Rattle.pi_settling.proofs.CalmGoals.{left_with, fixed-keeps-state}
use Rattle.pi_settling.proofs.CalmReads.{ItemOnly, PlacesOnly, Each, each-append, AllOnly}
use Rattle.pi_settling.proofs.CalmTerms.{TermOnly, operand-reads, goal-reads}

-- ---- the values of terms

once-below : (b : Bindings) (n j m : ℕ) (o : Option Tree) → ((k : ℕ) (u : Tree) → held b k ≡ Some u → SpeaksBelow n u) → held b j ≡ o → j < n → Occurs m (unwrap_or o (var j)) → m < n
unfolding Occurs
once-below b n j m None all at less occurs = subst (λ (k : ℕ). k < n) occurs less
once-below b n j m (Some u) all at less occurs = all j u at m occurs

rounds-below : (k : ℕ) (b : Bindings) (n : ℕ) (t : Tree) → ((m : ℕ) (u : Tree) → held b m ≡ Some u → SpeaksBelow n u) → SpeaksBelow n t → SpeaksBelow n (rounds k b t)
unfolding rounds
rounds-below zero b n t all below = below
rounds-below (suc k) b n t all below =
    rounds-below k b n (replaced_once b t) all
    (λ m occurs. let from = occurs_in_instance (λ j. unwrap_or (held b j) (var j)) t m occurs in once-below b n from.0 m (held b from.0) all refl (below from.0 from.1) from.2)

value-below : (s : State) (t : Tree) → IsState s → SpeaksBelow (next s) t → SpeaksBelow (next s) (value (bindings s) t)
unfolding value
value-below s t is below = rounds-below (length (bindings s)) (bindings s) (next s) t (λ m u held. bound_below s m u is held) below

-- ---- what is posted speaks of variables that aren't bound

made-by : (n : ℕ) (g : Goal) (p : Posting) → posting_of n g ≡ Ok p → (k : Known (Unit {0})) × (read_goal g (nothing_made n) ≡ Ok k) × (k.made.constraints ≡ p.list)
made-by n g p e = by (read_goal g (nothing_made n)) refl e
  where
    unless : (k : Known (Unit {0})) (o : Option Refusal) → read_goal g (nothing_made n) ≡ Ok k → posting_unless o n k.made ≡ Ok p → (l : Known (Unit {0})) × (read_goal g (nothing_made n) ≡ Ok l) × (l.made.constraints ≡ p.list)
    unless k (Some r) f h = absurd cc
    unless k None f h = (k, f, let same : record { fresh = k.made.unused - n; list = k.made.constraints } ≡ p = cc in ap (λ (q : Posting). q.list) same)

    by : (o : Result (Known (Unit {0})) Refusal) → read_goal g (nothing_made n) ≡ o → finished n o ≡ Ok p → (l : Known (Unit {0})) × (read_goal g (nothing_made n) ≡ Ok l) × (l.made.constraints ≡ p.list)
    by (Err r) f h = absurd cc
    by (Ok k) f h = unless k (first_refusal k.made.constraints) f h

posted-only : (Q : ℕ → Type 0) (n : ℕ) (t : Tree) (p : Posting) → TermOnly Q t → ((m : ℕ) → n ≤ m → Q m) → posting_of n (goal_of t) ≡ Ok p → AllOnly Q p.list
unfolding AllOnly
posted-only Q n t p old new e =
    let made : (k : Known (Unit {0})) × (read_goal (goal_of t) (nothing_made n) ≡ Ok k) × (k.made.constraints ≡ p.list) = made-by n (goal_of t) p e in
    subst (AllOnly Q) made.2 ((goal-reads Q t old).each (nothing_made n) made.0 (tt, new) made.1).0.0

-- a variable that isn't bound
abbrev IsFree : State → ℕ → Type 0
IsFree s n = held (bindings s) n ≡ None

posted-free : (s : State) (t : Tree) (p : Posting) → IsState s → posting_in s t ≡ Ok p → AllOnly (IsFree s) p.list
posted-free s t p is e =
    posted-only (IsFree s) (next s) (value (bindings s) t) p (λ m o. value_has_none_bound (bindings s) t m is.acyclic o) (λ m past. held_is s m ∙ ap binding (past_free s m past)) e

-- ---- places

each-at : (P : Item → Type 0) (xs : List Item) (x : Item) → Each P xs → Contains xs x → P x
unfolding Each
each-at P [] x h c = absurd (omega (arith, c.1))
each-at P (y ∷ xs) x h (zero, l, e) = subst P e h.0
each-at P (y ∷ xs) x h (suc k, l, e) = each-at P xs x h.1 (k, omega (arith, l), e)

all-at : (Q : ℕ → Type 0) (cs : List Constraint) (c : Constraint) → AllOnly Q cs → Contains cs c → PlacesOnly Q c
unfolding AllOnly
all-at Q [] c h d = absurd (omega (arith, d.1))
all-at Q (b ∷ cs) c h (zero, l, e) = subst (PlacesOnly Q) e h.0
all-at Q (b ∷ cs) c h (suc k, l, e) = all-at Q cs c h.1 (k, omega (arith, l), e)

-- an integer that a domain can have, or a variable below m
abbrev PlaceWithin : ℕ → Item → Type 0
PlaceWithin m (Item.Var n) = n < m
PlaceWithin m (Item.Int i) = IsWithinBounds i

item-within : (m : ℕ) (x : Item) → IsItem x → ((n : ℕ) → HoldsVariable x n → n < m) → PlaceWithin m x
item-within m (Item.Var n) is speaks = speaks n refl
item-within m (Item.Int i) is speaks = is

items-within : (m : ℕ) (xs : List Item) → AreItems xs → ((n : ℕ) → HoldVariable xs n → n < m) → Each (PlaceWithin m) xs
unfolding AreItems HoldVariable Each
items-within m [] are speaks = tt
items-within m (x ∷ xs) are speaks = (item-within m x are.0 (λ n h. speaks n (inl h)), items-within m xs are.1 (λ n h. speaks n (inr h)))

sum-within : (m : ℕ) (ts : List (ℤ × ℕ)) → ((n : ℕ) → SumHasVariable ts n → n < m) → Each (PlaceWithin m) (sum_places ts)
unfolding SumHasVariable Each sum_places
sum-within m [] speaks = tt
sum-within m (t ∷ ts) speaks = (speaks t.1 (inl refl), sum-within m ts (λ n h. speaks n (inr h)))

places-within : (m : ℕ) (c : Constraint) → IsWithinLimits c → ((n : ℕ) → SpeaksOf c n → n < m) → Each (PlaceWithin m) (places_of c)
unfolding Each
places-within m (Constraint.Linear rel ts k) limits speaks = sum-within m ts speaks
places-within m (Constraint.Product z x y) limits speaks = (item-within m z limits.0 (λ n h. speaks n (inl h)), (item-within m x limits.1 (λ n h. speaks n (inr (inl h))), (item-within m y limits.2 (λ n h. speaks n (inr (inr h))), tt)))
places-within m (Constraint.Absolute z x) limits speaks = (item-within m z limits.0 (λ n h. speaks n (inl h)), (item-within m x limits.1 (λ n h. speaks n (inr h)), tt))
places-within m (Constraint.Different items) limits speaks = items-within m items limits.1 speaks
places-within m (Constraint.Element x items v) limits speaks = (
  item-within m x limits.1 (λ n h. speaks n (inl h)),
  each-append (PlaceWithin m) items (v ∷ []) (items-within m items limits.2 (λ n h. speaks n (inr (inl h)))) (item-within m v limits.3 (λ n h. speaks n (inr (inr h))), tt),
)
places-within m (Constraint.Reified x rel ts k) limits speaks = (item-within m x limits.0 (λ n h. speaks n (inl h)), sum-within m ts (λ n h. speaks n (inr h)))
places-within m (Constraint.Distinct items) limits speaks = items-within m items limits.1 speaks

place-of-all : (cs : List Constraint) (c : Constraint) (y : Item) → Contains cs c → Contains (places_of c) y → Contains (places_of_all cs) y
unfolding places_of_all
place-of-all [] c y h at = absurd (omega (arith, h.1))
place-of-all (d ∷ cs) c y (zero, l, e) at = Contains-append_left (places_of d) (places_of_all cs) y (subst (λ (b : Constraint). Contains (places_of b) y) (sym e) at)
place-of-all (d ∷ cs) c y (suc k, l, e) at = Contains-append_right (places_of d) (places_of_all cs) y (place-of-all cs c y (k, omega (arith, l), e) at)

-- ---- the state with the constraints

with-state : (cs : List Constraint) (q : State) → IsState q → ((c : Constraint) → Contains cs c → MayPost q c) → IsState (with_constraints cs q)
unfolding with_constraints
with-state [] q is may = is
with-state (c ∷ cs) q is may =
    with-state cs (with_constraint q c) (constraint-keeps-a-state q c is (may c (0, omega arith, refl))) (λ d h. may d (suc h.0, omega (arith, h.1), h.2))

with-agents : (cs : List Constraint) (q : State) → ((with_constraints cs q).agents ≡ q.agents) × ((with_constraints cs q).waiting ≡ q.waiting)
unfolding with_constraints
with-agents [] q = (refl, refl)
with-agents (c ∷ cs) q = with-agents cs (with_constraint q c)

with-list : (cs : List Constraint) (q : State) → (with_constraints cs q).constraints ≡ q.constraints ++ cs
unfolding with_constraints
with-list [] q = sym (append-nil q.constraints)
with-list (c ∷ cs) q = with-list cs (with_constraint q c) ∙ append_assoc q.constraints (c ∷ []) cs

-- ---- and with the default domains

two-values : 2 ≤ size_of all_values
two-values = omega (arith, size_of-cons (record { lo = neg_ℤ MAX_VALUE; hi = MAX_VALUE }) [])

default-state : (s : State) (n : ℕ) (v : Variable) → IsState s → variable s n ≡ v → IsState (with_default s n v)
default-state s n free is at = fixed-keeps-state s n (within all_values) is (held_is s n ∙ ap binding at) (left_with all_values all-domain two-values)
default-state s n (within d) is at = is
default-state s n (bound t) is at = is

one-state : (s : State) (x : Item) → IsState s → IsState (confined_at s x)
one-state s (Item.Var n) is = default-state s n (variable s n) is refl
one-state s (Item.Int i) is = is

confined-state : (xs : List Item) (s : State) → IsState s → IsState (confined s xs)
unfolding confined
confined-state [] s is = is
confined-state (x ∷ xs) s is = confined-state xs (confined_at s (root_item s x)) (one-state s (root_item s x) is)

-- all else is as it was
record Else (s r : State) : Type 0 where
  constraints : r.constraints ≡ s.constraints
  agents : r.agents ≡ s.agents
  waiting : r.waiting ≡ s.waiting

default-else : (s : State) (n : ℕ) (v : Variable) → Else s (with_default s n v)
default-else s n free = record { constraints = refl; agents = refl; waiting = refl }
default-else s n (within d) = record { constraints = refl; agents = refl; waiting = refl }
default-else s n (bound t) = record { constraints = refl; agents = refl; waiting = refl }

one-else : (s : State) (x : Item) → Else s (confined_at s x)
one-else s (Item.Var n) = default-else s n (variable s n)
one-else s (Item.Int i) = record { constraints = refl; agents = refl; waiting = refl }

confined-else : (xs : List Item) (s : State) → Else s (confined s xs)
unfolding confined
confined-else [] s = record { constraints = refl; agents = refl; waiting = refl }
confined-else (x ∷ xs) s =
    let first : Else s (confined_at s (root_item s x)) = one-else s (root_item s x) in
    let rest : Else (confined_at s (root_item s x)) (confined (confined_at s (root_item s x)) xs) = confined-else xs (confined_at s (root_item s x)) in
    record { constraints = rest.constraints ∙ first.constraints; agents = rest.agents ∙ first.agents; waiting = rest.waiting ∙ first.waiting }

confined-next : (xs : List Item) (s : State) → next (confined s xs) ≡ next s
unfolding confined
confined-next [] s = refl
confined-next (x ∷ xs) s = confined-next xs (confined_at s (root_item s x)) ∙ one-next s (root_item s x)

confined-root : (s : State) (xs : List Item) (x : Item) → root_item (confined s xs) x ≡ root_item s x
confined-root s xs x = root-same s (confined s xs) (confining_binds_nothing s xs) x

confined-comes : (s : State) (xs : List Item) (x : Item) → MayCome s (root_item s x) → MayCome (confined s xs) (root_item (confined s xs) x)
confined-comes s xs x (inl (n, d, e, has)) = inl (n, d, confined-root s xs x ∙ e, all-keep s xs n d has)
confined-comes s xs x (inr (i, e, b)) = inr (i, confined-root s xs x ∙ e, b)

pub confined_may_settle : ConfinedMaySettle
confined_may_settle s items is may =
    let same : Else s (confined s items) = confined-else items s in
    record {
      state = confined-state items s is;
      settles = λ c y posted at. confined-comes s items y (may c y (subst (λ (cs : List Constraint). Contains cs c) same.constraints posted) at);
      more = omega (arith, confined-next items s);
      agents = same.agents;
      waiting = same.waiting;
    }

-- an item that is confined
place-comes : (q : State) (xs : List Item) (y : Item) → Contains xs y → PlaceWithin (next q) y → ItemOnly (IsFree q) y → MayCome (confined q xs) (root_item (confined q xs) y)
place-comes q xs (Item.Var n) at made none =
    let root : root_item q (Item.Var n) ≡ Item.Var n = unbound-root q n (sym (held_is q n) ∙ none) in
    let has : (d : List Span) × (domain_of (confined q xs) n ≡ Some d) = confined_have_domains q xs (Item.Var n) n at root made none in
    inl (n, has.0, confined-root q xs (Item.Var n) ∙ root, has.1)
place-comes q xs (Item.Int i) at b none = inr (i, refl, b)

-- ---- the goal

record Posts (s : State) (p : Posting) : Type 0 where
  state : IsState s
  settles : MaySettle s
  may : (c : Constraint) → Contains p.list c → IsWithinLimits c × ((m : ℕ) → SpeaksOf c m → m < next s + p.fresh)
  none : AllOnly (IsFree s) p.list

-- of new variables too
news-else : (k : ℕ) (s : State) → Else s (with_new_variables k s)
unfolding with_new_variables
news-else zero s = record { constraints = refl; agents = refl; waiting = refl }
news-else (suc k) s = let rest : Else (with_new s) (with_new_variables k (with_new s)) = news-else k (with_new s) in record { constraints = rest.constraints; agents = rest.agents; waiting = rest.waiting }

-- items go by the variables
same-comes : (s r : State) (y : Item) → r.variables ≡ s.variables → MayCome s (root_item s y) → MayCome r (root_item r y)
same-comes s r y same (inl (n, d, e, has)) = inl (n, d, root-same s r (ap (map binding) same) y ∙ e, ap (λ (vs : List Variable). domain_in (get_or vs n free)) same ∙ has)
same-comes s r y same (inr (i, e, b)) = inr (i, root-same s r (ap (map binding) same) y ∙ e, b)

abbrev before_domains : State → Posting → State
before_domains s p = with_constraints p.list (with_new_variables p.fresh s)

many-variables : (s : State) (p : Posting) → next (before_domains s p) ≡ next s + p.fresh
many-variables s p = ap (λ (vs : List Variable). length vs) (with-variables p.list (with_new_variables p.fresh s)) ∙ news-next p.fresh s

still-free : (s : State) (p : Posting) (n : ℕ) → IsFree s n → IsFree (before_domains s p) n
still-free s p n none = ap (λ (vs : List Variable). held (map binding vs) n) (with-variables p.list (with_new_variables p.fresh s)) ∙ (news-held p.fresh s n ∙ none)

still-only : (s : State) (p : Posting) (y : Item) → ItemOnly (IsFree s) y → ItemOnly (IsFree (before_domains s p)) y
still-only s p (Item.Var n) none = still-free s p n none
still-only s p (Item.Int i) none = tt

before-state : (s : State) (p : Posting) → Posts s p → IsState (before_domains s p)
before-state s p h =
    with-state p.list (with_new_variables p.fresh s) (news-keep p.fresh s h.state)
    (λ c at. let kept = h.may c at in (kept.0, λ m o. subst (λ (k : ℕ). m < k) (sym (news-next p.fresh s)) (kept.1 m o)))

before-like : (s : State) (p : Posting) (y : Item) → Posts s p → MayCome s (root_item s y) → MayCome (before_domains s p) (root_item (before_domains s p) y)
before-like s p y h old =
    let q : State = with_new_variables p.fresh s in
    same-comes q (before_domains s p) y (with-variables p.list q) (like-comes s q (news-like p.fresh s h.state) y old)

posted-comes : (s : State) (p : Posting) (c : Constraint) (y : Item) → Posts s p → Contains (posted_in s p).constraints c → Contains (places_of c) y → MayCome (posted_in s p) (root_item (posted_in s p) y)
posted-comes s p c y h posted at =
    let q : State = before_domains s p in
    let xs : List Item = places_of_all p.list in
    let there : Contains (s.constraints ++ p.list) c =
    subst (λ (cs : List Constraint). Contains cs c)
    ((confined-else xs q).constraints ∙ (with-list p.list (with_new_variables p.fresh s) ∙ ap (λ (cs : List Constraint). cs ++ p.list) (news-like p.fresh s h.state).constraints)) posted in
    elim (Contains-append_cases s.constraints p.list c there) [
      | inl old ↦ confined-comes q xs y (before-like s p y h (h.settles c y old at))
      | inr new ↦
          let kept = h.may c new in
          place-comes q xs y (place-of-all p.list c y new at)
          (subst (λ (m : ℕ). PlaceWithin m y) (sym (many-variables s p)) (each-at (PlaceWithin (next s + p.fresh)) (places_of c) y (places-within (next s + p.fresh) c kept.0 kept.1) at))
          (still-only s p y (each-at (ItemOnly (IsFree s)) (places_of c) y (all-at (IsFree s) p.list c h.none new) at))
    ]

posted-after : (s : State) (p : Posting) → Posts s p → MaySettleAfter s (posted_in s p)
posted-after s p h =
    let q : State = before_domains s p in
    let xs : List Item = places_of_all p.list in
    let same : Else q (confined q xs) = confined-else xs q in
    let news : Else s (with_new_variables p.fresh s) = news-else p.fresh s in
    let agents = with-agents p.list (with_new_variables p.fresh s) in
    record {
      state = confined-state xs q (before-state s p h);
      settles = λ c y posted at. posted-comes s p c y h posted at;
      more = omega (arith, confined-next xs q, many-variables s p);
      agents = same.agents ∙ (agents.0 ∙ news.agents);
      waiting = same.waiting ∙ (agents.1 ∙ news.waiting);
    }

-- a goal that left a state posted
posting-is : (s r : State) (o : Result Posting Refusal) → effect_of_posting s o ≡ Succeeds r → (p : Posting) × (o ≡ Ok p) × (posted_in s p ≡ r)
posting-is s r (Err e) same = absurd cc
posting-is s r (Ok p) same = (p, refl, cc)

pub posted_may_settle : PostedMaySettle
posted_may_settle s r t is may below same =
    let made : (p : Posting) × (posting_in s t ≡ Ok p) × (posted_in s p ≡ r) = posting-is s r (posting_in s t) same in
    subst (MaySettleAfter s) made.2 (posted-after s made.0 (record {
      state = is;
      settles = may;
      may = postings_may_be_posted (next s) (value (bindings s) t) made.0 (value-below s t is below) made.1;
      none = posted-free s t made.0 is made.1;
    }))

pub posted_keeps_followed : PostedKeepsFollowed
posted_keeps_followed s r t same =
    let made : (p : Posting) × (posting_in s t ≡ Ok p) × (posted_in s p ≡ r) = posting-is s r (posting_in s t) same in
    let p : Posting = made.0 in
    subst (FollowedStay s) made.2
    (stay-then s (with_new_variables p.fresh s) (posted_in s p) (new_variables_keep_followed p.fresh s)
    (stay-then (with_new_variables p.fresh s) (before_domains s p) (posted_in s p) (constraints_keep_followed (with_new_variables p.fresh s) p.list) (confined_keeps_followed (before_domains s p) (places_of_all p.list))))

-- ---- an operand by itself

-- what a state is that a posting left
abbrev pub IsLeft : State → State → Type 0
IsLeft s r = (p : Posting) × (posted_in s p ≡ r) × MaySettleAfter s r

module _ (s : State) (is : IsState s) (may : MaySettle s) (t : Tree) (below : SpeaksBelow (next s) t) where
  -- it is read to this
  abbrev IsRead : Known Sum → Type 0
  IsRead k = read_operand (operand_of (value (bindings s) t)) (nothing_made (next s)) ≡ Ok k

  abbrev made : Known Sum → Posting
  made k = record { fresh = k.made.unused - next s; list = k.made.constraints }

  operand-sum : (k : Known Sum) → IsRead k → SumRead (nothing_made (next s)) k (λ a. operand_value a (operand_of (value (bindings s) t)))
  operand-sum k e = operand-read (next s) (operand_of (value (bindings s) t)) (nothing_made (next s)) k (operand-below (next s) (value (bindings s) t) (value-below s t is below)) (omega arith) e

  operand-may : (k : Known Sum) → IsRead k → first_refusal k.made.constraints ≡ None → (c : Constraint) → Contains k.made.constraints c → IsWithinLimits c × ((m : ℕ) → SpeaksOf c m → m < next s + (k.made.unused - next s))
  unfolding AreFormed
  operand-may k e kept c at =
      let r = operand-sum k e in
      let here = all_kept k.made.unused k.made.constraints c (r.grows.formed tt) kept at in
      (here.0, λ m o. let l : m < k.made.unused = here.1 m o in let more : next s ≤ k.made.unused = r.grows.more in omega (arith, l, more))

  operand-free : (k : Known Sum) → IsRead k → AllOnly (IsFree s) k.made.constraints
  unfolding AllOnly
  operand-free k e =
      ((operand-reads (IsFree s) (value (bindings s) t) (λ m o. value_has_none_bound (bindings s) t m is.acyclic o)).each (nothing_made (next s)) k (tt, λ m past. held_is s m ∙ ap binding (past_free s m past)) e).0.0

  operand-left : (k : Known Sum) → IsRead k → (o : Option Refusal) → first_refusal k.made.constraints ≡ o → (r : State) (sum : ReadSum) → operand_as s (Ok k) (posting_unless o (next s) k.made) ≡ reads r sum → IsLeft s r
  operand-left k e (Some x) kept r sum same = absurd cc
  operand-left k e None kept r sum same =
      let here : posted_in s (made k) ≡ r = cc in
      (made k, here, subst (MaySettleAfter s) here (posted-after s (made k) (record { state = is; settles = may; may = operand-may k e kept; none = operand-free k e })))

  operand-by : (r : State) (sum : ReadSum) (o : Result (Known Sum) Refusal) → read_operand (operand_of (value (bindings s) t)) (nothing_made (next s)) ≡ o → operand_as s o (finished (next s) o) ≡ reads r sum → IsLeft s r
  operand-by r sum (Err x) e same = absurd cc
  operand-by r sum (Ok k) e same = operand-left k e (first_refusal k.made.constraints) refl r sum same

  pub operand_may_settle : (r : State) (sum : ReadSum) → operand_in t s ≡ reads r sum → IsLeft s r
  operand_may_settle r sum same = operand-by r sum (read_operand (operand_of (value (bindings s) t)) (nothing_made (next s))) refl same
