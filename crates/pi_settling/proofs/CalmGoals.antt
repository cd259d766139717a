-- What `::` and `notin` leave: item by item a variable that isn't bound is left fewer values.
use Rattle.std.specs.Prelude.{◌≡◌, ◌⊎◌, ℕ, zero, suc, ◌<◌, ◌≤◌, ℤ, pos, negsuc, neg_ℤ, ◌≤ℤ◌, int_le, nat_lt, Bool, true, false, not, cond, List, [], ◌∷◌, Option, Some, None, option_and_then, Ok, Err, refl}
use Rattle.std.proofs.Common.{arith, sym, ◌∙◌, ap, subst, inl, inr}
use Rattle.std.proofs.lemmas.Int.{ints, clamps}
use Rattle.std.proofs.lemmas.List.{set_past}
use Rattle.std.specs.Int.{int_max, int_min}
use Rattle.std.specs.List.{list_all}
use Rattle.pi_terms.specs.Tree.{Tree, int}
use Rattle.pi_terms.specs.Places.{held}
use Rattle.pi_terms.specs.Variables.{Occurs}
use Rattle.pi_constraints.specs.declared.constraint.Item.{Item}
use Rattle.pi_constraints.specs.declared.domain.Span.{Span}
use Rattle.pi_constraints.specs.declared.domain.TheConstants.{MAX_VALUE}
use Rattle.pi_constraints.specs.Domain.{IsWithinBounds, AscendFrom, IsDomain, has_value, values_of, size_of, overlap, common}
use Rattle.pi_constraints.proofs.DomainLemmas.{values_are_within_bounds}
use Rattle.pi_constraints.proofs.CommonLemmas.{IsDomain-common, first_value, two_values}
use Rattle.pi_constraints.proofs.RootLemmas.{value_int}
use Rattle.pi_constraints.specs.Value.{value, IsAcyclic}
use Rattle.pi_constraints.specs.State.{State, Variable, within, bound, binding, bindings, next, domain_in, domain_of, with_variable, with_binding, with_domain, IsState}
use Rattle.pi_constraints.proofs.StateLemmas.{variable, changed_next, changed_here, same_or_not, held_here, held_elsewhere, domain_elsewhere, domain_good, domain_unbound, domain_bindings, IsState-changed}
use Rattle.pi_constraints.proofs.StateLemmas.{held_is}
use Rattle.pi_constraints.proofs.UnifyBindings.{bound_state}
use Rattle.pi_effects.specs.Effect.{Succeeds, succeeds_in}
use Rattle.pi_effects.specs.Answer.{Answer}
use Rattle.pi_effects.specs.Exception.{range_too_long}
use Rattle.pi_effects.specs.Ranges.{most_items, count_by}
use Rattle.pi_settling.specs.Roots.{root_item, domain_or_all, given}
use Rattle.pi_settling.specs.SettlingLaws.{MaySettle}
use Rattle.pi_settling.specs.Asked.{Flat, flat, no_item, flat_items}
use Rattle.pi_settling.specs.Choices.{with_values, narrowed_to}
use Rattle.pi_settling.specs.Values.{can_have, domain_of_values, all_but, numbers_by}
use Rattle.pi_settling.specs.RightSide.{RightSide, from_to, by_steps, these, unless_wide, range_can_have, values_judged, steps_judged, step_judged, judged_or, right_side, side_domain}
use Rattle.pi_settling.specs.Within.{unless_bound, only_where, item_in, item_not_in, each_item, left_side, by_domain}
use Rattle.pi_settling.specs.CalmLaws.{MaySettleAfter, FollowedStay, WithinMaySettle, NotinMaySettle, WithinKeepsFollowed, NotinKeepsFollowed}
use Rattle.pi_settling.proofs.RootLemmas.{Items}
use Rattle.pi_settling.proofs.TwiceLemmas.{all-domain, less_or_not, item_by, unbound-root, integer-root}
use Rattle.pi_settling.proofs.KeepLemmas.{MayCome}
use Rattle.pi_settling.proofs.ValueLemmas.{values_are_a_domain, all_but_is_a_domain}
use Rattle.pi_settling.proofs.CalmItems.{settles-later}
use Rattle.pi_settling.proofs.CalmFollowed.{stay-same, stay-then, changed-keeps, changed-stay}

-- ---- one variable that isn't bound gets a domain or a value of one

pub data IsFixed : Variable → Type 0 where
  left_with : (e : List Span) → IsDomain e → 2 ≤ size_of e → IsFixed (within e)
  fixed_to : (i : ℤ) → IsWithinBounds i → IsFixed (bound (int i))

pub after-none : (s : State) → IsState s → MaySettle s → MaySettleAfter s s
after-none s is may = record { state = is; settles = may; more = omega arith; agents = refl; waiting = refl }

pub after-then : (s r q : State) → MaySettleAfter s r → MaySettleAfter r q → MaySettleAfter s q
after-then s r q h g = record { state = g.state; settles = g.settles; more = omega (arith, h.more, g.more); agents = g.agents ∙ h.agents; waiting = g.waiting ∙ h.waiting }

fixed-state : (s : State) (n : ℕ) (v : Variable) → IsState s → n < next s → held (bindings s) n ≡ None → IsFixed v → IsState (with_variable s n v)
unfolding Occurs
fixed-state s n v is made none (left_with e up two) = IsState-changed s n (within e) is made (up, two) (subst IsAcyclic (sym (domain_bindings s n e none)) is.acyclic)
fixed-state s n v is made none (fixed_to i b) = bound_state s n (int i) (record {
  state = is;
  made = made;
  unbound = none;
  below = λ m h. absurd h;
  apart = λ h. absurd (subst (Occurs n) (value_int (bindings s) i) h);
})

fixed-binding : (v : Variable) → IsFixed v → (binding v ≡ None) ⊎ ((i : ℤ) × (binding v ≡ Some (int i)))
fixed-binding v (left_with e up two) = inl refl
fixed-binding v (fixed_to i b) = inr (i, refl)

fixed-item : (s : State) (n : ℕ) (v : Variable) → n < next s → IsFixed v → (held (bindings (with_variable s n v)) n ≡ None) ⊎ ((i : ℤ) × (held (bindings (with_variable s n v)) n ≡ Some (int i)))
fixed-item s n v made fixed = elim (fixed-binding v fixed) [
  | inl is ↦ inl (held_here s n v made ∙ is)
  | inr (i, is) ↦ inr (i, held_here s n v made ∙ is)
]

fixed-items : (s : State) (n : ℕ) (v : Variable) → IsState (with_variable s n v) → n < next s → IsFixed v → Items (bindings s) (bindings (with_variable s n v))
fixed-items s n v is made fixed k none = item_by (bindings (with_variable s n v)) k is.acyclic (elim (same_or_not k n) [
  | inl here ↦ subst (λ (m : ℕ). (held (bindings (with_variable s n v)) m ≡ None) ⊎ ((i : ℤ) × (held (bindings (with_variable s n v)) m ≡ Some (int i)))) (sym here) (fixed-item s n v made fixed)
  | inr other ↦ inl (held_elsewhere s n v k other ∙ none)
])

fixed-comes : (r : State) (n : ℕ) (v : Variable) → IsState r → variable r n ≡ v → IsFixed v → MayCome r (root_item r (Item.Var n))
fixed-comes r n v is at (left_with e up two) = inl (n, e, unbound-root r n (ap binding at), ap domain_in at)
fixed-comes r n v is at (fixed_to i b) = inr (i, integer-root r n i is.acyclic (ap binding at), b)

fixed-each : (s : State) (n : ℕ) (v : Variable) → IsState (with_variable s n v) → n < next s → IsFixed v → (k : ℕ) (d : List Span) → domain_of s k ≡ Some d →
    MayCome (with_variable s n v) (root_item (with_variable s n v) (Item.Var k))
fixed-each s n v is made fixed k d has = elim (same_or_not k n) [
  | inl here ↦ subst (λ (m : ℕ). MayCome (with_variable s n v) (root_item (with_variable s n v) (Item.Var m))) (sym here) (fixed-comes (with_variable s n v) n v is (changed_here s n v made) fixed)
  | inr other ↦
      inl (k, d, unbound-root (with_variable s n v) k (sym (held_is (with_variable s n v) k) ∙ (held_elsewhere s n v k other ∙ domain_unbound s k d has)), domain_elsewhere s n v k other ∙ has)
]

fixed-made : (s : State) (n : ℕ) (v : Variable) → IsState s → MaySettle s → n < next s → held (bindings s) n ≡ None → IsFixed v → MaySettleAfter s (with_variable s n v)
fixed-made s n v is may made none fixed =
    let r : State = with_variable s n v in
    let is' : IsState r = fixed-state s n v is made none fixed in
    record {
      state = is';
      settles = settles-later s r is is' (changed-keeps s n v none) (fixed-items s n v is' made fixed) refl (fixed-each s n v is' made fixed) may;
      more = omega (arith, changed_next s n v);
      agents = refl;
      waiting = refl;
    }

abbrev pub with_all : State → List Variable → State
with_all s vs = record { variables = vs; constraints = s.constraints; agents = s.agents; waiting = s.waiting }

-- a number past the last variable is that of none
pub past-changed : (s : State) (n : ℕ) (v : Variable) → next s ≤ n → with_variable s n v ≡ s
past-changed s n v past = ap (with_all s) (set_past s.variables n v past)

pub fixed-after : (s : State) (n : ℕ) (v : Variable) → IsState s → MaySettle s → held (bindings s) n ≡ None → IsFixed v → MaySettleAfter s (with_variable s n v)
fixed-after s n v is may none fixed = elim (less_or_not n (next s)) [
  | inl made ↦ fixed-made s n v is may made none fixed
  | inr past ↦ subst (MaySettleAfter s) (sym (past-changed s n v past)) (after-none s is may)
]

pub fixed-keeps-state : (s : State) (n : ℕ) (v : Variable) → IsState s → held (bindings s) n ≡ None → IsFixed v → IsState (with_variable s n v)
fixed-keeps-state s n v is none fixed = elim (less_or_not n (next s)) [
  | inl made ↦ fixed-state s n v is made none fixed
  | inr past ↦ subst IsState (sym (past-changed s n v past)) is
]

-- ---- values that are kept

-- what holds of a state that is left, where there is one
values-fixed : (P : State → Type 0) (s : State) (n : ℕ) (e : List Span) (vs : List ℤ) (m : State) → ((v : Variable) → IsFixed v → P (with_variable s n v)) → IsDomain e → values_of e ≡ vs →
    with_values s n e vs ≡ Some m → P m
values-fixed P s n e [] m each up is same = absurd cc
values-fixed P s n e (i ∷ []) m each up is same =
    let here : with_binding s n (int i) ≡ m = cc in
    subst P here (each (bound (int i)) (fixed_to i (values_are_within_bounds e i up (first_value e i [] up is))))
values-fixed P s n e (i ∷ j ∷ rest) m each up is same =
    let here : with_domain s n e ≡ m = cc in
    subst P here (each (within e) (left_with e up (two_values e i j rest is)))

given-domain : (s : State) (n : ℕ) (o : Option (List Span)) → IsState s → domain_of s n ≡ o → IsDomain (domain_or_all o)
given-domain s n None is has = all-domain
given-domain s n (Some d) is has = (domain_good s n d is has).0

kept-by : (d : List Span) (s : State) (n : ℕ) (m : State) (o : Option Tree) → IsDomain d → IsState s → MaySettle s → held (bindings s) n ≡ o →
    unless_bound s o (narrowed_to s n (common (given s (Item.Var n)) d)) ≡ Some m → MaySettleAfter s m
kept-by d s n m None up is may none same =
    let e : List Span = common (given s (Item.Var n)) d in
    let there : IsDomain e = IsDomain-common (given s (Item.Var n)) d (given-domain s n (domain_of s n) is refl) up in
    values-fixed (MaySettleAfter s) s n e (values_of e) m (λ v fixed. fixed-after s n v is may none fixed) there refl same
kept-by d s n m (Some t) up is may at same = let here : s ≡ m = cc in subst (MaySettleAfter s) here (after-none s is may)

pub only-is : (b : Bool) (s m : State) → only_where b s ≡ Some m → s ≡ m
only-is true s m same = cc
only-is false s m same = absurd cc

-- a step of a goal, by item
abbrev pub Step : Type 0
Step = State → Item → Option State

abbrev StepSettles : Step → Type 0
StepSettles f = (s : State) (x : Item) (m : State) → IsState s → MaySettle s → f s x ≡ Some m → MaySettleAfter s m

in-settles : (d : List Span) → IsDomain d → StepSettles (item_in d)
in-settles d up s (Item.Var n) m is may same = kept-by d s n m (held (bindings s) n) up is may refl same
in-settles d up s (Item.Int i) m is may same = subst (MaySettleAfter s) (only-is (has_value d i) s m same) (after-none s is may)

not-in-settles : (d : List Span) → IsDomain d → StepSettles (item_not_in d)
not-in-settles d up s (Item.Var n) m is may same = kept-by (all_but d) s n m (held (bindings s) n) (all_but_is_a_domain d up) is may refl same
not-in-settles d up s (Item.Int i) m is may same = subst (MaySettleAfter s) (only-is (not (has_value d i)) s m same) (after-none s is may)

each-settles : (f : Step) → StepSettles f → (xs : List Item) (s r : State) → IsState s → MaySettle s → each_item f xs s ≡ Some r → MaySettleAfter s r
unfolding each_item
each-settles f step [] s r is may same = let here : s ≡ r = cc in subst (MaySettleAfter s) here (after-none s is may)
each-settles f step (x ∷ xs) s r is may same = by (λ m. each-settles f step xs m r) (f s (root_item s x)) refl same
  where
    by : ((m : State) → IsState m → MaySettle m → each_item f xs m ≡ Some r → MaySettleAfter m r) → (o : Option State) → f s (root_item s x) ≡ o → option_and_then (each_item f xs) o ≡ Some r → MaySettleAfter s r
    by later None at left = absurd cc
    by later (Some m) at left = let first : MaySettleAfter s m = step s (root_item s x) m is may at in after-then s m r first (later m first.state first.settles left)

-- ---- the right side is a domain

none-ascends : IsDomain []
unfolding AscendFrom
none-ascends = tt

ascend-one : (lo hi : ℤ) → neg_ℤ MAX_VALUE ≤ℤ lo → lo ≤ℤ hi → hi ≤ℤ MAX_VALUE → IsDomain (record { lo = lo; hi = hi } ∷ [])
unfolding AscendFrom
ascend-one lo hi low order high = (low, order, high, tt)

range-domain : (lo hi : ℤ) → IsDomain (overlap (record { lo = lo; hi = hi }) (record { lo = neg_ℤ MAX_VALUE; hi = MAX_VALUE }))
unfolding overlap
range-domain lo hi = by (int_le (int_max lo (neg_ℤ MAX_VALUE)) (int_min hi MAX_VALUE)) refl
  where
    by : (b : Bool) → int_le (int_max lo (neg_ℤ MAX_VALUE)) (int_min hi MAX_VALUE) ≡ b → IsDomain (cond b (record { lo = int_max lo (neg_ℤ MAX_VALUE); hi = int_min hi MAX_VALUE } ∷ []) [])
    by true e = ascend-one (int_max lo (neg_ℤ MAX_VALUE)) (int_min hi MAX_VALUE) (omega (arith, ints, clamps)) (grind (arith, ints, e)) (omega (arith, ints, clamps))
    by false e = none-ascends

unless-domain : (strict fits : Bool) (d e : List Span) → IsDomain d → unless_wide strict fits d ≡ Ok e → IsDomain e
unless-domain true true d e up same = let here : d ≡ e = cc in subst IsDomain here up
unless-domain true false d e up same = absurd cc
unless-domain false fits d e up same = let here : d ≡ e = cc in subst IsDomain here up

counted-domain : (strict many : Bool) (is : List ℤ) (e : List Span) → cond many (Err range_too_long) (values_judged strict is) ≡ Ok e → IsDomain e
counted-domain strict true is e same = absurd cc
counted-domain strict false is e same = unless-domain strict (list_all can_have is) (domain_of_values is) e (values_are_a_domain is) same

steps-domain : (strict : Bool) (lo step hi : ℤ) (e : List Span) → steps_judged strict lo step hi ≡ Ok e → IsDomain e
steps-domain strict lo step hi e same = counted-domain strict (nat_lt most_items (count_by lo step hi)) (numbers_by (count_by lo step hi) lo step) e same

step-domain : (strict : Bool) (lo step hi : ℤ) (e : List Span) → step_judged strict lo step hi ≡ Ok e → IsDomain e
step-domain strict lo (pos zero) hi e same = absurd cc
step-domain strict lo (pos (suc n)) hi e same = steps-domain strict lo (pos (suc n)) hi e same
step-domain strict lo (negsuc n) hi e same = steps-domain strict lo (negsuc n) hi e same

side-domain : (strict : Bool) (ball : Tree) (o : Option RightSide) (e : List Span) → judged_or strict ball o ≡ Ok e → IsDomain e
side-domain strict ball None e same = absurd cc
side-domain strict ball (Some (from_to lo hi)) e same = unless-domain strict (range_can_have lo hi) _ e (range-domain lo hi) same
side-domain strict ball (Some (by_steps lo step hi)) e same = step-domain strict lo step hi e same
side-domain strict ball (Some (these is)) e same = unless-domain strict (list_all can_have is) (domain_of_values is) e (values_are_a_domain is) same

-- ---- the goals

-- a goal that left a state went through its items
pub record Went (s r : State) (a : Answer (List Span)) (f : List Span → Step) : Type 0 where
  pub domain : List Span
  pub items : List Item
  pub judged : a ≡ Ok domain
  pub left : each_item (f domain) items s ≡ Some r

succeeded : (o : Option State) (r : State) → succeeds_in o ≡ Succeeds r → o ≡ Some r
succeeded None r same = absurd cc
succeeded (Some q) r same = cc

pub went : (s r : State) (t : Tree) (a : Answer (List Span)) (f : List Span → Step) → by_domain s t a f ≡ Succeeds r → Went s r a f
went s r t (Err ball) f same = absurd cc
went s r t (Ok d) f same = by (flat_items (bindings s) t) same
  where
    by : (x : Flat) → left_side s x (f d) ≡ Succeeds r → Went s r (Ok d) f
    by (no_item u) left = absurd cc
    by (flat xs) left = record { domain = d; items = xs; judged = refl; left = succeeded (each_item (f d) xs s) r left }

pub within_may_settle : WithinMaySettle
within_may_settle s r t u is may same =
    let w : Went s r (side_domain true s u) item_in = went s r t (side_domain true s u) item_in same in
    each-settles (item_in w.domain) (in-settles w.domain (side-domain true _ (right_side (value (bindings s) u)) w.domain w.judged)) w.items s r is may w.left

pub notin_may_settle : NotinMaySettle
notin_may_settle s r t u is may same =
    let w : Went s r (side_domain false s u) item_not_in = went s r t (side_domain false s u) item_not_in same in
    each-settles (item_not_in w.domain) (not-in-settles w.domain (side-domain false _ (right_side (value (bindings s) u)) w.domain w.judged)) w.items s r is may w.left

-- ---- what terms are followed to

abbrev StepKeeps : Step → Type 0
StepKeeps f = (s : State) (x : Item) (m : State) → f s x ≡ Some m → FollowedStay s m

values-stay : (s : State) (n : ℕ) (e : List Span) (vs : List ℤ) (m : State) → held (bindings s) n ≡ None → with_values s n e vs ≡ Some m → FollowedStay s m
values-stay s n e [] m none same = absurd cc
values-stay s n e (i ∷ []) m none same = let here : with_binding s n (int i) ≡ m = cc in subst (FollowedStay s) here (changed-stay s n (bound (int i)) none)
values-stay s n e (i ∷ j ∷ rest) m none same = let here : with_domain s n e ≡ m = cc in subst (FollowedStay s) here (changed-stay s n (within e) none)

kept-stay : (d : List Span) (s : State) (n : ℕ) (m : State) (o : Option Tree) → held (bindings s) n ≡ o → unless_bound s o (narrowed_to s n (common (given s (Item.Var n)) d)) ≡ Some m → FollowedStay s m
kept-stay d s n m None none same = values-stay s n (common (given s (Item.Var n)) d) (values_of (common (given s (Item.Var n)) d)) m none same
kept-stay d s n m (Some t) at same = let here : s ≡ m = cc in subst (FollowedStay s) here (stay-same s s refl)

in-keeps : (d : List Span) → StepKeeps (item_in d)
in-keeps d s (Item.Var n) m same = kept-stay d s n m (held (bindings s) n) refl same
in-keeps d s (Item.Int i) m same = subst (FollowedStay s) (only-is (has_value d i) s m same) (stay-same s s refl)

not-in-keeps : (d : List Span) → StepKeeps (item_not_in d)
not-in-keeps d s (Item.Var n) m same = kept-stay (all_but d) s n m (held (bindings s) n) refl same
not-in-keeps d s (Item.Int i) m same = subst (FollowedStay s) (only-is (not (has_value d i)) s m same) (stay-same s s refl)

each-keeps : (f : Step) → StepKeeps f → (xs : List Item) (s r : State) → each_item f xs s ≡ Some r → FollowedStay s r
unfolding each_item
each-keeps f step [] s r same = let here : s ≡ r = cc in subst (FollowedStay s) here (stay-same s s refl)
each-keeps f step (x ∷ xs) s r same = by (λ m. each-keeps f step xs m r) (f s (root_item s x)) refl same
  where
    by : ((m : State) → each_item f xs m ≡ Some r → FollowedStay m r) → (o : Option State) → f s (root_item s x) ≡ o → option_and_then (each_item f xs) o ≡ Some r → FollowedStay s r
    by later None at left = absurd cc
    by later (Some m) at left = stay-then s m r (step s (root_item s x) m at) (later m left)

pub within_keeps_followed : WithinKeepsFollowed
within_keeps_followed s r t u same =
    let w : Went s r (side_domain true s u) item_in = went s r t (side_domain true s u) item_in same in
    each-keeps (item_in w.domain) (in-keeps w.domain) w.items s r w.left

pub notin_keeps_followed : NotinKeepsFollowed
notin_keeps_followed s r t u same =
    let w : Went s r (side_domain false s u) item_not_in = went s r t (side_domain false s u) item_not_in same in
    each-keeps (item_not_in w.domain) (not-in-keeps w.domain) w.items s r w.left
