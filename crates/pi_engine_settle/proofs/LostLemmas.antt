-- A state that runs reach has lost no more values than the stable state.
use Rattle.std.specs.Prelude.{◌≡◌, ℕ, ◌-◌, ◌≤◌, ℤ, IsTrue, List, [], ◌∷◌, Some, Contains, sum_by, refl}
use Rattle.std.proofs.Common.{arith, sym, ◌∙◌, ap, subst, inl, inr}
use Rattle.std.proofs.lemmas.List.Sums.{sum_by-cons}
use Rattle.pi_constraints.specs.declared.constraint.Constraint.{Constraint}
use Rattle.pi_constraints.specs.declared.constraint.Item.{Item}
use Rattle.pi_constraints.specs.declared.domain.Span.{Span}
use Rattle.pi_constraints.specs.Domain.{has_value}
use Rattle.pi_constraints.specs.Value.{IsAcyclic}
use Rattle.pi_constraints.specs.State.{State, Variable, within, binding, bindings, domain_in, domain_of, IsState}
use Rattle.pi_constraints.proofs.StateLemmas.{variable}
use Rattle.pi_prop_spec.specs.Places.{places_of}
use Rattle.pi_settling.specs.Roots.{root_item, only, domain_or_all, given, by_domain}
use Rattle.pi_settling.specs.Stable.{Stays, Narrows, stays_free, stays_bound, some_stay, one_stays, IsStable}
use Rattle.pi_settling.specs.SettlingLaws.{MaySettle}
use Rattle.pi_settling.specs.Load.{roots_of, count_values, count_lost}
use Rattle.pi_settling.proofs.SizeLemmas.{size-within, in-front, behind}
use Rattle.pi_settling.proofs.StableLemmas.{has-only}
use Rattle.pi_settling.proofs.UniqueLemmas.{domain_made}
use Rattle.pi_settling.proofs.TwiceLemmas.{has_in, within_of, unbound-root, integer-root}
use Rattle.pi_settling.proofs.KeepLemmas.{MayCome, stable_is_a_state, item-comes as stable-comes}
use Rattle.pi_settling.proofs.NarrowLemmas.{Comes, to_variable, to_integer, comes, item-comes}
use Rattle.pi_settling.proofs.RunLemmas.{Has, IsBetween, comes-domain}
use Rattle.pi_settling.proofs.BoundLemmas.{roots-come}

-- ---- what a variable has in the stable state stays

stays-by : (s q : State) (n : ℕ) (d : List Span) (i : ℤ) (v w : Variable) → IsAcyclic (bindings q) → Narrows s n v w → v ≡ within d → variable q n ≡ w → IsTrue (has_value (given q (root_item q (Item.Var n))) i) →
    Stays s (Item.Var n) i
stays-by s q n d i v w a stays_free is at h = absurd cc
stays-by s q n d i v w a (stays_bound t) is at h = absurd cc
stays-by s q n d i v w a (some_stay d' e up two all) is at h =
    let same : given q (root_item q (Item.Var n)) ≡ e = ap (given q) (unbound-root q n (ap binding at)) ∙ ap (λ (x : Variable). domain_or_all (domain_in x)) at in
    (all i).0 (has_in (given q (root_item q (Item.Var n))) e i same h)
stays-by s q n d i v w a (one_stays d' j all) is at h =
    let same : given q (root_item q (Item.Var n)) ≡ only j = ap (given q) (integer-root q n j a (ap binding at)) in
    (all i).0 (has-only j i (has_in (given q (root_item q (Item.Var n))) (only j) i same h))

stable-stays : (s q : State) (n : ℕ) (d : List Span) (i : ℤ) → IsAcyclic (bindings q) → IsStable s q → domain_of s n ≡ Some d → IsTrue (has_value (given q (root_item q (Item.Var n))) i) → Stays s (Item.Var n) i
stable-stays s q n d i a f has h = stays-by s q n d i (variable s n) (variable q n) a (f.variables n (domain_made s n d has)) (within_of (variable s n) d has) refl h

-- ---- so a state between has it too

between-has : (s r q : State) (x : Item) (i : ℤ) → IsBetween s r → IsState q → IsStable s q → Comes s x → IsTrue (has_value (given q (root_item q x)) i) → IsTrue (has_value (given r (root_item r x)) i)
between-has s r q x i b is f (to_variable n d e has) h =
    let there : IsTrue (has_value (given q (root_item q (Item.Var n))) i) = subst (λ (y : Item). IsTrue (has_value (given q (root_item q y)) i)) e h in
    subst (λ (y : Item). IsTrue (has_value (given r (root_item r y)) i)) (sym e) (b.stay (Item.Var n) i (by_domain n d refl has) (stable-stays s q n d i is.acyclic f has there))
between-has s r q x i b is f (to_integer j e bounded) h =
    subst (λ (y : Item). IsTrue (has_value (given r (root_item r y)) i)) (sym e) (subst (λ (y : Item). IsTrue (has_value (given q (root_item q y)) i)) e h)

to-may : (s : State) (x : Item) → Comes s x → MayCome s x
to-may s x (to_variable n d e has) = inl (n, d, e, has)
to-may s x (to_integer i e b) = inr (i, e, b)

from-may : (s : State) (x : Item) → MayCome s x → Comes s x
from-may s x (inl (n, d, e, has)) = to_variable n d e has
from-may s x (inr (i, e, b)) = to_integer i e b

count-between : (s r q : State) (x : Item) → IsState s → IsBetween s r → IsStable s q → Comes s x → count_values q x ≤ count_values r x
count-between s r q x is b f was =
    let is' : IsState q = stable_is_a_state s q is f in
    size-within (given r (root_item r x)) (given q (root_item q x)) (comes-domain r (root_item r x) b.state (item-comes (Has r) s r is b.narrowed x was)) (comes-domain q (root_item q x) is' (from-may q (root_item q x) (stable-comes s q is' f x (to-may s x was))))
    (λ i h. between-has s r q x i b is' f was h)

-- ---- the values that are lost

sum-within : {X : Type 0} (f g : X → ℕ) (xs : List X) → ((x : X) → Contains xs x → f x ≤ g x) → sum_by f xs ≤ sum_by g xs
sum-within f g [] less = omega arith
sum-within f g (x ∷ xs) less =
    let here : f x ≤ g x = less x (in-front x xs) in
    let rest : sum_by f xs ≤ sum_by g xs = sum-within f g xs (λ y h. less y (behind x y xs h)) in
    omega (arith, here, rest, sum_by-cons f x xs, sum_by-cons g x xs)

lost-less : (s r q : State) (c : Constraint) → IsState s → MaySettle s → IsBetween s r → IsStable s q → Contains s.constraints c → count_lost s r c ≤ count_lost s q c
lost-less s r q c is may b f posted =
    sum-within (λ x. count_values s x - count_values r x) (λ x. count_values s x - count_values q x) (roots_of s (places_of c)) (λ x there.
    let was : Comes s x = roots-come s (places_of c) (λ y h. comes s may c y posted h) x there in
    let less : count_values q x ≤ count_values r x = count-between s r q x is b f was in
    omega (arith, less))

pub lost-in-stable : (s r q : State) → IsState s → MaySettle s → IsBetween s r → IsStable s q → sum_by (count_lost s r) s.constraints ≤ sum_by (count_lost s q) s.constraints
lost-in-stable s r q is may b f = sum-within (count_lost s r) (count_lost s q) s.constraints (λ c posted. lost-less s r q c is may b f posted)
