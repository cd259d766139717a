-- A calm state is calm where variables of it are confined: a filter reads all values of a variable without a domain, and those are the domain that it gets.
use Rattle.std.specs.Prelude.{◌≡◌, ◌≢◌, ◌⊎◌, ℕ, ◌<◌, ◌≤◌, ℤ, IsTrue, List, [], ◌∷◌, length, slice_get, Some, refl}
use Rattle.std.proofs.Common.{arith, sym, ◌∙◌, ap, subst, inl, inr}
use Rattle.pi_constraints.specs.declared.constraint.Constraint.{Constraint}
use Rattle.pi_constraints.specs.declared.constraint.Item.{Item}
use Rattle.pi_constraints.specs.declared.domain.Span.{Span}
use Rattle.pi_constraints.specs.Domain.{has_value}
use Rattle.pi_constraints.specs.State.{State, Variable, free, within, bound, domain_in, next, with_domain}
use Rattle.pi_constraints.proofs.StateLemmas.{variable, same_or_not, changed_next, domain_here, domain_elsewhere}
use Rattle.pi_prop_spec.specs.Places.{places_of, domain_at}
use Rattle.pi_prop_spec.specs.Filter.{Leaves}
use Rattle.pi_settling.specs.Roots.{root_item, all_values, domain_or_all, given}
use Rattle.pi_settling.specs.Run.{given_at}
use Rattle.pi_settling.specs.Calm.{IsCalm}
use Rattle.pi_settling.specs.CalmLaws.{MaySettleAfter}
use Rattle.pi_settling.specs.Confined.{with_default, confined_at, confined}
use Rattle.pi_settling.proofs.TwiceLemmas.{past_free, less_or_not, same_map}
use Rattle.pi_settling.proofs.ConfinedLemmas.{confining_binds_nothing, root-same}
use Rattle.pi_settling.proofs.CalmPosted.{confined_may_settle}

-- ---- the domains that filters read

default-given : (s : State) (n : ℕ) (v : Variable) → variable s n ≡ v → (x : Item) → given (with_default s n v) x ≡ given s x
default-given s n v is (Item.Int i) = refl
default-given s n free is (Item.Var k) = at (same_or_not k n)
  where
    r : State
    r = with_domain s n all_values

    here : (n < next s) ⊎ (next s ≤ n) → domain_or_all (domain_in (variable r n)) ≡ all_values
    here (inl made) = ap domain_or_all (domain_here s n (within all_values) made)
    here (inr past) = ap (λ (v : Variable). domain_or_all (domain_in v)) (past_free r n (omega (arith, changed_next s n (within all_values), past)))

    at : (k ≡ n) ⊎ (k ≢ n) → given r (Item.Var k) ≡ given s (Item.Var k)
    at (inl same) =
        ap (λ (m : ℕ). given r (Item.Var m)) same
        ∙ (here (less_or_not n (next s)) ∙ (ap (λ (v : Variable). domain_or_all (domain_in v)) (sym is) ∙ ap (λ (m : ℕ). given s (Item.Var m)) (sym same)))
    at (inr other) = ap domain_or_all (domain_elsewhere s n (within all_values) k other)
default-given s n (within d) is (Item.Var k) = refl
default-given s n (bound t) is (Item.Var k) = refl

one-given : (s : State) (y x : Item) → given (confined_at s y) x ≡ given s x
one-given s (Item.Var n) x = default-given s n (variable s n) refl x
one-given s (Item.Int i) x = refl

all-given : (s : State) (items : List Item) (x : Item) → given (confined s items) x ≡ given s x
unfolding confined
all-given s [] x = refl
all-given s (y ∷ ys) x = all-given (confined_at s (root_item s y)) ys x ∙ one-given s (root_item s y) x

places-given : (s : State) (items : List Item) (c : Constraint) → given_at (confined s items) c ≡ given_at s c
places-given s items c =
    let r : State = confined s items in
    same_map (λ x. given r (root_item r x)) (λ x. given s (root_item s x)) (λ x. all-given s items (root_item r x) ∙ ap (given s) (root-same s r (confining_binds_nothing s items) x)) (places_of c)

-- ---- the constraints

default-constraints : (s : State) (n : ℕ) (v : Variable) → (with_default s n v).constraints ≡ s.constraints
default-constraints s n free = refl
default-constraints s n (within d) = refl
default-constraints s n (bound t) = refl

one-constraints : (s : State) (x : Item) → (confined_at s x).constraints ≡ s.constraints
one-constraints s (Item.Var n) = default-constraints s n (variable s n)
one-constraints s (Item.Int i) = refl

all-constraints : (s : State) (items : List Item) → (confined s items).constraints ≡ s.constraints
unfolding confined
all-constraints s [] = refl
all-constraints s (x ∷ xs) = all-constraints (confined_at s (root_item s x)) xs ∙ one-constraints s (root_item s x)

pub confined-calm : (s : State) (items : List Item) → IsCalm s → IsCalm (confined s items)
confined-calm s items calm =
    let after : MaySettleAfter s (confined s items) = confined_may_settle s items calm.state calm.settles in
    record {
      state = after.state;
      settles = after.settles;
      unchanged = λ i c at.
          subst (λ (ds : List (List Span)). (k : ℕ) (j : ℤ) → k < length (places_of c) → IsTrue (has_value (domain_at ds k) j) → Leaves c ds k j) (sym (places-given s items c))
          (calm.unchanged i c (subst (λ (cs : List Constraint). slice_get cs i ≡ Some c) (all-constraints s items) at));
    }
