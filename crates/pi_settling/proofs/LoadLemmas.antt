-- Settling a state has no load where its variables and its constraints are those that were, and nothing is lost.
use Rattle.std.specs.Prelude.{◌≡◌, ℕ, suc, ◌+◌, ◌-◌, ◌<◌, true, false, nat_le, List, [], ◌∷◌, ◌++◌, length, get_or, sum_by, refl}
use Rattle.std.specs.List.{list_any}
use Rattle.std.proofs.Common.{arith, sym, ◌∙◌, ap, subst, inr, append-nil}
use Rattle.std.proofs.lemmas.Bool.Decides.{nat_tests}
use Rattle.pi_constraints.specs.declared.constraint.Constraint.{Constraint}
use Rattle.pi_constraints.specs.declared.constraint.Item.{Item}
use Rattle.pi_constraints.specs.declared.domain.Span.{Span}
use Rattle.pi_prop_spec.specs.Places.{places_of}
use Rattle.pi_constraints.specs.State.{State, Variable, free, within, bound}
use Rattle.pi_constraints.specs.declared.event.Event.{Event}
use Rattle.pi_traces.specs.Trace.{one}
use Rattle.pi_settling.specs.Roots.{root_item}
use Rattle.pi_settling.specs.Answers.{activations}
use Rattle.pi_settling.specs.Events.{events_between}
use Rattle.pi_settling.specs.Load.{same_domain, is_another, has_changed, is_due, count_due, roots_of, count_values, count_lost, load}
use Rattle.pi_settling.specs.Settled.{loaded, with_events}
use Rattle.pi_settling.specs.SettlingLaws.{SettlingTwiceIsOnce}
use Rattle.pi_settling.proofs.EventLemmas.{same_int, no_change_no_events}
use Rattle.pi_settling.proofs.UniqueLemmas.{same_states}
use Rattle.pi_settling.proofs.TwiceLemmas.{stable_stays_stable}

pub same-itself : (d : List Span) → same_domain d d ≡ true
unfolding same_domain
same-itself [] = refl
same-itself (s ∷ ss) = rw (same_int s.lo, same_int s.hi) (same-itself ss)

not-another : (v : Variable) → is_another v v ≡ false
not-another free = refl
not-another (within d) = rw (same-itself d) refl
not-another (bound t) = refl

-- the same variables
abbrev pub HaveSameVariables : State → State → Type 0
HaveSameVariables before s = (n : ℕ) → get_or s.variables n free ≡ get_or before.variables n free

not-changed : (before s : State) → HaveSameVariables before s → (x : Item) → has_changed before s x ≡ false
not-changed before s same (Item.Var n) =
    subst (λ (v : Variable). is_another (get_or before.variables n free) v ≡ false) (sym (same n)) (not-another (get_or before.variables n free))
not-changed before s same (Item.Int i) = refl

none-changed : (before s : State) → HaveSameVariables before s → (xs : List Item) → list_any (λ x. has_changed before s (root_item before x)) xs ≡ false
none-changed before s same [] = refl
none-changed before s same (x ∷ xs) = rw (not-changed before s same (root_item before x)) (none-changed before s same xs)

old : (m n : ℕ) → n < m → nat_le m n ≡ false
old m n l = grind (arith, nat_tests)

not-due : (before s : State) → HaveSameVariables before s → (i : ℕ) (c : Constraint) → i < length before.constraints → is_due before s i c ≡ false
not-due before s same i c l = rw (old (length before.constraints) i l) (none-changed before s same (places_of c))

none-due : (before s : State) → HaveSameVariables before s → (i : ℕ) (cs : List Constraint) → i + length cs ≡ length before.constraints → count_due before s i cs ≡ 0
unfolding count_due
none-due before s same i [] count = refl
none-due before s same i (c ∷ cs) count =
    let here : is_due before s i c ≡ false = not-due before s same i c (omega arith) in
    let rest : count_due before s (suc i) cs ≡ 0 = none-due before s same (suc i) cs (omega arith) in
    rw (here, rest) refl

sum-zero : {X : Type 0} (f : X → ℕ) → ((x : X) → f x ≡ 0) → (xs : List X) → sum_by f xs ≡ 0
sum-zero f all [] = refl
sum-zero f all (x ∷ xs) = let here : f x ≡ 0 = all x in let rest : sum_by f xs ≡ 0 = sum-zero f all xs in rw (here, rest) refl

none-lost : (s : State) (c : Constraint) → count_lost s s c ≡ 0
none-lost s c = sum-zero (λ x. count_values s x - count_values s x) (λ x. omega arith) (roots_of s (places_of c))

pub no-load : (before s : State) → HaveSameVariables before s → s.constraints ≡ before.constraints → load before s s ≡ 0
no-load before s same posted =
    let many : length s.constraints ≡ length before.constraints = ap length posted in
    let due : count_due before s 0 s.constraints ≡ 0 = none-due before s same 0 s.constraints (omega (arith, many)) in
    let lost : sum_by (count_lost s s) s.constraints ≡ 0 = sum-zero (count_lost s s) (none-lost s) s.constraints in
    omega (arith, due, lost)

pub nothing-waits : (before s : State) → events_between before s ≡ [] → with_events before s ≡ s
unfolding activations
nothing-waits before s none = same_states (with_events before s) s refl refl refl (ap (λ (es : List Event). s.waiting ++ activations s es) none ∙ append-nil s.waiting)

pub settling_twice_is_once : SettlingTwiceIsOnce
unfolding loaded
settling_twice_is_once s r is is' may f =
    let same : with_events r r ≡ r = nothing-waits r r (no_change_no_events r is') in
    inr (r, stable_stays_stable s r is is' may f, rw (no-load r r (λ n. refl) refl) (ap one (sym same)))
