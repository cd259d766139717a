-- Where nothing changed there are no events and nothing is lost.
use Rattle.std.specs.Prelude.{◌≡◌, ℕ, suc, ◌+◌, ◌<◌, ◌≤◌, ℤ, Bool, true, false, not, cond, nat_le, IsTrue, List, [], ◌∷◌, length, map, filter, get_or, Some, None, Contains, refl}
use Rattle.std.specs.Ordering.{is_eq, int_cmp}
use Rattle.std.proofs.Common.{arith, sym, ◌∙◌, ap, subst}
use Rattle.std.proofs.lemmas.Int.{ints}
use Rattle.pi_terms.specs.Tree.{var}
use Rattle.pi_constraints.specs.declared.domain.Span.{Span}
use Rattle.pi_constraints.specs.Domain.{IsDomain, has_value, values_of, size_of}
use Rattle.pi_constraints.proofs.DomainLemmas.{values_lie_in_spans}
use Rattle.pi_prop_spec.specs.Ends.{least_of, greatest_of}
use Rattle.pi_constraints.specs.State.{State, Variable, free, within, bound, binding, bindings, next, domain_in, domain_of, followed, IsVariable, IsState}
use Rattle.pi_constraints.proofs.FollowLemmas.{followed_itself}
use Rattle.pi_constraints.proofs.StateLemmas.{variable, held_is, state_variable}
use Rattle.pi_constraints.specs.declared.event.Event.{Event}
use Rattle.pi_settling.specs.Events.{most_told, is_inner, same_ends, lost_values, excluded_events, variable_events, events_since, events_from}
use Rattle.pi_settling.specs.SettlingLaws.{NoChangeNoEvents}

pub same_int : (i : ℤ) → is_eq (int_cmp i i) ≡ true
same_int i = grind (arith, ints)

pub ends-same : (d : List Span) → same_ends d d ≡ true
ends-same d = let e = same_int (least_of d) in let f = same_int (greatest_of d) in rw (e, f) refl

filter-none : (d : List Span) (ns : List ℤ) → ((i : ℤ) → Contains ns i → IsTrue (has_value d i)) → filter (λ i. not (has_value d i)) ns ≡ []
filter-none d [] all = refl
filter-none d (n ∷ ns) all =
    let h : has_value d n ≡ true = all n (0, omega arith, refl) in
    rw h (filter-none d ns (λ i c. all i (suc c.0, omega (arith, c.1), c.2)))

lost-none : (d : List Span) → IsDomain d → lost_values d d ≡ []
lost-none d up = filter-none d (values_of d) (λ i c. (values_lie_in_spans d up i).1 c)

either-none : (b : Bool) (es : List Event) → es ≡ [] → cond b es [] ≡ []
either-none true es e = e
either-none false es e = refl

pub excluded-none : (n : ℕ) (d : List Span) → IsDomain d → excluded_events n d d ≡ []
excluded-none n d up = either-none (nat_le (size_of d) most_told) _ (ap (map (λ i. Event.Excluded n i (is_inner d i))) (lost-none d up))

-- ---- one variable

unbound-itself : (s : State) (n : ℕ) → binding (variable s n) ≡ None → followed (bindings s) (var n) ≡ var n
unbound-itself s n is = followed_itself (bindings s) n (held_is s n ∙ is)

free-none : (s : State) (n : ℕ) → variable s n ≡ free → events_since s n free ≡ []
unfolding variable_events
free-none s n is = rw (unbound-itself s n (ap binding is)) refl

within-none : (s : State) (n : ℕ) (d : List Span) → variable s n ≡ within d → IsDomain d → events_since s n (within d) ≡ []
unfolding variable_events
within-none s n d is up =
    let here : domain_of s n ≡ Some d = ap domain_in is in
    rw (unbound-itself s n (ap binding is), here, ends-same d, excluded-none n d up) refl

since-none : (s : State) (n : ℕ) → IsState s → n < next s → (v : Variable) → variable s n ≡ v → events_since s n v ≡ []
since-none s n st l free is = free-none s n is
since-none s n st l (within d) is = within-none s n d is (subst (IsVariable (next s)) is (state_variable s n st l)).0
since-none s n st l (bound t) is = refl

-- ---- all of them, from one on

pub from-none : (s : State) → IsState s → (n : ℕ) (vs : List Variable) → n + length vs ≤ next s → ((k : ℕ) → k < length vs → get_or vs k free ≡ variable s (n + k)) → events_from s n vs ≡ []
unfolding events_from
from-none s st n [] count same = refl
from-none s st n (v ∷ vs) count same =
    let first : variable s n ≡ v = ap (variable s) (omega arith) ∙ sym (same 0 (omega arith)) in
    let here : events_since s n v ≡ [] = since-none s n st (omega arith) v first in
    rw here (from-none s st (suc n) vs (omega arith) (λ k l. same (suc k) (omega arith) ∙ ap (variable s) (omega arith)))

pub no_change_no_events : NoChangeNoEvents
no_change_no_events s st = from-none s st 0 s.variables (omega arith) (λ k l. ap (variable s) (omega arith))
