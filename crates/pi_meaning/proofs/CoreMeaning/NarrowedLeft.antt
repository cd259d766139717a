-- What an alternative leaves of a state, before it is settled: it follows the state, and may settle.
use Rattle.std.proofs.Common.{◌≡◌, ℕ, List, [], ◌∷◌, Some, None, refl, subst}
use Rattle.std.specs.Prelude.{ℤ}
use Rattle.pi_terms.specs.Tree.{int}
use Rattle.pi_terms.specs.Places.{held}
use Rattle.pi_constraints.specs.declared.domain.Span.{Span}
use Rattle.pi_constraints.specs.Domain.{IsDomain, values_of}
use Rattle.pi_constraints.specs.State.{State, Variable, within, bound, bindings, domain_of, with_variable, with_binding, with_domain, IsState}
use Rattle.pi_constraints.proofs.StateLemmas.{domain_unbound, domain_good}
use Rattle.pi_constraints.proofs.DomainLemmas.{values_are_within_bounds}
use Rattle.pi_constraints.proofs.CommonLemmas.{first_value, two_values}
use Rattle.pi_settling.specs.SettlingLaws.{MaySettle}
use Rattle.pi_settling.specs.Calm.{IsCalm}
use Rattle.pi_settling.specs.Choices.{Alternative, left_by, with_values, narrowed_to}
use Rattle.pi_settling.proofs.CalmGoals.{IsFixed, left_with, fixed_to, fixed-after}
use Rattle.pi_settling.proofs.LabelNarrows.{left_is_a_domain}
use Rattle.pi_meaning.proofs.Shared.FollowLemmas.{follows-changed}
use Rattle.pi_meaning.proofs.CoreMeaning.LeftLemmas.{Left, left-after}

changed-left : (s : State) (n : ℕ) (v : Variable) → IsState s → MaySettle s → held (bindings s) n ≡ None → IsFixed v → Left s (with_variable s n v)
changed-left s n v is may none fixed = left-after s (with_variable s n v) (fixed-after s n v is may none fixed) (follows-changed s n v none)

values-left : (s r : State) (n : ℕ) (e : List Span) (vs : List ℤ) → IsState s → MaySettle s → held (bindings s) n ≡ None → IsDomain e → values_of e ≡ vs → with_values s n e vs ≡ Some r → Left s r
values-left s r n e [] is may none up at same = absurd cc
values-left s r n e (i ∷ []) is may none up at same =
    let here : with_binding s n (int i) ≡ r = cc in
    subst (Left s) here (changed-left s n (bound (int i)) is may none (fixed_to i (values_are_within_bounds e i up (first_value e i [] up at))))
values-left s r n e (i ∷ j ∷ rest) is may none up at same =
    let here : with_domain s n e ≡ r = cc in
    subst (Left s) here (changed-left s n (within e) is may none (left_with e up (two_values e i j rest at)))

pub left-narrowed : (s r : State) (n : ℕ) (d : List Span) (a : Alternative) → IsCalm s → domain_of s n ≡ Some d → narrowed_to s n (left_by a d) ≡ Some r → Left s r
left-narrowed s r n d a calm has same =
    values-left s r n (left_by a d) (values_of (left_by a d)) calm.state calm.settles (domain_unbound s n d has) (left_is_a_domain a d (domain_good s n d calm.state has).0) refl same
