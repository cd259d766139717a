-- The alternatives of a variable with a domain.
use Rattle.std.specs.Prelude.{◌≡◌, ℕ, ◌≤◌, List, [], ◌∷◌, Option, Some, option_map, unwrap_or, slice_get, ℤ}
use Rattle.std.proofs.Common.{arith, sym, ◌∙◌, ap, subst}
use Rattle.pi_constraints.specs.declared.domain.Span.{Span}
use Rattle.pi_constraints.specs.Domain.{IsDomain, values_of, size_of}
use Rattle.pi_constraints.specs.State.{State, IsState, domain_of}
use Rattle.pi_constraints.specs.Stored.{stored}
use Rattle.pi_constraints.proofs.StateLemmas.{domain_good}
use Rattle.pi_label.specs.declared.options.ValueWord.{ValueWord}
use Rattle.pi_label.specs.Beside.{AreEnds, IsNextAbove, IsNextBelow}
use Rattle.pi_label.specs.Follows.{Follows}
use Rattle.pi_label.specs.Words.{value_word}
use Rattle.pi_label.proofs.ChoiceLemmas.{by-up, by-down}
use Rattle.pi_settling.specs.Choices.{Alternative, alternatives, is_value}

pub stored-is : (s : State) (n : ℕ) (d : List Span) → domain_of s n ≡ Some d → stored s n ≡ d
stored-is s n d has = ap (λ (o : Option (List Span)). unwrap_or o []) has

pub domain-is : (s : State) (n : ℕ) (d : List Span) → IsState s → domain_of s n ≡ Some d → IsDomain d
domain-is s n d is has = (domain_good s n d is has).0

no-values : (d : List Span) → d ≡ [] → 2 ≤ size_of d → ⊥
unfolding values_of
no-values [] e two = omega (arith, two)
no-values (x ∷ d) e two = cc

-- a domain has ends
pub some-ends : {A : Type 0} (s : State) (n : ℕ) (d : List Span) → IsState s → domain_of s n ≡ Some d → stored s n ≡ [] → A
some-ends s n d is has none = absurd (no-values d (sym (stored-is s n d has) ∙ none) (domain_good s n d is has).1)

pub first-told : (s : State) (n : ℕ) (d : List Span) (ends : Span) (w : ValueWord) (a : Alternative) → IsState s → domain_of s n ≡ Some d → AreEnds (stored s n) ends →
    ((e : List Span) → IsDomain e → AreEnds e ends → Some a ≡ slice_get (alternatives (value_word w) e) 0) → Some a ≡ slice_get (alternatives (value_word w) d) 0
first-told s n d ends w a is has are tells = tells d (domain-is s n d is has) (subst (λ (e : List Span). AreEnds e ends) (stored-is s n d has) are)

pub up-told : (s : State) (n : ℕ) (d : List Span) (w : ValueWord) (m : ℤ) (found : Option ℤ) (told : Option Alternative) → IsState s → domain_of s n ≡ Some d → w ≡ ValueWord.Up → IsNextAbove (stored s n) m found → told ≡ option_map is_value found →
    Follows (alternatives (value_word w) d) (Some (is_value m)) told
up-told s n d w m found told is has e next t = by-up w d m found told e (domain-is s n d is has) (subst (λ (x : List Span). IsNextAbove x m found) (stored-is s n d has) next) t

pub down-told : (s : State) (n : ℕ) (d : List Span) (w : ValueWord) (m : ℤ) (found : Option ℤ) (told : Option Alternative) → IsState s → domain_of s n ≡ Some d → w ≡ ValueWord.Down → IsNextBelow (stored s n) m found → told ≡ option_map is_value found →
    Follows (alternatives (value_word w) d) (Some (is_value m)) told
down-told s n d w m found told is has e next t = by-down w d m found told e (domain-is s n d is has) (subst (λ (x : List Span). IsNextBelow x m found) (stored-is s n d has) next) t
