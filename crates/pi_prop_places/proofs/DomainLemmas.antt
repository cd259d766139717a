-- The ends of a domain as its first and its last span have them.
use Rattle.std.specs.Prelude.{◌≡◌, ℕ, zero, suc, ◌-◌, ◌<◌, List, [], ◌∷◌, length, get_or, slice_get, Some, None, false, ℤ, pos, refl}
use Rattle.std.proofs.Common.{arith, sym, ◌∙◌, ap, subst}
use Rattle.std.proofs.lemmas.Option.{slice_get_within, slice_get-get_or}
use Rattle.pi_constraints.specs.declared.domain.Span.{Span}
use Rattle.pi_constraints.specs.Domain.{AscendFrom, IsDomain, IsWithinBounds, has_value}
use Rattle.pi_constraints.proofs.DomainLemmas.{values_are_within_bounds}
use Rattle.pi_prop_spec.specs.Ends.{least_of, greatest_of}
use Rattle.pi_prop_spec.specs.Places.{domain_at}
use Rattle.pi_prop_spec.proofs.EndLemmas.{least-has, greatest-has}

some_there : (d : List Span) (k : ℕ) (s : Span) → slice_get d k ≡ Some s → d ≡ [] → ⊥
some_there [] k s e = λ n. absurd (cc)
some_there (t ∷ ss) k s e = λ n. absurd (cc)

first_is : (d : List Span) (s : Span) → slice_get d 0 ≡ Some s → s.lo ≡ least_of d
first_is [] s e = absurd (cc)
first_is (t ∷ ss) s e = let same : t ≡ s = cc in ap (λ (x : Span). x.lo) (sym same)

pub within_first : (d : List Span) (s : Span) → IsDomain d → slice_get d 0 ≡ Some s → IsWithinBounds s.lo
within_first d s up e = subst IsWithinBounds (sym (first_is d s e)) (values_are_within_bounds d (least_of d) up (least-has d up (some_there d 0 s e)))

last_at : (d : List Span) (k : ℕ) (s : Span) → suc k ≡ length d → slice_get d k ≡ Some s → s.hi ≡ greatest_of d
unfolding greatest_of
last_at [] k s c e = absurd (omega arith)
last_at (t ∷ []) zero s c e = let same : t ≡ s = cc in ap (λ (x : Span). x.hi) (sym same)
last_at (t ∷ []) (suc k) s c e = absurd (omega arith)
last_at (t ∷ u ∷ ss) zero s c e = absurd (omega arith)
last_at (t ∷ u ∷ ss) (suc k) s c e = last_at (u ∷ ss) k s (omega arith) e

pub last_is : (d : List Span) (s : Span) → slice_get d (length d - 1) ≡ Some s → s.hi ≡ greatest_of d
last_is d s e = let inside : length d - 1 < length d = slice_get_within d (length d - 1) s e in last_at d (length d - 1) s (omega arith) e

pub within_last : (d : List Span) (s : Span) → IsDomain d → slice_get d (length d - 1) ≡ Some s → IsWithinBounds s.hi
within_last d s up e = subst IsWithinBounds (sym (last_is d s e)) (values_are_within_bounds d (greatest_of d) up (greatest-has d up (some_there d (length d - 1) s e)))

pub nothing_greatest : (d : List Span) → slice_get d (length d - 1) ≡ None → pos 0 ≡ greatest_of d
unfolding greatest_of
nothing_greatest [] e = refl
nothing_greatest (t ∷ ss) e =
    let inside : length (t ∷ ss) - 1 < length (t ∷ ss) = omega arith in
    let some : slice_get (t ∷ ss) (length (t ∷ ss) - 1) ≡ Some (get_or (t ∷ ss) (length (t ∷ ss) - 1) t) = slice_get-get_or (t ∷ ss) (length (t ∷ ss) - 1) t inside in
    let clash : None ≡ Some (get_or (t ∷ ss) (length (t ∷ ss) - 1) t) = sym e ∙ some in
    absurd (cc)

-- ---- where there is no such place

pub nowhere : (ds : List (List Span)) (k : ℕ) → slice_get ds k ≡ None → domain_at ds k ≡ []
nowhere [] k e = refl
nowhere (d ∷ ds) zero e = absurd (cc)
nowhere (d ∷ ds) (suc k) e = nowhere ds k e

pub nowhere_least : (ds : List (List Span)) (k : ℕ) → slice_get ds k ≡ None → pos 0 ≡ least_of (domain_at ds k)
nowhere_least ds k e = ap least_of (sym (nowhere ds k e))

pub nowhere_greatest : (ds : List (List Span)) (k : ℕ) → slice_get ds k ≡ None → pos 0 ≡ greatest_of (domain_at ds k)
unfolding greatest_of
nowhere_greatest ds k e = ap greatest_of (sym (nowhere ds k e))

pub nowhere_has : (ds : List (List Span)) (k : ℕ) (n : ℤ) → slice_get ds k ≡ None → false ≡ has_value (domain_at ds k) n
unfolding has_value
nowhere_has ds k n e = ap (λ (d : List Span). has_value d n) (sym (nowhere ds k e))

pub nowhere_spans : (ds : List (List Span)) (k : ℕ) → slice_get ds k ≡ None → IsDomain (domain_at ds k)
unfolding AscendFrom
nowhere_spans ds k e = subst IsDomain (sym (nowhere ds k e)) tt
