-- Questions about spans that are read by their numbers.
use Rattle.std.specs.Prelude.{◌≡◌, ◌↔◌, ℕ, ◌+◌, ◌<◌, ◌≤◌, Bool, true, false, IsTrue, List, [], ◌∷◌, ◌++◌, length, take, drop, slice_get, Some, ℤ, ◌≤ℤ◌, ◌<ℤ◌, int_le, int_lt}
use Rattle.std.specs.List.Sorted.{IsPartitionPoint}
use Rattle.std.proofs.Common.{arith, sym, ◌∙◌, ap, subst, get_or}
use Rattle.std.proofs.lemmas.Bool.{false≢true}
use Rattle.std.proofs.lemmas.Int.{by_lt_z}
use Rattle.std.proofs.lemmas.List.{take_more, take_all}
use Rattle.std.proofs.lemmas.Option.{get_or_from_slice_get}
use Rattle.pi_constraints.specs.declared.domain.Span.{Span}
use Rattle.pi_constraints.specs.Domain.{IsDomain}
use Rattle.pi_prop_places.proofs.SharedLemmas.{AreValuesOf, one_more}
use Rattle.pi_prop_spec.specs.Rules.{ShareAValue}
use Rattle.pi_prop_places.specs.Reads.{HasValueBetween}
use Rattle.pi_prop_places.proofs.RoundLemmas.{le_test, test_le}
use Rattle.pi_prop_places.proofs.AskLemmas.{SharedIn, shared_next, shared_turned, shared_here, between_found}

-- a span that is read is the one at its number
at-number : (ss : List Span) (k : ℕ) (s e : Span) → slice_get ss k ≡ Some s → get_or ss k e ≡ s
at-number ss k s e at = get_or_from_slice_get ss k s e at

pub not-before : (x y : ℤ) (t : Bool) → (IsTrue t ↔ (x <ℤ y)) → t ≡ false → y ≤ℤ x
not-before x y t is miss = by_lt_z x y (λ l. absurd (false≢true (sym miss ∙ is.1 l))) (λ m. m)

pub between-by : (ss : List Span) (at : ℕ) (lo hi : ℤ) (s : Span) (t : Bool) → IsDomain ss → IsPartitionPoint (λ x. int_lt x.hi lo ≡ true) (λ x. int_lt x.hi lo ≡ false) ss at → at < length ss → lo ≤ℤ hi → slice_get ss at ≡ Some s → (IsTrue t ↔ (s.lo ≤ℤ hi)) → IsTrue t ↔ HasValueBetween ss lo hi
between-by ss at lo hi s t up point inside order here is =
    let found = between_found ss at lo hi s up point inside order in
    let same : get_or ss at s ≡ s = at-number ss at s s here in (
      λ h. found.0 (subst (λ (x : Span). int_le x.lo hi ≡ true) (sym same) (le_test s.lo hi (is.0 h))),
      λ f. is.1 (test_le s.lo hi (subst (λ (x : Span). int_le x.lo hi ≡ true) same (found.1 f))),
    )

-- ---- values in common

pub shared-on : (d e : List Span) (i j : ℕ) (one other : Span) → IsDomain e → i < length d → j < length e → slice_get d i ≡ Some one → slice_get e j ≡ Some other → one.hi <ℤ other.lo → SharedIn d e (drop i d) (drop j e) → SharedIn d e (drop (i + 1) d) (drop j e)
shared-on d e i j one other up hi hj at bt l h =
    shared_next d e i j one up hi hj (subst (λ (x : Span). x.hi <ℤ (get_or e j one).lo) (sym (at-number d i one one at)) (subst (λ (y : Span). one.hi <ℤ y.lo) (sym (at-number e j other one bt)) l)) h

pub shared-off : (d e : List Span) (i j : ℕ) (one other : Span) → IsDomain d → i < length d → j < length e → slice_get d i ≡ Some one → slice_get e j ≡ Some other → other.hi <ℤ one.lo → SharedIn d e (drop i d) (drop j e) → SharedIn d e (drop i d) (drop (j + 1) e)
shared-off d e i j one other up hi hj at bt l h =
    shared_turned e d (drop (j + 1) e) (drop i d) (shared-on e d j i other one up hj hi bt at l (shared_turned d e (drop i d) (drop j e) h))

pub shared-both : (d e : List Span) (i j : ℕ) (one other : Span) → IsDomain d → IsDomain e → i < length d → j < length e → slice_get d i ≡ Some one → slice_get e j ≡ Some other → other.lo ≤ℤ one.hi → one.lo ≤ℤ other.hi → ShareAValue d e
shared-both d e i j one other up vp hi hj at bt l m =
    shared_here d e i j one up vp hi hj
    (subst (λ (x : Span). (get_or e j one).lo ≤ℤ x.hi) (sym (at-number d i one one at)) (subst (λ (y : Span). y.lo ≤ℤ one.hi) (sym (at-number e j other one bt)) l))
    (subst (λ (x : Span). x.lo ≤ℤ (get_or e j one).hi) (sym (at-number d i one one at)) (subst (λ (y : Span). one.lo ≤ℤ y.hi) (sym (at-number e j other one bt)) m))

-- ---- spans that lie within others

pub one-within : (spans others : List Span) (i j : ℕ) (e span : Span) → i < length spans → j < length others → slice_get spans i ≡ Some span → (get_or others j e).lo ≤ℤ span.lo → span.hi ≤ℤ (get_or others j e).hi → AreValuesOf (take i spans) others → AreValuesOf (take (i + 1) spans) others
one-within spans others i j e span l k at low high all =
    one_more spans others i j e l k (subst (λ (x : Span). (get_or others j e).lo ≤ℤ x.lo) (sym (at-number spans i span e at)) low) (subst (λ (x : Span). x.hi ≤ℤ (get_or others j e).hi) (sym (at-number spans i span e at)) high) all

-- ---- the same spans

pub same-more : (d e : List Span) (k : ℕ) (s t : Span) → length d ≡ length e → k < length d → slice_get d k ≡ Some s → slice_get e k ≡ Some t → s ≡ t → take k d ≡ take k e → take (k + 1) d ≡ take (k + 1) e
same-more d e k s t many l at bt same h =
    take_more d k s l ∙ (ap (λ (x : Span). take k d ++ x ∷ []) (at-number d k s s at ∙ (same ∙ sym (at-number e k t s bt))) ∙ (ap (λ xs. xs ++ get_or e k s ∷ []) h ∙ sym (take_more e k s (omega (arith, many, l)))))

pub same-all : (d e : List Span) (k : ℕ) → length d ≡ length e → length d ≤ k → take k d ≡ take k e → d ≡ e
same-all d e k many l h = sym (take_all k d l) ∙ (h ∙ take_all k e (omega (arith, many, l)))

-- ---- a copy

pub domain-copied : (d old made : List Span) → old ≡ [] → made ≡ old ++ d → IsDomain d → IsDomain made
domain-copied d old made none is up = subst IsDomain (sym (is ∙ ap (λ xs. xs ++ d) none)) up
