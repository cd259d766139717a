-- How many values spans have.
use Rattle.std.specs.Prelude.{◌≡◌, ℕ, suc, ◌<◌, ◌+◌, ◌^◌, List, [], ◌∷◌, ◌++◌, length, take, drop, ℤ, pos, ◌+ℤ◌, neg_ℤ, ◌≤ℤ◌}
use Rattle.std.specs.Int.{int_gap}
use Rattle.std.proofs.Common.{arith, sym, ◌∙◌, ap, subst, get_or, take-append-drop}
use Rattle.std.proofs.lemmas.Int.{ints}
use Rattle.std.proofs.lemmas.List.{take_more}
use Rattle.pi_constraints.specs.declared.domain.TheConstants.{MAX_VALUE}
use Rattle.pi_constraints.specs.declared.domain.Span.{Span}
use Rattle.pi_constraints.specs.Domain.{AscendFrom, IsDomain, values_of, size_of}
use Rattle.pi_constraints.proofs.SpanLemmas.{AscendFrom-first}
use Rattle.pi_constraints.proofs.DomainLemmas.{gap_is}
use Rattle.pi_constraints.proofs.CommonLemmas.{size_of-cons}

pub size_of-push : (ss : List Span) (s : Span) → size_of (ss ++ s ∷ []) ≡ size_of ss + suc (int_gap s.lo s.hi)
size_of-push [] s = size_of-cons s [] ∙ omega arith
size_of-push (t ∷ ss) s =
    let left = size_of-cons t (ss ++ s ∷ []) in
    let right = size_of-cons t ss in
    let rest = size_of-push ss s in omega arith

pub size_of-take_more : (ss : List Span) (k : ℕ) (e : Span) → k < length ss → size_of (take (k + 1) ss) ≡ size_of (take k ss) + suc (int_gap (get_or ss k e).lo (get_or ss k e).hi)
size_of-take_more ss k e h = ap size_of (take_more ss k e h) ∙ size_of-push (take k ss) (get_or ss k e)

-- spans that ascend from a number on have no more values than there are from it to the greatest
pub size_of_bound : (least : ℤ) (ss : List Span) → least ≤ℤ (MAX_VALUE +ℤ pos 2) → AscendFrom least ss → (pos (size_of ss) +ℤ least) ≤ℤ (MAX_VALUE +ℤ pos 2)
unfolding AscendFrom values_of
size_of_bound least [] h up = omega (arith, ints)
size_of_bound least (s ∷ ss) h up =
    let rest = size_of_bound (s.hi +ℤ pos 2) ss (omega (arith, ints)) up.3 in
    let gap = gap_is s.lo s.hi up.1 in
    let whole = size_of-cons s ss in
    omega (arith, ints)

pub size_of-take_fits : (ss : List Span) (k : ℕ) → IsDomain ss → size_of (take k ss) < 2 ^ 64
size_of-take_fits ss k up =
    let front : IsDomain (take k ss) = AscendFrom-first (neg_ℤ MAX_VALUE) (take k ss) (drop k ss) (subst IsDomain (sym (take-append-drop k ss)) up) in
    let bound = size_of_bound (neg_ℤ MAX_VALUE) (take k ss) (omega (arith, ints)) front in
    omega (arith, ints)
