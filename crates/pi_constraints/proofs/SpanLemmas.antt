-- Spans that ascend, and what they have.
use Rattle.std.specs.Prelude.{◌≡◌, ℕ, zero, suc, false, ◌||◌, List, [], ◌∷◌, ◌++◌, ℤ, pos, ◌+ℤ◌, ◌≤ℤ◌, ◌<ℤ◌, refl, drop}
use Rattle.std.proofs.Common.{arith}
use Rattle.std.proofs.lemmas.Int.{ints}
use Rattle.pi_constraints.specs.declared.domain.TheConstants.{MAX_VALUE}
use Rattle.pi_constraints.specs.declared.domain.Span.{Span}
use Rattle.pi_constraints.specs.Domain.{AscendFrom, span_has, has_value}

-- spans that ascend from a number on ascend from a lower one on
pub AscendFrom-lower : (low least : ℤ) (ss : List Span) → low ≤ℤ least → AscendFrom least ss → AscendFrom low ss
unfolding AscendFrom
AscendFrom-lower low least [] h up = tt
AscendFrom-lower low least (s ∷ ss) h up = (omega (arith, ints), up.1, up.2, up.3)

-- those behind the first ascend from the same number on
pub AscendFrom-tail : (least : ℤ) (s : Span) (ss : List Span) → AscendFrom least (s ∷ ss) → AscendFrom least ss
unfolding AscendFrom
AscendFrom-tail least s ss up = AscendFrom-lower least (s.hi +ℤ pos 2) ss (omega (arith, ints)) up.3

pub AscendFrom-drop : (least : ℤ) (k : ℕ) (ss : List Span) → AscendFrom least ss → AscendFrom least (drop k ss)
AscendFrom-drop least zero ss up = up
AscendFrom-drop least (suc k) [] up = up
AscendFrom-drop least (suc k) (s ∷ ss) up = AscendFrom-drop least k ss (AscendFrom-tail least s ss up)

-- below the number from which they ascend there is no value
pub has_value-below : (least : ℤ) (ss : List Span) (n : ℤ) → AscendFrom least ss → n <ℤ least → has_value ss n ≡ false
unfolding AscendFrom has_value
has_value-below least [] n up h = refl
has_value-below least (s ∷ ss) n up h =
    let outside : span_has s n ≡ false = grind (arith, ints) in
    let rest : has_value ss n ≡ false = has_value-below (s.hi +ℤ pos 2) ss n up.3 (omega (arith, ints)) in
    grind (arith, outside, rest)

-- above the bounds there is none either
pub has_value-above : (least : ℤ) (ss : List Span) (n : ℤ) → AscendFrom least ss → MAX_VALUE <ℤ n → has_value ss n ≡ false
unfolding AscendFrom has_value
has_value-above least [] n up h = refl
has_value-above least (s ∷ ss) n up h =
    let outside : span_has s n ≡ false = grind (arith, ints) in
    let rest : has_value ss n ≡ false = has_value-above (s.hi +ℤ pos 2) ss n up.3 h in
    grind (arith, outside, rest)

pub has_value-append : (ss ts : List Span) (n : ℤ) → has_value (ss ++ ts) n ≡ (has_value ss n || has_value ts n)
unfolding has_value
has_value-append [] ts n = refl
has_value-append (s ∷ ss) ts n = let rest : has_value (ss ++ ts) n ≡ (has_value ss n || has_value ts n) = has_value-append ss ts n in grind (arith, rest)

-- where a further span may begin
unfoldable pub next_start : ℤ → List Span → ℤ
next_start least [] = least
next_start least (s ∷ ss) = next_start (s.hi +ℤ pos 2) ss

pub next_start-push : (least : ℤ) (ss : List Span) (s : Span) → next_start least (ss ++ s ∷ []) ≡ s.hi +ℤ pos 2
unfolding next_start
next_start-push least [] s = refl
next_start-push least (t ∷ ss) s = next_start-push (t.hi +ℤ pos 2) ss s

pub AscendFrom-append : (least : ℤ) (ss ts : List Span) → AscendFrom least ss → AscendFrom (next_start least ss) ts → AscendFrom least (ss ++ ts)
unfolding AscendFrom next_start
AscendFrom-append least [] ts up more = more
AscendFrom-append least (s ∷ ss) ts up more = (up.0, up.1, up.2, AscendFrom-append (s.hi +ℤ pos 2) ss ts up.3 more)

pub AscendFrom-last : (least : ℤ) (ss ts : List Span) → AscendFrom least (ss ++ ts) → AscendFrom (next_start least ss) ts
unfolding AscendFrom next_start
AscendFrom-last least [] ts up = up
AscendFrom-last least (s ∷ ss) ts up = AscendFrom-last (s.hi +ℤ pos 2) ss ts up.3

pub AscendFrom-first : (least : ℤ) (ss ts : List Span) → AscendFrom least (ss ++ ts) → AscendFrom least ss
unfolding AscendFrom next_start
AscendFrom-first least [] ts up = tt
AscendFrom-first least (s ∷ ss) ts up = (up.0, up.1, up.2, AscendFrom-first (s.hi +ℤ pos 2) ss ts up.3)

pub next_start-append : (least : ℤ) (ss ts : List Span) → next_start least (ss ++ ts) ≡ next_start (next_start least ss) ts
unfolding next_start
next_start-append least [] ts = refl
next_start-append least (s ∷ ss) ts = next_start-append (s.hi +ℤ pos 2) ss ts

pub next_start-grows : (least : ℤ) (ss : List Span) → AscendFrom least ss → least ≤ℤ next_start least ss
unfolding AscendFrom next_start
next_start-grows least [] up = omega (arith, ints)
next_start-grows least (s ∷ ss) up = let more = next_start-grows (s.hi +ℤ pos 2) ss up.3 in omega (arith, ints)

-- from the place on where a further span may begin, and one below it, there is no value
pub has_value-past : (least : ℤ) (ss : List Span) (n : ℤ) → AscendFrom least ss → next_start least ss ≤ℤ (n +ℤ pos 1) → has_value ss n ≡ false
unfolding AscendFrom next_start has_value
has_value-past least [] n up h = refl
has_value-past least (s ∷ ss) n up h =
    let grows = next_start-grows (s.hi +ℤ pos 2) ss up.3 in
    let outside : span_has s n ≡ false = grind (arith, ints) in
    let rest : has_value ss n ≡ false = has_value-past (s.hi +ℤ pos 2) ss n up.3 h in
    grind (arith, outside, rest)
