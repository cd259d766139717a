-- Regions: what a write to a cell, or a shorter length, does to the words.
use Rattle.std.proofs.Common.{◌≡◌, ℕ, zero, suc, ◌+◌, ◌<◌, ◌≤◌, List, [], ◌∷◌, ◌++◌, length, take, map, refl, sym, ap, subst, ◌∙◌, arith}
use Rattle.std.proofs.Math.ListN.{get_or, set}
use Rattle.std.proofs.Math.Nat.{eq-or-lt_of_le}
use Rattle.std.proofs.Math.Seq.{take-set-lt}
use Rattle.std.proofs.lemmas.List.{get_or-set_same, get_or-take, length-map, length-set, length-take, map-append, map-set, take_more, take_more_set, take-take}
use Rattle.std.specs.List.{take-map}
use Rattle.std.proofs.Math.Logic.{inl, inr}
use Rattle.std.specs.Prelude.{Option, Some, None, ◌⊎◌}
use Rattle.pi_region.specs.Ownership.{IsWritten}
use Rattle.pi_region.specs.Words.{word_of, written, AreWritten}

pub written-push : (n : ℕ) (cs : List (Option ℕ)) (w : ℕ) → n < length cs → written (n + 1) (set cs n (Some w)) ≡ written n cs ++ w ∷ []
written-push n cs w lt = ap (map word_of) (take_more_set cs n (Some w) lt) ∙ map-append word_of (take n cs) (Some w ∷ [])

pub written-set : (n : ℕ) (cs : List (Option ℕ)) (i w : ℕ) → i < n → written n (set cs i (Some w)) ≡ set (written n cs) i w
written-set n cs i w lt = ap (map word_of) (take-set-lt n cs i (Some w) lt) ∙ map-set word_of (take n cs) i (Some w)

pub written-take : (n m : ℕ) (cs : List (Option ℕ)) → n ≤ m → written n cs ≡ take n (written m cs)
written-take n m cs le = ap (map word_of) (sym (take-take n m cs le)) ∙ sym (take-map word_of n (take m cs))

pub length-written : (n : ℕ) (cs : List (Option ℕ)) → n ≤ length cs → length (written n cs) ≡ n
length-written n cs le = omega (arith, length-map (take n cs) word_of, length-take n cs)

-- what is written stays so after a write
IsWritten-set : (cs : List (Option ℕ)) (i w j : ℕ) → IsWritten cs j → IsWritten (set cs i (Some w)) j
IsWritten-set [] i w j h = h
IsWritten-set (c ∷ cs) zero w zero h = (w, refl)
IsWritten-set (c ∷ cs) zero w (suc j) h = h
IsWritten-set (c ∷ cs) (suc i) w zero h = h
IsWritten-set (c ∷ cs) (suc i) w (suc j) h = IsWritten-set cs i w j h

pub AreWritten-set : (n : ℕ) (cs : List (Option ℕ)) (i w : ℕ) → AreWritten n cs → AreWritten n (set cs i (Some w))
AreWritten-set n cs i w all = (subst (λ (k : ℕ). n ≤ k) (sym (length-set cs i (Some w))) all.0, λ j lt. IsWritten-set cs i w j (all.1 j lt))

pub AreWritten-push : (n : ℕ) (cs : List (Option ℕ)) (w : ℕ) → AreWritten n cs → n < length cs → AreWritten (n + 1) (set cs n (Some w))
AreWritten-push n cs w all lt =
    (subst (λ (k : ℕ). n + 1 ≤ k) (sym (length-set cs n (Some w))) (omega arith), λ j le. at j (eq-or-lt_of_le {n = j} {m = n} (omega arith)))
  where
    at : (j : ℕ) → (j ≡ n) ⊎ (j < n) → IsWritten (set cs n (Some w)) j
    at j (inl e) = subst (λ (k : ℕ). IsWritten (set cs n (Some w)) k) (sym e) (w, get_or-set_same cs n (Some w) None lt)
    at j (inr less) = IsWritten-set cs n w j (all.1 j less)

pub AreWritten-take : (n m : ℕ) (cs : List (Option ℕ)) → n ≤ m → AreWritten m cs → AreWritten n cs
AreWritten-take n m cs le all = (omega (arith, all.0), λ j lt. all.1 j (omega arith))

-- cells that begin alike hold the same first words
pub AreWritten-front : (n : ℕ) (to from : List (Option ℕ)) → take n to ≡ take n from → n ≤ length to → AreWritten n from → AreWritten n to
AreWritten-front n to from same le all =
    (le, λ i lt. ((all.1 i lt).0, sym (get_or-take n to i None lt) ∙ ap (λ (cs : List (Option ℕ)). get_or cs i None) same ∙ get_or-take n from i None lt ∙ (all.1 i lt).1))

-- one more cell is copied
pub copied-more : (to from : List (Option ℕ)) (i : ℕ) (c : Option ℕ) → take i to ≡ take i from → i < length to → i < length from → get_or from i None ≡ c
    → take (i + 1) (set to i c) ≡ take (i + 1) from
copied-more to from i c same lt lt' e =
    take_more_set to i c lt ∙ ap (λ (cs : List (Option ℕ)). cs ++ c ∷ []) same ∙ ap (λ (d : Option ℕ). take i from ++ d ∷ []) (sym e) ∙ sym (take_more from i None lt')
