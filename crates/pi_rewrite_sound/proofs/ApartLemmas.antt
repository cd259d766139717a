-- Helpers have names of their own: no two of them are one, and none is one of what stands in front.
use Rattle.std.proofs.Common.{◌≡◌, ℕ, suc, ◌<◌, Bool, List, [], ◌∷◌, ◌++◌, sym, ◌∙◌, subst, arith}
use Rattle.std.specs.Prelude.{All, AllPairs, Contains, IsSome}
use Rattle.std.proofs.lemmas.List.Elements.{All-nil, All-cons, All-weaker, All-contains_itself}
use Rattle.std.proofs.lemmas.List.Kept.{AllPairs-cons}
use Rattle.pi_core.specs.CoreTree.{PredTree, find_pred}
use Rattle.pi_meaning.specs.CoreMeaning.Sound.{IsAnother}
use Rattle.pi_rewrite_spec.specs.Programs.{Naming}
use Rattle.pi_rewrite_laws.proofs.NumberedLemmas.{IsHelper, NamedFrom}
use Rattle.pi_rewrite_sound.proofs.FoundLemmas.{found-among, pairs-append}

-- what stands in front has none of these names
abbrev pub Lacks : List PredTree → Naming → Type 0
Lacks front called = (kind : Bool) (n k : ℕ) → IsSome (find_pred kind (called n) k front) → ⊥

module _ (called : Naming) (apart : (i j : ℕ) → called i ≡ called j → i ≡ j) where
  others : (n m : ℕ) (p : PredTree) (ps : List PredTree) → n < m → IsHelper called n p → NamedFrom called m ps → All (IsAnother p) ps
  unfolding NamedFrom
  others n m p [] less is named = All-nil (IsAnother p)
  others n m p (q ∷ ps) less is named =
      All-cons (IsAnother p) q ps (λ same. absurd (let e : n ≡ m = apart n m (sym is.name ∙ same ∙ named.0.name) in omega (arith, e, less))) (others n (suc m) p ps (omega (arith, less)) is named.1)

  helpers-apart : (n : ℕ) (ps : List PredTree) → NamedFrom called n ps → AllPairs IsAnother ps
  unfolding NamedFrom
  helpers-apart n [] named = λ i j d below within. absurd (omega arith)
  helpers-apart n (p ∷ ps) named = AllPairs-cons IsAnother p ps (others n (suc n) p ps (omega arith) named.0 named.1) (helpers-apart (suc n) ps named.1)

  from-front : (front : List PredTree) → Lacks front called → (p : PredTree) → Contains front p → (n : ℕ) (ps : List PredTree) → NamedFrom called n ps → All (IsAnother p) ps
  unfolding NamedFrom
  from-front front lacks p there n [] named = All-nil (IsAnother p)
  from-front front lacks p there n (q ∷ ps) named =
      All-cons (IsAnother p) q ps (λ same long. lacks p.function n p.arity (subst (λ (m : List ℕ). IsSome (find_pred p.function m p.arity front)) (same ∙ named.0.name) (found-among front p there))) (from-front front lacks p there (suc n) ps named.1)

  pub apart-behind : (front ps : List PredTree) → AllPairs IsAnother front → Lacks front called → NamedFrom called 0 ps → AllPairs IsAnother (front ++ ps)
  apart-behind front ps one lacks named =
      pairs-append IsAnother front ps one (helpers-apart 0 ps named) (All-weaker (Contains front) (λ p. All (IsAnother p) ps) (λ p there. from-front front lacks p there 0 ps named) front (All-contains_itself front))
