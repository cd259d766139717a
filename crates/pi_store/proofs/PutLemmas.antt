-- What puts a constraint into the lists of its variables.
use Rattle.std.proofs.Common.{◌≡◌, ◌⊎◌, inl, inr, ℕ, zero, suc, ◌+◌, ◌≤◌, Bool, true, false, List, [], ◌∷◌, length, drop, ℤ, sym, subst, arith}
use Rattle.std.proofs.lemmas.List.{drop_all}
use Rattle.pi_constraints.specs.Constraint.{HoldsVariable, HoldVariable, SumHasVariable}
use Rattle.pi_constraints.specs.declared.constraint.Item.{Item}
use Rattle.pi_region.specs.Image.{Image}
use Rattle.pi_store_blocks.specs.NameTable.{NameTable}
use Rattle.pi_store.specs.Lists.{Leads, IsOnList}
use Rattle.pi_store.specs.Sound.{IsSound}
use Rattle.pi_store.specs.Added.{AddsToLists, IsAddedAlong, IsPutOn}
use Rattle.pi_store.proofs.AddLemmas.{Low, adds_none, adds_then}

-- One variable, and none

pub put_one : (i j : Image) (n k : ℕ) → IsAddedAlong i j k 0 n → IsPutOn (λ m. n ≡ m) i j k true
put_one i j n k a t s m v e leads =
    let some : 0 ≤ length i.region = omega arith in
    (a t s some v (subst (λ (u : ℕ). Leads i.variables u v) (sym e) leads)).number

pub put_nothing : (i j : Image) (k : ℕ) (n : ℤ) → IsPutOn (HoldsVariable (Item.Int n)) i j k true
put_nothing i j k n t s m v p leads = absurd p

-- One kind and then another

pub put_stops : (P Q : ℕ → Type 0) (i j : Image) (k : ℕ) → IsPutOn P i j k false → IsPutOn (λ n. P n ⊎ Q n) i j k false
put_stops P Q i j k p = (p.0, inl p.1, p.2)

not_made_then : (P : ℕ → Type 0) (i j l : Image) (k : ℕ) → AddsToLists i j → IsPutOn P j l k false → IsPutOn P i l k false
not_made_then P i j l k a p = (p.0, p.1, subst (λ (vs : List ℕ). length vs ≤ p.0) a.tables.variables p.2)

pub put_then : (P Q : ℕ → Type 0) (i j l : Image) (k : ℕ) (b : Bool) → AddsToLists i j → AddsToLists j l → IsPutOn P i j k true → IsPutOn Q j l k b → IsPutOn (λ n. P n ⊎ Q n) i l k b
put_then P Q i j l k true a d f g = λ t s n v either leads. elim either [
  | inl p ↦ d.lists t (a.sound t s) v k (f t s n v p leads)
  | inr q ↦ g t (a.sound t s) n v q (subst (λ (vs : List ℕ). Leads vs n v) (sym a.tables.variables) leads)
]
put_then P Q i j l k false a d f g = let p = not_made_then Q i j l k a g in (p.0, inr p.1, p.2)

-- A list of items or terms

-- so far: the constraint is in the lists of what leads from the first ones
pub record PutSoFar {X : Type 0} (F : List X → ℕ → Type 0) (xs : List X) (at : ℕ) (i j : Image) (k : ℕ) : Type 0 where
  pub adds : AddsToLists i j
  pub put : (t : NameTable) → IsSound t i → (n v : ℕ) → F xs n → Leads i.variables n v → IsOnList j v k ⊎ F (drop at xs) n

-- a variable stands in a list where it stands at the first place or behind it
pub record Parts {X : Type 0} (F : List X → ℕ → Type 0) (P : X → ℕ → Type 0) : Type 0 where
  pub none : (n : ℕ) → F [] n → ⊥
  pub split : (x : X) (xs : List X) (n : ℕ) → F (x ∷ xs) n → P x n ⊎ F xs n
  pub first : (x : X) (xs : List X) (n : ℕ) → P x n → F (x ∷ xs) n
  pub rest : (x : X) (xs : List X) (n : ℕ) → F xs n → F (x ∷ xs) n

pub of_items : Parts HoldVariable HoldsVariable
unfolding HoldVariable
of_items = record { none = λ n h. h; split = λ x xs n h. h; first = λ x xs n h. inl h; rest = λ x xs n h. inr h }

-- a term has this variable
abbrev pub TermHas : ℤ × ℕ → ℕ → Type 0
TermHas x n = x.1 ≡ n

pub of_terms : Parts SumHasVariable TermHas
unfolding SumHasVariable
of_terms = record { none = λ n h. h; split = λ x xs n h. h; first = λ x xs n h. inl h; rest = λ x xs n h. inr h }

module _ {X : Type 0} (F : List X → ℕ → Type 0) (P : X → ℕ → Type 0) (parts : Parts F P) where
  undrop : (at : ℕ) (xs : List X) (n : ℕ) → F (drop at xs) n → F xs n
  undrop zero xs n h = h
  undrop (suc at) [] n h = h
  undrop (suc at) (x ∷ xs) n h = parts.rest x xs n (undrop at xs n h)

  pub puts_start : (xs : List X) (i : Image) (k : ℕ) → Low i → PutSoFar F xs 0 i i k
  puts_start xs i k low = record { adds = adds_none i low; put = λ t s n v h leads. inr h }

  pub puts_more : (xs : List X) (at : ℕ) (x : X) (i j l : Image) (k : ℕ) → PutSoFar F xs at i j k → drop at xs ≡ x ∷ drop (at + 1) xs → AddsToLists j l → IsPutOn (P x) j l k true → PutSoFar F xs (at + 1) i l k
  puts_more xs at x i j l k so here a put = record {
    adds = adds_then i j l so.adds a;
    put = λ t s n v h leads. elim (so.put t s n v h leads) [
      | inl on ↦ inl (a.lists t (so.adds.sound t s) v k on)
      | inr left ↦ elim (parts.split x (drop (at + 1) xs) n (subst (λ ys. F ys n) here left)) [
        | inl p ↦ inl (put t (so.adds.sound t s) n v p (subst (λ (vs : List ℕ). Leads vs n v) (sym so.adds.tables.variables) leads))
        | inr more ↦ inr more
      ]
    ];
  }

  pub puts_stop : (xs : List X) (at : ℕ) (x : X) (i j l : Image) (k : ℕ) → PutSoFar F xs at i j k → drop at xs ≡ x ∷ drop (at + 1) xs → IsPutOn (P x) j l k false → IsPutOn (F xs) i l k false
  puts_stop xs at x i j l k so here put =
      let p = not_made_then (P x) i j l k so.adds put in
      (p.0, undrop at xs p.0 (subst (λ ys. F ys p.0) (sym here) (parts.first x (drop (at + 1) xs) p.0 p.1)), p.2)

  pub puts_end : (xs : List X) (at : ℕ) (i j : Image) (k : ℕ) → PutSoFar F xs at i j k → length xs ≤ at → IsPutOn (F xs) i j k true
  puts_end xs at i j k so le t s n v h leads = elim (so.put t s n v h leads) [
    | inl on ↦ on
    | inr left ↦ absurd (parts.none n (subst (λ ys. F ys n) (drop_all at xs le) left))
  ]
