-- Literals of which each stands before all that follow, and those that domains allow.
use Rattle.std.specs.Prelude.{◌≡◌, ℕ, zero, suc, ◌+◌, ◌<◌, Bool, true, false, List, [], ◌∷◌, ◌++◌, length, get_or, filter, All, refl}
use Rattle.std.proofs.Common.{arith, sym, ◌∙◌, subst, inl, inr}
use Rattle.std.proofs.lemmas.Bool.{cases_Bool}
use Rattle.std.proofs.lemmas.List.Elements.{All-nil, All-cons, All-head, All-tail}
use Rattle.pi_sat_spec.specs.declared.literal.Literal.{Literal}
use Rattle.pi_sat_spec.specs.Literals.{Precedes, Ascends}
use Rattle.pi_sat_search.specs.Nodes.{Sorted}

-- ---- all of a list, and one more

pub All-push : {X : Type 0} (P : X → Type 0) (xs : List X) (y : X) → All P xs → P y → All P (xs ++ y ∷ [])
All-push P [] y h p = All-cons P y [] p (All-nil P)
All-push P (x ∷ xs) y h p = All-cons P x (xs ++ y ∷ []) (All-head P x xs h) (All-push P xs y (All-tail P x xs h) p)

pub All-base : {X : Type 0} (P : X → Type 0) (xs : List X) (y : X) → All P (xs ++ y ∷ []) → All P xs
All-base P [] y h = All-nil P
All-base P (x ∷ xs) y h = All-cons P x xs (All-head P x (xs ++ y ∷ []) h) (All-base P xs y (All-tail P x (xs ++ y ∷ []) h))

pub All-last : {X : Type 0} (P : X → Type 0) (xs : List X) (y : X) → All P (xs ++ y ∷ []) → P y
All-last P [] y h = All-head P y [] h
All-last P (x ∷ xs) y h = All-last P xs y (All-tail P x (xs ++ y ∷ []) h)

pub All-more : {X : Type 0} (P Q : X → Type 0) (xs : List X) → ((x : X) → P x → Q x) → All P xs → All Q xs
All-more P Q [] f h = All-nil Q
All-more P Q (x ∷ xs) f h = All-cons Q x xs (f x (All-head P x xs h)) (All-more P Q xs f (All-tail P x xs h))

-- ---- sorted literals

pub precedes-then : (l m n : Literal) → Precedes l m → Precedes m n → Precedes l n
precedes-then l m n (inl a) (inl b) = inl (omega (arith, a, b))
precedes-then l m n (inl a) (inr b) = inl (let e = b.0 in omega (arith, a, e))
precedes-then l m n (inr a) (inl b) = inl (let e = a.0 in omega (arith, b, e))
precedes-then l m n (inr a) (inr b) = absurd (let e : true ≡ false = sym a.2 ∙ b.1 in cc)

next : (k : ℕ) → suc k + 1 ≡ suc (k + 1)
next k = omega arith

ascends-rest : (l : Literal) (ls : List Literal) → Ascends (l ∷ ls) → Ascends ls
ascends-rest l ls h = λ k other lt.
    subst (λ (n : ℕ). Precedes (get_or ls k other) (get_or (l ∷ ls) n other)) (next k) (h (suc k) other (omega (arith, lt)))

first-precedes : (l : Literal) (ls : List Literal) → Ascends (l ∷ ls) → All (Precedes l) ls
first-precedes l [] h = All-nil (Precedes l)
first-precedes l (m ∷ ls) h =
    let here : Precedes l m = h 0 l (omega arith) in
    All-cons (Precedes l) m ls here (All-more (Precedes m) (Precedes l) ls (λ n p. precedes-then l m n here p) (first-precedes m ls (ascends-rest l (m ∷ ls) h)))

pub ascends-sorted : (ls : List Literal) → Ascends ls → Sorted ls
unfolding Sorted
ascends-sorted [] h = tt
ascends-sorted (l ∷ ls) h = (first-precedes l ls h, ascends-sorted ls (ascends-rest l ls h))

pub sorted-ascends : (ls : List Literal) → Sorted ls → Ascends ls
unfolding Sorted
sorted-ascends [] h = λ k other lt. absurd (omega (arith, lt))
sorted-ascends (l ∷ []) h = λ k other lt. absurd (omega (arith, lt))
sorted-ascends (l ∷ m ∷ ls) h = λ k other lt. by-place l m ls h (sorted-ascends (m ∷ ls) h.1) k other lt
  where
    by-place : (i j : Literal) (ms : List Literal) → Sorted (i ∷ j ∷ ms) → Ascends (j ∷ ms) → (k : ℕ) (other : Literal) → k + 1 < length (i ∷ j ∷ ms) →
        Precedes (get_or (i ∷ j ∷ ms) k other) (get_or (i ∷ j ∷ ms) (k + 1) other)
    by-place i j ms s a zero other lt = s.0 0 other (omega arith)
    by-place i j ms s a (suc k) other lt = subst (λ (n : ℕ). Precedes (get_or (j ∷ ms) k other) (get_or (i ∷ j ∷ ms) n other)) (sym (next k)) (a k other (omega (arith, lt)))

pub sorted-push : (ls : List Literal) (l : Literal) → Sorted ls → All (λ m. Precedes m l) ls → Sorted (ls ++ l ∷ [])
unfolding Sorted
sorted-push [] l s h = (All-nil (Precedes l), tt)
sorted-push (m ∷ ls) l s h =
    (All-push (Precedes m) ls l s.0 (All-head (λ n. Precedes n l) m ls h), sorted-push ls l s.1 (All-tail (λ n. Precedes n l) m ls h))

pub sorted-base : (ls : List Literal) (l : Literal) → Sorted (ls ++ l ∷ []) → Sorted ls × All (λ m. Precedes m l) ls
unfolding Sorted
sorted-base [] l s = (tt, All-nil (λ m. Precedes m l))
sorted-base (m ∷ ls) l s =
    let rest = sorted-base ls l s.1 in
    ((All-base (Precedes m) ls l s.0, rest.0), All-cons (λ n. Precedes n l) m ls (All-last (Precedes m) ls l s.0) rest.1)

-- ---- those that pass a test

pub none-pass : {X : Type 0} (test : X → Bool) (xs : List X) → filter test xs ≡ [] → All (λ x. test x ≡ false) xs
none-pass test [] e = All-nil (λ x. test x ≡ false)
none-pass test (x ∷ xs) e = elim (cases_Bool (test x)) [
  | inl t ↦ absurd (let f : x ∷ filter test xs ≡ [] = rw t at e in cc)
  | inr t ↦ let f : filter test xs ≡ [] = rw t at e in All-cons (λ y. test y ≡ false) x xs t (none-pass test xs f)
]

pub pass-none : {X : Type 0} (test : X → Bool) (xs : List X) → All (λ x. test x ≡ false) xs → filter test xs ≡ []
pass-none test [] h = refl
pass-none test (x ∷ xs) h = let t : test x ≡ false = All-head (λ y. test y ≡ false) x xs h in rw t (pass-none test xs (All-tail (λ y. test y ≡ false) x xs h))

pub All-pass : {X : Type 0} (test : X → Bool) (P : X → Type 0) (xs : List X) → All (λ x. test x ≡ true → P x) xs → All P (filter test xs)
All-pass test P [] h = All-nil P
All-pass test P (x ∷ xs) h = elim (cases_Bool (test x)) [
  | inl t ↦ rw t (All-cons P x (filter test xs) (All-head (λ y. test y ≡ true → P y) x xs h t) (All-pass test P xs (All-tail (λ y. test y ≡ true → P y) x xs h)))
  | inr t ↦ rw t (All-pass test P xs (All-tail (λ y. test y ≡ true → P y) x xs h))
]

pub All-filter : {X : Type 0} (test : X → Bool) (P : X → Type 0) (xs : List X) → All P xs → All P (filter test xs)
All-filter test P xs h = All-pass test P xs (All-more P (λ x. test x ≡ true → P x) xs (λ x p t. p) h)

pub sorted-filter : (test : Literal → Bool) (ls : List Literal) → Sorted ls → Sorted (filter test ls)
unfolding Sorted
sorted-filter test [] s = tt
sorted-filter test (l ∷ ls) s = elim (cases_Bool (test l)) [
  | inl t ↦ rw t (All-filter test (Precedes l) ls s.0, sorted-filter test ls s.1)
  | inr t ↦ rw t (sorted-filter test ls s.1)
]

-- sorted literals of one variable, all `above`, are one at most
pub one-at-most : (n : ℕ) (l m : Literal) (ls : List Literal) → Sorted (l ∷ m ∷ ls) → l.var ≡ n → m.var ≡ n → l.above ≡ true → ⊥
unfolding Sorted
one-at-most n l m ls s e f above = elim (All-head (Precedes l) m ls s.0) [
  | inl less ↦ omega (arith, less, e, f)
  | inr same ↦ let g : true ≡ false = sym above ∙ same.1 in cc
]
