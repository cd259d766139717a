-- How many values there are where some are lost, and lists of numbers that differ.
use Rattle.std.specs.Prelude.{◌≡◌, ◌≢◌, ◌⊎◌, ℕ, zero, suc, ◌+◌, ◌<◌, ◌≤◌, ℤ, ◌<ℤ◌, Bool, true, false, IsTrue, List, [], ◌∷◌, length, map, filter, AllPairs, Contains, sum_by, refl}
use Rattle.std.proofs.Common.{arith, sym, ◌∙◌, subst, inl, inr, get_or, set}
use Rattle.std.proofs.lemmas.Bool.{cases_Bool}
use Rattle.std.proofs.lemmas.Bool.Decides.{Decides-int_eq}
use Rattle.std.proofs.lemmas.Cmp.{int_eq_equiv}
use Rattle.std.proofs.lemmas.Int.{ints}
use Rattle.std.proofs.lemmas.List.{get_or-set_other, length-set}
use Rattle.std.proofs.lemmas.List.Elements.{Contains-get_or}
use Rattle.std.proofs.lemmas.List.Sums.{sum_by-set, sum_by-cons}
use Rattle.std.proofs.lemmas.Map.Made.{IsDistinct-from_AllPairs, is_member-Decides, length-le_from_is_member}
use Rattle.pi_constraints.specs.declared.domain.Span.{Span}
use Rattle.pi_constraints.specs.Domain.{IsDomain, has_value, values_of, size_of}
use Rattle.pi_constraints.proofs.DomainLemmas.{not_both, values_lie_in_spans, values_ascend, same_values_same_domain}

-- ---- sizes

distinct-within : (xs ys : List ℤ) → AllPairs (λ x y. x ≢ y) xs → ((i : ℤ) → Contains xs i → Contains ys i) → length xs ≤ length ys
distinct-within xs ys differ all =
    length-le_from_is_member int_eq_equiv xs ys (IsDistinct-from_AllPairs Decides-int_eq xs differ)
    (λ q h. (is_member-Decides Decides-int_eq ys q).1 (all q ((is_member-Decides Decides-int_eq xs q).0 h)))

values-differ : (d : List Span) → IsDomain d → AllPairs (λ x y. x ≢ y) (values_of d)
values-differ d up i j e l m =
    let less : get_or (values_of d) i e <ℤ get_or (values_of d) j e = values_ascend d up i j e l m in
    λ same. omega (arith, ints, same, less)

pub size-within : (d e : List Span) → IsDomain d → IsDomain e → ((i : ℤ) → IsTrue (has_value e i) → IsTrue (has_value d i)) → size_of e ≤ size_of d
size-within d e up vp within = distinct-within (values_of e) (values_of d) (values-differ e vp) (λ i h. (values_lie_in_spans d up i).0 (within i ((values_lie_in_spans e vp i).1 h)))

pub in-front : {X : Type 0} (x : X) (xs : List X) → Contains (x ∷ xs) x
in-front x xs = (0, omega arith, refl)

pub behind : {X : Type 0} (x y : X) (xs : List X) → Contains xs y → Contains (x ∷ xs) y
behind x y xs (k, l, e) = (suc k, omega arith, e)

pub front-or-behind : {X : Type 0} (x y : X) (xs : List X) → Contains (x ∷ xs) y → (x ≡ y) ⊎ Contains xs y
front-or-behind x y xs (zero, l, e) = inl e
front-or-behind x y xs (suc k, l, e) = inr (k, omega arith, e)

pub none-there : {X : Type 0} (x : X) → Contains [] x → ⊥
none-there x (k, l, e) = absurd (omega arith)

with-new : (v : ℤ) (xs : List ℤ) → AllPairs (λ x y. x ≢ y) xs → (Contains xs v → ⊥) → AllPairs (λ x y. x ≢ y) (v ∷ xs)
with-new v xs differ none zero zero d l m = absurd (omega arith)
with-new v xs differ none zero (suc j) d l m = λ same. none (subst (Contains xs) (sym same) (Contains-get_or xs j d (omega arith)))
with-new v xs differ none (suc i) zero d l m = absurd (omega arith)
with-new v xs differ none (suc i) (suc j) d l m = differ i j d (omega arith) (omega arith)

-- of values one isn't among others, or all are
one-lost : (e : List Span) (ns : List ℤ) → ((v : ℤ) × Contains ns v × (has_value e v ≡ false)) ⊎ ((v : ℤ) → Contains ns v → IsTrue (has_value e v))
one-lost e [] = inr (λ v h. absurd (none-there v h))
one-lost e (n ∷ ns) = elim (cases_Bool (has_value e n)) [
  | inl is ↦ elim (one-lost e ns) [
    | inl (v, h, lost) ↦ inl (v, behind n v ns h, lost)
    | inr all ↦ inr (λ v h. elim (front-or-behind n v ns h) [ inl same ↦ subst (λ (z : ℤ). IsTrue (has_value e z)) same is | inr b ↦ all v b ])
  ]
  | inr lost ↦ inl (n, in-front n ns, lost)
]

same-truth : (b c : Bool) → (IsTrue b → IsTrue c) → (IsTrue c → IsTrue b) → b ≡ c
same-truth true true f g = refl
same-truth true false f g = sym (f refl)
same-truth false true f g = g refl
same-truth false false f g = refl

-- a domain that lost a value has fewer
pub size-lost : (d e : List Span) (v : ℤ) → IsDomain d → IsDomain e → ((i : ℤ) → IsTrue (has_value e i) → IsTrue (has_value d i)) → IsTrue (has_value d v) → (IsTrue (has_value e v) → ⊥) → size_of e < size_of d
size-lost d e v up vp within has lost =
    let none : Contains (values_of e) v → ⊥ = λ c. lost ((values_lie_in_spans e vp v).1 c) in
    let more : length (v ∷ values_of e) ≤ length (values_of d) = distinct-within (v ∷ values_of e) (values_of d) (with-new v (values_of e) (values-differ e vp) none)
    (λ i c. elim (front-or-behind v i (values_of e) c) [ inl is ↦ subst (Contains (values_of d)) is ((values_lie_in_spans d up v).0 has) | inr b ↦ (values_lie_in_spans d up i).0 (within i ((values_lie_in_spans e vp i).1 b)) ]) in
    omega (arith, more)

-- a domain with no more values than another is that one, or lost a value
pub same-or-lost : (d e : List Span) → IsDomain d → IsDomain e → ((i : ℤ) → IsTrue (has_value e i) → IsTrue (has_value d i)) → (e ≡ d) ⊎ ((v : ℤ) × IsTrue (has_value d v) × (IsTrue (has_value e v) → ⊥))
same-or-lost d e up vp within = elim (one-lost e (values_of d)) [
  | inl (v, h, lost) ↦ inr (v, (values_lie_in_spans d up v).1 h, λ has. not_both (has_value e v) has lost)
  | inr all ↦ inl (same_values_same_domain e d vp up (λ i. same-truth (has_value e i) (has_value d i) (within i) (λ h. all i ((values_lie_in_spans d up i).0 h))))
]

-- ---- lists of numbers that differ

tail-differs : (j : ℕ) (js : List ℕ) → AllPairs (λ x y. x ≢ y) (j ∷ js) → AllPairs (λ x y. x ≢ y) js
tail-differs j js differ i k d l m = differ (suc i) (suc k) d (omega arith) (omega arith)

first-differs : (j k : ℕ) (js : List ℕ) → AllPairs (λ x y. x ≢ y) (j ∷ js) → Contains js k → j ≢ k
first-differs j k js differ (i, l, e) = λ same. differ 0 (suc i) k (omega arith) (omega arith) (same ∙ sym e)

abbrev same : ℕ → ℕ
same n = n

-- places that differ, at each of which a number isn't 0, are no more than the sum
pub marks-below : (js ns : List ℕ) → AllPairs (λ x y. x ≢ y) js → ((j : ℕ) → Contains js j → (j < length ns) × (1 ≤ get_or ns j 0)) → length js ≤ sum_by same ns
marks-below [] ns differ all = omega arith
marks-below (j ∷ js) ns differ all =
    let here = all j (in-front j js) in
    let without : sum_by same (set ns j 0) + get_or ns j 0 ≡ sum_by same ns + 0 = sum_by-set same ns j 0 0 here.0 in
    let rest : length js ≤ sum_by same (set ns j 0) = marks-below js (set ns j 0) (tail-differs j js differ) (λ k h.
    let there = all k (behind j k js h) in
    let other : k ≢ j = λ e. first-differs j k js differ h (sym e) in
    (subst (λ (m : ℕ). k < m) (sym (length-set ns j 0)) there.0, subst (λ (m : ℕ). 1 ≤ m) (sym (get_or-set_other ns j k 0 0 other)) there.1)) in
    omega (arith, here.1, without, rest)

-- ---- sums

pub sum-of-map : {X : Type 0} (f : X → ℕ) (xs : List X) → sum_by same (map f xs) ≡ sum_by f xs
sum-of-map f [] = refl
sum-of-map f (x ∷ xs) =
    let rest : sum_by same (map f xs) ≡ sum_by f xs = sum-of-map f xs in
    omega (arith, rest, sum_by-cons same (f x) (map f xs), sum_by-cons f x xs)

pub sum-of-both : {X : Type 0} (f g h : X → ℕ) (xs : List X) → ((x : X) → Contains xs x → f x ≡ g x + h x) → sum_by f xs ≡ sum_by g xs + sum_by h xs
sum-of-both f g h [] all = refl
sum-of-both f g h (x ∷ xs) all =
    let here : f x ≡ g x + h x = all x (in-front x xs) in
    let rest : sum_by f xs ≡ sum_by g xs + sum_by h xs = sum-of-both f g h xs (λ y c. all y (behind x y xs c)) in
    omega (arith, here, rest, sum_by-cons f x xs, sum_by-cons g x xs, sum_by-cons h x xs)

-- ---- filtered lists

pub from-filter : {X : Type 0} (p : X → Bool) (xs : List X) (x : X) → Contains (filter p xs) x → Contains xs x
from-filter p [] x h = h
from-filter p (y ∷ ys) x h = elim (cases_Bool (p y)) [
  | inl e ↦ elim (front-or-behind y x (filter p ys) (rw e at h)) [ inl is ↦ subst (λ z. Contains (y ∷ ys) z) is (in-front y ys) | inr b ↦ behind y x ys (from-filter p ys x b) ]
  | inr e ↦ behind y x ys (from-filter p ys x (rw e at h))
]

pub to-filter : {X : Type 0} (p : X → Bool) (xs : List X) (x : X) → Contains xs x → p x ≡ true → Contains (filter p xs) x
to-filter p [] x h e = h
to-filter p (y ∷ ys) x h e = elim (cases_Bool (p y)) [
  | inl is ↦ rw is (elim (front-or-behind y x ys h) [ inl same ↦ subst (λ z. Contains (y ∷ filter p ys) z) same (in-front y (filter p ys)) | inr b ↦ behind y x (filter p ys) (to-filter p ys x b e) ])
  | inr not ↦ rw not (elim (front-or-behind y x ys h) [ inl same ↦ absurd (let h : p y ≡ true = subst (λ z. p z ≡ true) (sym same) e in not_both (p y) h not) | inr b ↦ to-filter p ys x b e ])
]
