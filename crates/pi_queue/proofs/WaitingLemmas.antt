-- Numbers that are put behind others.
use Rattle.std.specs.Prelude.{◌≡◌, ◌≢◌, ◌⊎◌, ℕ, zero, suc, ◌+◌, ◌<◌, ◌≤◌, true, false, IsTrue, List, [], ◌∷◌, ◌++◌, length, AllPairs, Contains, refl}
use Rattle.std.proofs.Common.{arith, sym, ◌∙◌, ap, subst, inl, inr, get_or, take, append_assoc, length-append, add-one}
use Rattle.std.proofs.lemmas.List.{append-nil, take_all, take_more, get_or-take, length-take, get_or_default}
use Rattle.std.proofs.lemmas.List.Elements.{Contains-append_left, Contains-append_right, Contains-append_cases, Contains-push, Contains-push_cases, Contains-get_or}
use Rattle.pi_constraints.specs.Store.{Lists}
use Rattle.pi_constraints.proofs.StateLemmas.{same_or_not}
use Rattle.pi_settling.proofs.SizeLemmas.{in-front, behind, front-or-behind, none-there}
use Rattle.std.specs.declared.cmp.Ordering.{Ordering}
use Rattle.std.specs.declared.cmp.Ordering.TheVariants.{Less, Equal, Greater}
use Rattle.std.specs.Ordering.{MatchOrdering, is_eq, nat_cmp}
use Rattle.std.specs.List.{list_any}
use Rattle.std.specs.BTreeSet.{BTreeSet, contains, Updates, UpdatesBy}
use Rattle.std.proofs.lemmas.Bool.{cases_Bool}
use Rattle.std.proofs.lemmas.Cmp.{ranked}
use Rattle.pi_queue.specs.Waiting.{IsKept, AreAdded}
use Rattle.pi_queue.specs.Ends.{numbers_below}

-- ---- a number is among others, or isn't

pub there-or-not : (xs : List ℕ) (i : ℕ) → Contains xs i ⊎ (Contains xs i → ⊥)
there-or-not [] i = inr (none-there i)
there-or-not (x ∷ xs) i = elim (same_or_not x i) [
  | inl same ↦ inl (0, omega arith, same)
  | inr other ↦ elim (there-or-not xs i) [
    | inl there ↦ inl (behind x i xs there)
    | inr none ↦ inr (λ h. elim (front-or-behind x i xs h) [ inl same ↦ other same | inr later ↦ none later ])
  ]
]

-- ---- numbers that differ

abbrev pub Differ : List ℕ → Type 0
Differ xs = AllPairs (λ i j. i ≢ j) xs

pub none-differ : Differ []
none-differ i j d l m = absurd (omega arith)

front-differs : (v : ℕ) (xs : List ℕ) → Differ xs → (Contains xs v → ⊥) → Differ (v ∷ xs)
front-differs v xs differ none zero zero d l m = absurd (omega arith)
front-differs v xs differ none zero (suc j) d l m = λ same. none (subst (Contains xs) (sym same) (Contains-get_or xs j d (omega arith)))
front-differs v xs differ none (suc i) zero d l m = absurd (omega arith)
front-differs v xs differ none (suc i) (suc j) d l m = differ i j d (omega arith) (omega arith)

rest-differs : (v : ℕ) (xs : List ℕ) → Differ (v ∷ xs) → Differ xs
rest-differs v xs differ i j d l m = differ (suc i) (suc j) d (omega arith) (omega arith)

front-not-behind : (v : ℕ) (xs : List ℕ) → Differ (v ∷ xs) → Contains xs v → ⊥
front-not-behind v xs differ (k, l, e) = differ 0 (suc k) v (omega arith) (omega arith) (sym e)

pub both-differ : (xs ys : List ℕ) → Differ xs → Differ ys → ((i : ℕ) → Contains xs i → Contains ys i → ⊥) → Differ (xs ++ ys)
both-differ [] ys first second apart = second
both-differ (x ∷ xs) ys first second apart =
    front-differs x (xs ++ ys) (both-differ xs ys (rest-differs x xs first) second (λ i a b. apart i (behind x i xs a) b))
    (λ h. elim (Contains-append_cases xs ys x h) [ inl a ↦ front-not-behind x xs first a | inr b ↦ apart x (in-front x xs) b ])

pub one-differs : (i : ℕ) → Differ (i ∷ [])
one-differs i = front-differs i [] none-differ (none-there i)

pub only-one : (i j : ℕ) → Contains (i ∷ []) j → j ≡ i
only-one i j h = elim (front-or-behind i j [] h) [ inl same ↦ sym same | inr later ↦ absurd (none-there j later) ]

-- of numbers that differ none stands among those before it
pub not-before : (ns : List ℕ) (k : ℕ) → Differ ns → k < length ns → Contains (take k ns) (get_or ns k 0) → ⊥
not-before ns k differ l (j, m, e) =
    let short : length (take k ns) ≤ k = omega (arith, length-take k ns) in
    let inside : j < k = omega arith in
    let same : get_or ns j (get_or ns k 0) ≡ get_or ns k 0 = sym (get_or-take k ns j (get_or ns k 0) inside) ∙ e in
    let there : get_or ns k (get_or ns k 0) ≡ get_or ns k 0 = get_or_default ns k (get_or ns k 0) 0 l in
    differ j k (get_or ns k 0) inside l (same ∙ sym there)

-- ---- a queue with its set

equal-tells : (r : Ordering) (A B C : Type 0) → MatchOrdering r A B C → is_eq r ≡ true → B
equal-tells Less A B C h e = absurd (cc)
equal-tells Equal A B C h e = h
equal-tells Greater A B C h e = absurd (cc)

same-number : (i j : ℕ) → is_eq (nat_cmp i j) ≡ true → i ≡ j
same-number i j e = equal-tells (nat_cmp i j) (i < j) (i ≡ j) (j < i) (ranked i j (nat_cmp i j) refl) e

pub kept-by : (queue now : List ℕ) (s n : BTreeSet ℕ) → IsKept queue (contains nat_cmp s) → now ≡ queue → n.keys ≡ s.keys → IsKept now (contains nat_cmp n)
kept-by queue now s n kept is keys =
    subst (λ (q : List ℕ). IsKept q (contains nat_cmp n)) (sym is) (record {
      different = kept.different;
      same = λ i.
          let one : contains nat_cmp n i ≡ contains nat_cmp s i = ap (λ (ks : List ℕ). list_any (λ k. is_eq (nat_cmp i k)) ks) keys in
          (λ h. (kept.same i).0 (sym one ∙ h), λ h. one ∙ (kept.same i).1 h);
    })

pub kept-put : (queue now : List ℕ) (s n : BTreeSet ℕ) (i : ℕ) → IsKept queue (contains nat_cmp s) → (Contains queue i → ⊥) → now ≡ queue ++ i ∷ [] → Updates nat_cmp s n i true → IsKept now (contains nat_cmp n)
kept-put queue now s n i kept none is u =
    subst (λ (q : List ℕ). IsKept q (contains nat_cmp n)) (sym is) (record {
      different = both-differ queue (i ∷ []) kept.different (one-differs i) (λ j a b. none (subst (Contains queue) (only-one i j b) a));
      same = λ j. elim (cases_Bool (is_eq (nat_cmp i j))) [
        | inl hit ↦
            let same : i ≡ j = same-number i j hit in
            (λ h. subst (Contains (queue ++ i ∷ [])) same (Contains-push queue i), λ h. subst (λ (m : ℕ). IsTrue (contains nat_cmp n m)) same u.1)
        | inr miss ↦
            let one : contains nat_cmp n j ≡ contains nat_cmp s j = u.2 j miss in (
              λ h. Contains-append_left queue (i ∷ []) j ((kept.same j).0 (sym one ∙ h)),
              λ h. elim (Contains-push_cases queue i j h) [ inl before ↦ one ∙ (kept.same j).1 before | inr same ↦ subst (λ (m : ℕ). IsTrue (contains nat_cmp n m)) same u.1 ],
            )
      ];
    })

pub kept-take : (queue rest : List ℕ) (s n : BTreeSet ℕ) (i : ℕ) → IsKept queue (contains nat_cmp s) → queue ≡ i ∷ rest → UpdatesBy nat_cmp (nat_cmp i) s n false → IsKept rest (contains nat_cmp n)
kept-take queue rest s n i kept is u =
    let differ : Differ (i ∷ rest) = subst Differ is kept.different in
    let gone : (j : ℕ) → i ≡ j → IsTrue (contains nat_cmp n j) → ⊥ = λ j same h. let now : contains nat_cmp n j ≡ false = subst (λ (m : ℕ). contains nat_cmp n m ≡ false) same u.1 in cc in
    record {
      different = rest-differs i rest differ;
      same = λ j. elim (cases_Bool (is_eq (nat_cmp i j))) [
        | inl hit ↦
            let same : i ≡ j = same-number i j hit in
            (λ h. absurd (gone j same h), λ h. absurd (front-not-behind i rest differ (subst (Contains rest) (sym same) h)))
        | inr miss ↦
            let one : contains nat_cmp n j ≡ contains nat_cmp s j = u.2 j miss in (
              λ h. elim (front-or-behind i j rest (subst (λ (q : List ℕ). Contains q j) is ((kept.same j).0 (sym one ∙ h)))) [ inl same ↦ absurd (gone j same h) | inr later ↦ later ],
              λ h. one ∙ (kept.same j).1 (subst (λ (q : List ℕ). Contains q j) (sym is) (behind i j rest h)),
            )
      ];
    }

-- ---- numbers that were added

pub added-none : (K : ℕ → Type 0) (old : List ℕ) → ((i : ℕ) → K i → ⊥) → AreAdded K old old
added-none K old none = record { fresh = []; behind = sym (append-nil old); different = none-differ; has = λ i. (λ h. absurd (none-there i h), λ h. absurd (none i h.0)) }

pub added-same : (K L : ℕ → Type 0) (old new : List ℕ) → ((i : ℕ) → K i → L i) → ((i : ℕ) → L i → K i) → AreAdded K old new → AreAdded L old new
added-same K L old new to from a = record {
  fresh = a.fresh;
  behind = a.behind;
  different = a.different;
  has = λ i. (λ h. let was = (a.has i).0 h in (to i was.0, was.1), λ h. (a.has i).1 (from i h.0, h.1));
}

pub added-then : (K L M : ℕ → Type 0) (a b c : List ℕ) → ((i : ℕ) → K i → M i) → ((i : ℕ) → L i → M i) → ((i : ℕ) → M i → K i ⊎ L i) → AreAdded K a b → AreAdded L b c → AreAdded M a c
added-then K L M a b c left right either f g =
    let first-in-b : (i : ℕ) → Contains f.fresh i → Contains b i = λ i h. subst (λ (xs : List ℕ). Contains xs i) (sym f.behind) (Contains-append_right a f.fresh i h) in
    let old-in-b : (i : ℕ) → Contains a i → Contains b i = λ i h. subst (λ (xs : List ℕ). Contains xs i) (sym f.behind) (Contains-append_left a f.fresh i h) in
    record {
      fresh = f.fresh ++ g.fresh;
      behind = g.behind ∙ (ap (λ (xs : List ℕ). xs ++ g.fresh) f.behind ∙ append_assoc a f.fresh g.fresh);
      different = both-differ f.fresh g.fresh f.different g.different (λ i p q. ((g.has i).0 q).1 (first-in-b i p));
      has = λ i. (
        λ h. elim (Contains-append_cases f.fresh g.fresh i h) [
          | inl p ↦ let was = (f.has i).0 p in (left i was.0, was.1)
          | inr q ↦ let was = (g.has i).0 q in (right i was.0, λ in-a. was.1 (old-in-b i in-a))
        ],
        λ h. elim (there-or-not f.fresh i) [
          | inl p ↦ Contains-append_left f.fresh g.fresh i p
          | inr none ↦ elim (either i h.0) [
            | inl k ↦ absurd (none ((f.has i).1 (k, h.1)))
            | inr l ↦ Contains-append_right f.fresh g.fresh i ((g.has i).1 (
              l,
              λ in-b.
                  elim (Contains-append_cases a f.fresh i (subst (λ (xs : List ℕ). Contains xs i) f.behind in-b)) [ inl in-a ↦ h.1 in-a | inr p ↦ none p ],
            ))
          ]
        ],
      );
    }

pub added-one : (old new : List ℕ) (i : ℕ) → (Contains old i → new ≡ old) → ((Contains old i → ⊥) → new ≡ old ++ i ∷ []) → AreAdded (λ j. j ≡ i) old new
added-one old new i there new-one = elim (there-or-not old i) [
  | inl h ↦ subst (AreAdded (λ j. j ≡ i) old) (sym (there h)) (record {
    fresh = [];
    behind = sym (append-nil old);
    different = none-differ;
    has = λ j. (λ p. absurd (none-there j p), λ p. absurd (p.1 (subst (Contains old) (sym p.0) h)));
  })
  | inr none ↦ record {
    fresh = i ∷ [];
    behind = new-one none;
    different = one-differs i;
    has = λ j. (λ p. let same : j ≡ i = only-one i j p in (same, λ h. none (subst (Contains old) same h)), λ p. subst (Contains (i ∷ [])) (sym p.0) (in-front i []));
  }
]

-- ---- numbers that come from those of a list, one after the other

-- one of the list brings it
abbrev pub OnSome : (ℕ → ℕ → Type 0) → List ℕ → ℕ → Type 0
OnSome P ns i = (n : ℕ) × Contains ns n × P n i

some-take : (ns : List ℕ) (k : ℕ) → k < length ns → take (k + 1) ns ≡ take k ns ++ get_or ns k 0 ∷ []
some-take ns k l = take_more ns k 0 l

nothing-taken : (ns : List ℕ) (n : ℕ) → Contains (take 0 ns) n → ⊥
nothing-taken [] n h = none-there n h
nothing-taken (x ∷ ns) n h = none-there n h

pub added-start : (P : ℕ → ℕ → Type 0) (ns old : List ℕ) → AreAdded (OnSome P (take 0 ns)) old old
added-start P ns old = added-none (OnSome P (take 0 ns)) old (λ i h. nothing-taken ns h.0 h.1)

pub added-more : (P : ℕ → ℕ → Type 0) (ns : List ℕ) (k : ℕ) (old mid new : List ℕ) → k < length ns → AreAdded (OnSome P (take k ns)) old mid → AreAdded (P (get_or ns k 0)) mid new → AreAdded (OnSome P (take (k + 1) ns)) old new
added-more P ns k old mid new l f g =
    let x : ℕ = get_or ns k 0 in
    subst (λ (xs : List ℕ). AreAdded (OnSome P xs) old new) (sym (some-take ns k l))
    (added-then (OnSome P (take k ns)) (P x) (OnSome P (take k ns ++ x ∷ [])) old mid new
    (λ i h. (h.0, Contains-append_left (take k ns) (x ∷ []) h.0 h.1, h.2))
    (λ i h. (x, Contains-push (take k ns) x, h))
    (λ i h. elim (Contains-push_cases (take k ns) x h.0 h.1) [ inl before ↦ inl (h.0, before, h.2) | inr same ↦ inr (subst (λ (n : ℕ). P n i) (sym same) h.2) ])
    f g)

pub added-all : (P : ℕ → ℕ → Type 0) (ns : List ℕ) (k : ℕ) (old new : List ℕ) → length ns ≤ k → AreAdded (OnSome P (take k ns)) old new → AreAdded (OnSome P ns) old new
added-all P ns k old new l f = subst (λ (xs : List ℕ). AreAdded (OnSome P xs) old new) (take_all k ns l) f

-- each of the list itself
abbrev pub Itself : ℕ → ℕ → Type 0
Itself n i = i ≡ n

pub added-themselves : (ns old new : List ℕ) → AreAdded (OnSome Itself ns) old new → AreAdded (Contains ns) old new
added-themselves ns old new f = added-same (OnSome Itself ns) (Contains ns) old new (λ i h. subst (Contains ns) (sym h.2) h.1) (λ i h. (i, h, refl)) f

-- those that a store tells
pub added-listed : (P : ℕ → Type 0) (found numbers old new : List ℕ) → Lists P found → numbers ≡ found → AreAdded (Contains numbers) old new → AreAdded P old new
added-listed P found numbers old new lists same f = added-same (Contains numbers) P old new (λ i h. (lists.has i).0 (subst (λ (xs : List ℕ). Contains xs i) same h)) (λ i h. subst (λ (xs : List ℕ). Contains xs i) (sym same) ((lists.has i).1 h)) f

-- where they differ and none waited before, they wait in their order
pub in-order-more : (ns : List ℕ) (k : ℕ) (mid new : List ℕ) → Differ ns → k < length ns → mid ≡ take k ns → ((Contains mid (get_or ns k 0) → ⊥) → new ≡ mid ++ get_or ns k 0 ∷ []) → new ≡ take (k + 1) ns
in-order-more ns k mid new differ l is put =
    put (λ h. not-before ns k differ l (subst (λ (xs : List ℕ). Contains xs (get_or ns k 0)) is h))
    ∙ (ap (λ (xs : List ℕ). xs ++ get_or ns k 0 ∷ []) is ∙ sym (some-take ns k l))

-- ---- the numbers below another one

pub below-is : (n i : ℕ) → Contains (numbers_below n) i → i < n
unfolding numbers_below
below-is zero i h = absurd (none-there i h)
below-is (suc n) i h = elim (Contains-push_cases (numbers_below n) n i h) [ inl before ↦ let l : i < n = below-is n i before in omega arith | inr same ↦ omega arith ]

pub below-has : (n i : ℕ) → i < n → Contains (numbers_below n) i
unfolding numbers_below
below-has zero i l = absurd (omega arith)
below-has (suc n) i l = elim (same_or_not i n) [
  | inl same ↦ subst (Contains (numbers_below n ++ n ∷ [])) (sym same) (Contains-push (numbers_below n) n)
  | inr other ↦ Contains-append_left (numbers_below n) (n ∷ []) i (below-has n i (omega arith))
]

pub below-differ : (n : ℕ) → Differ (numbers_below n)
unfolding numbers_below
below-differ zero = none-differ
below-differ (suc n) = both-differ (numbers_below n) (n ∷ []) (below-differ n) (one-differs n) (λ i a b. let l : i < n = below-is n i a in let same : i ≡ n = only-one n i b in omega arith)

pub below-count : (n : ℕ) → length (numbers_below n) ≡ n
unfolding numbers_below
below-count zero = refl
below-count (suc n) = let h : length (numbers_below n) ≡ n = below-count n in omega (arith, length-append (numbers_below n) (n ∷ []))

pub below-more : (n : ℕ) (old new : List ℕ) → old ≡ numbers_below n → ((Contains old n → ⊥) → new ≡ old ++ n ∷ []) → new ≡ numbers_below (suc n)
unfolding numbers_below
below-more n old new is put =
    put (λ h. let l : n < n = below-is n n (subst (λ (xs : List ℕ). Contains xs n) is h) in omega arith) ∙ ap (λ (xs : List ℕ). xs ++ n ∷ []) is

pub below-next : (n : ℕ) (old new : List ℕ) → old ≡ numbers_below n → ((Contains old n → ⊥) → new ≡ old ++ n ∷ []) → new ≡ numbers_below (n + 1)
below-next n old new is put = below-more n old new is put ∙ ap numbers_below (sym (add-one n))
