-- A copy is the one renaming of a term's variables to new ones in the order of their first occurrences.
use Rattle.std.proofs.Common.{◌++◌, ◌⊎◌, ◌≡◌, ℕ, ◌==◌, ◌+◌, ◌<◌, suc, Bool, true, false, not, List, [], ◌∷◌, map, length, filter, refl, ap, sym, ◌∙◌, subst, inl, inr, arith, eq-eqb}
use Rattle.std.proofs.lemmas.Bool.{cases_Bool, eqb-true}
use Rattle.std.proofs.lemmas.List.{map-append}
use Rattle.std.specs.List.{range_with_len}
use Rattle.pi_terms.specs.Tree.{Tree, var, int, atom, comp, Trees, no_trees, tree, cells, cells_all}
use Rattle.pi_terms.specs.Variables.{occurrences, occurrences_all, firsts, variables, Occurs}
use Rattle.pi_terms.specs.Substitution.{instance, instances}
use Rattle.pi_terms.specs.Copy.{place_in, renamed, copy, CopyRenames, CopyIsUnique, CopyKeepsCells, GroundIsItsOwnCopy}
use Rattle.pi_terms.proofs.VariableLemmas.{Has, Has-firsts, Has-from_firsts, Has-from_filter, Has-from_occurs, occurs_from_Has, only_its_variables_count, ground_stays}

-- ---- places in a list

place_here : (k n : ℕ) (ks : List ℕ) → (k == n) ≡ true → place_in (k ∷ ks) n ≡ 0
place_here k n ks e = rw e

place_behind : (k n : ℕ) (ks : List ℕ) → (k == n) ≡ false → place_in (k ∷ ks) n ≡ 1 + place_in ks n
place_behind k n ks e = rw e

has_behind : (k n : ℕ) (ks : List ℕ) → (k == n) ≡ false → Has (k ∷ ks) n → Has ks n
has_behind k n ks e (inl same) = cc (eq-eqb k n same)
has_behind k n ks e (inr h) = h

-- a number that stands in the list has its place within
pub place_in-within : (ks : List ℕ) (n : ℕ) → Has ks n → place_in ks n < length ks
place_in-within [] n h = absurd h
place_in-within (k ∷ ks) n h = elim (cases_Bool (k == n)) [
  | inl here ↦ let at : place_in (k ∷ ks) n ≡ 0 = place_here k n ks here in omega arith
  | inr there ↦
      let at : place_in (k ∷ ks) n ≡ 1 + place_in ks n = place_behind k n ks there in
      let rest : place_in ks n < length ks = place_in-within ks n (has_behind k n ks there h) in
      omega arith
]

first_is : (k n : ℕ) (ks : List ℕ) → (Has ks n → ⊥) → Has (k ∷ ks) n → k ≡ n
first_is k n ks out (inl same) = same
first_is k n ks out (inr h) = absurd (out h)

place_in-injective : (ks : List ℕ) (m n : ℕ) → Has ks m → Has ks n → place_in ks m ≡ place_in ks n → m ≡ n
place_in-injective [] m n h l e = absurd h
place_in-injective (k ∷ ks) m n h l e = elim (cases_Bool (k == m)) [
  | inl here ↦ elim (cases_Bool (k == n)) [
    | inl also ↦ sym (eqb-true k m here) ∙ eqb-true k n also
    | inr behind ↦ absurd (omega (arith, place_here k m ks here, place_behind k n ks behind))
  ]
  | inr behind ↦ elim (cases_Bool (k == n)) [
    | inl here ↦ absurd (omega (arith, place_here k n ks here, place_behind k m ks behind))
    | inr also ↦ place_in-injective ks m n (has_behind k m ks behind h) (has_behind k n ks also l) (omega (arith, place_behind k m ks behind, place_behind k n ks also))
  ]
]

map_agree : (f g : ℕ → ℕ) (ns : List ℕ) → ((n : ℕ) → Has ns n → f n ≡ g n) → map f ns ≡ map g ns
map_agree f g [] same = refl
map_agree f g (n ∷ ns) same =
    let this : f n ≡ g n = same n (inl refl) in
    let rest : map f ns ≡ map g ns = map_agree f g ns (λ m h. same m (inr h)) in
    cc

agree_from_map : (f g : ℕ → ℕ) (ns : List ℕ) → map f ns ≡ map g ns → (n : ℕ) → Has ns n → f n ≡ g n
agree_from_map f g [] e n h = absurd h
agree_from_map f g (m ∷ ns) e n (inl same) = let P : ℕ → Type 0 = λ k. f k ≡ g k in subst P same (cc)
agree_from_map f g (m ∷ ns) e n (inr h) = agree_from_map f g ns (cc) n h

-- ---- the first places of numbers

abbrev Distinct : List ℕ → Type 0
Distinct [] = Unit {0}
Distinct (n ∷ ns) = (Has ns n → ⊥) × Distinct ns

distinct_filter : (p : ℕ → Bool) (ns : List ℕ) → Distinct ns → Distinct (filter p ns)
distinct_filter p [] d = tt
distinct_filter p (n ∷ ns) d = elim (cases_Bool (p n)) [
  | inl hit ↦ rw hit (λ h. d.0 (Has-from_filter p ns n h).0, distinct_filter p ns d.1)
  | inr miss ↦ rw miss (distinct_filter p ns d.1)
]

distinct_firsts : (ns : List ℕ) → Distinct (firsts ns)
unfolding firsts
distinct_firsts [] = tt
distinct_firsts (n ∷ ns) = (
  λ h. let e : not (n == n) ≡ true = (Has-from_filter (λ m. not (m == n)) (firsts ns) n h).1 in cc (eq-eqb n n refl, e),
  distinct_filter (λ m. not (m == n)) (firsts ns) (distinct_firsts ns),
)

-- distinct numbers stand at the places from 0 on
map_place : (next : ℕ) (ns : List ℕ) → Distinct ns → map (λ n. next + place_in ns n) ns ≡ range_with_len next (length ns)
map_place next [] d = refl
map_place next (n ∷ ns) d =
    let this : next + place_in (n ∷ ns) n ≡ next = omega (arith, place_here n n ns (eq-eqb n n refl)) in
    let rest : map (λ m. next + place_in (n ∷ ns) m) ns ≡ map (λ m. (next + 1) + place_in ns m) ns =
    map_agree _ _ ns (λ m h. elim (cases_Bool (n == m)) [
      | inl here ↦ let P : ℕ → Type 0 = λ k. Has ns k in absurd (d.0 (subst P (sym (eqb-true n m here)) h))
      | inr behind ↦ omega (arith, place_behind n m ns behind)
    ]) in
    let all : map (λ m. (next + 1) + place_in ns m) ns ≡ range_with_len (next + 1) (length ns) = map_place (next + 1) ns d.1 in
    cc

-- ---- numbers that are met one after another

filter_out : (p : ℕ → Bool) (n : ℕ) (ks : List ℕ) → p n ≡ false → filter p (ks ++ n ∷ []) ≡ filter p ks
filter_out p n [] e = rw e refl
filter_out p n (k ∷ ks) e = elim (cases_Bool (p k)) [
  | inl hit ↦ rw hit (ap (λ ms. k ∷ ms) (filter_out p n ks e))
  | inr miss ↦ rw miss (filter_out p n ks e)
]

filter_in : (p : ℕ → Bool) (n : ℕ) (ks : List ℕ) → p n ≡ true → filter p (ks ++ n ∷ []) ≡ filter p ks ++ n ∷ []
filter_in p n [] e = rw e refl
filter_in p n (k ∷ ks) e = elim (cases_Bool (p k)) [
  | inl hit ↦ rw hit (ap (λ ms. k ∷ ms) (filter_in p n ks e))
  | inr miss ↦ rw miss (filter_in p n ks e)
]

pub firsts-new : (ks : List ℕ) (n : ℕ) → (Has ks n → ⊥) → firsts (ks ++ n ∷ []) ≡ firsts ks ++ n ∷ []
unfolding firsts
firsts-new [] n out = refl
firsts-new (k ∷ ks) n out = elim (cases_Bool (n == k)) [
  | inl same ↦ absurd (out (inl (sym (eqb-true n k same))))
  | inr other ↦
      ap (λ ms. k ∷ filter (λ m. not (m == k)) ms) (firsts-new ks n (λ h. out (inr h)))
      ∙ ap (λ ms. k ∷ ms) (filter_in (λ m. not (m == k)) n (firsts ks) (ap not other))
]

has_or_not : (ks : List ℕ) (n : ℕ) → Has ks n ⊎ (Has ks n → ⊥)
has_or_not [] n = inr (λ h. h)
has_or_not (k ∷ ks) n = elim (cases_Bool (k == n)) [
  | inl here ↦ inl (inl (eqb-true k n here))
  | inr behind ↦ elim (has_or_not ks n) [ inl h ↦ inl (inr h) | inr out ↦ inr (λ h. out (has_behind k n ks behind h)) ]
]

pub firsts-known : (ks : List ℕ) (n : ℕ) → Has ks n → firsts (ks ++ n ∷ []) ≡ firsts ks
unfolding firsts
firsts-known [] n h = absurd h
firsts-known (k ∷ ks) n h =
    let others : ℕ → Bool = λ m. not (m == k) in
    elim (has_or_not ks n) [
      | inl l ↦ ap (λ ms. k ∷ filter others ms) (firsts-known ks n l)
      | inr out ↦
          ap (λ ms. k ∷ filter others ms) (firsts-new ks n out)
          ∙ ap (λ ms. k ∷ ms) (filter_out others n (firsts ks) (ap not (eq-eqb n k (sym (first_is k n ks out h)))))
    ]

-- ---- lists under a renaming

filter_map_agree : (p q : ℕ → Bool) (r : ℕ → ℕ) (ns : List ℕ) → ((n : ℕ) → Has ns n → p (r n) ≡ q n) → filter p (map r ns) ≡ map r (filter q ns)
filter_map_agree p q r [] same = refl
filter_map_agree p q r (n ∷ ns) same =
    let rest : filter p (map r ns) ≡ map r (filter q ns) = filter_map_agree p q r ns (λ m h. same m (inr h)) in
    let this : p (r n) ≡ q n = same n (inl refl) in
    elim (cases_Bool (q n)) [
      | inl hit ↦ rw (this, hit) (ap (λ ms. r n ∷ ms) rest)
      | inr miss ↦ rw (this, miss) rest
    ]

same_test : (a b c d : ℕ) → (a ≡ b → c ≡ d) → (c ≡ d → a ≡ b) → (a == b) ≡ (c == d)
same_test a b c d f g = elim (cases_Bool (a == b)) [
  | inl hit ↦ hit ∙ sym (eq-eqb c d (f (eqb-true a b hit)))
  | inr miss ↦ elim (cases_Bool (c == d)) [
    | inl other ↦ cc (eq-eqb a b (g (eqb-true c d other)))
    | inr other ↦ miss ∙ sym other
  ]
]

firsts-map : (r : ℕ → ℕ) (ns : List ℕ) → ((m n : ℕ) → Has ns m → Has ns n → r m ≡ r n → m ≡ n) → firsts (map r ns) ≡ map r (firsts ns)
unfolding firsts
firsts-map r [] apart = refl
firsts-map r (n ∷ ns) apart =
    let rest : firsts (map r ns) ≡ map r (firsts ns) = firsts-map r ns (λ k m h l. apart k m (inr h) (inr l)) in
    ap (λ ms. r n ∷ filter (λ m. not (m == r n)) ms) rest
    ∙ ap (λ ms. r n ∷ ms) (filter_map_agree (λ m. not (m == r n)) (λ m. not (m == n)) r (firsts ns)
    (λ m h. ap not (same_test (r m) (r n) m n (apart m n (inr (Has-from_firsts ns m h)) (inl refl)) (ap r))))

mutual
  unfolding occurrences instance

  occurrences-renamed : (r : ℕ → ℕ) (t : Tree) → occurrences (renamed r t) ≡ map r (occurrences t)
  occurrences-renamed r (var n) = refl
  occurrences-renamed r (int n) = refl
  occurrences-renamed r (atom name) = refl
  occurrences-renamed r (comp name ts) = occurrences_all-renamed r ts

  occurrences_all-renamed : (r : ℕ → ℕ) (ts : Trees) → occurrences_all (instances (λ n. var (r n)) ts) ≡ map r (occurrences_all ts)
  occurrences_all-renamed r no_trees = refl
  occurrences_all-renamed r (tree t ts) =
      let this : occurrences (renamed r t) ≡ map r (occurrences t) = occurrences-renamed r t in
      let rest : occurrences_all (instances (λ n. var (r n)) ts) ≡ map r (occurrences_all ts) = occurrences_all-renamed r ts in
      cc (map-append r (occurrences t) (occurrences_all ts))

variables-renamed : (r : ℕ → ℕ) (t : Tree) → ((m n : ℕ) → Occurs m t → Occurs n t → r m ≡ r n → m ≡ n) → variables (renamed r t) ≡ map r (variables t)
variables-renamed r t apart =
    ap firsts (occurrences-renamed r t) ∙ firsts-map r (occurrences t) (λ m n h k. apart m n (occurs_from_Has t m h) (occurs_from_Has t n k))

-- ---- the laws

pub Has-variables : (t : Tree) (n : ℕ) → Occurs n t → Has (variables t) n
Has-variables t n h = Has-firsts (occurrences t) n (Has-from_occurs t n h)

pub copy_renames : CopyRenames
unfolding copy
copy_renames next t =
    let r : ℕ → ℕ = λ n. next + place_in (variables t) n in
    let apart : (m n : ℕ) → Occurs m t → Occurs n t → r m ≡ r n → m ≡ n =
    λ m n h k e. place_in-injective (variables t) m n (Has-variables t m h) (Has-variables t n k) (omega (arith, e)) in
    record {
      renaming = r;
      renames = refl;
      tells_apart = apart;
      in_order = variables-renamed r t apart ∙ map_place next (variables t) (distinct_firsts (occurrences t));
    }

pub copy_is_unique : CopyIsUnique
unfolding copy
copy_is_unique next t u c =
    let places : ℕ → ℕ = λ n. next + place_in (variables t) n in
    let e : map c.renaming (variables t) ≡ map places (variables t) =
    sym (variables-renamed c.renaming t c.tells_apart) ∙ (ap variables (sym c.renames) ∙ (c.in_order ∙ sym (map_place next (variables t) (distinct_firsts (occurrences t))))) in
    c.renames ∙ only_its_variables_count _ _ t (λ n h. ap var (agree_from_map c.renaming places (variables t) e n (Has-variables t n h)))

mutual
  unfolding cells instance

  pub cells-renamed : (r : ℕ → ℕ) (t : Tree) → cells (renamed r t) ≡ cells t
  cells-renamed r (var n) = refl
  cells-renamed r (int n) = refl
  cells-renamed r (atom name) = refl
  cells-renamed r (comp name ts) = ap suc (cells_all-renamed r ts)

  pub cells_all-renamed : (r : ℕ → ℕ) (ts : Trees) → cells_all (instances (λ n. var (r n)) ts) ≡ cells_all ts
  cells_all-renamed r no_trees = refl
  cells_all-renamed r (tree t ts) = omega (arith, cells-renamed r t, cells_all-renamed r ts)

pub copy_keeps_cells : CopyKeepsCells
unfolding copy
copy_keeps_cells next t = cells-renamed _ t

pub ground_is_its_own_copy : GroundIsItsOwnCopy
unfolding copy
ground_is_its_own_copy next t ground = ground_stays _ t ground
