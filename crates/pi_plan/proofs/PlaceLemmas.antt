-- Places and ways that are due: when two of them are one.
use Rattle.std.proofs.Common.{◌≡◌, ◌≢◌, ◌⊎◌, ℕ, List, [], ◌∷◌, refl, ap, sym, inl, inr, arith}
use Rattle.std.specs.Prelude.{Contains}
use Rattle.std.specs.Ordering.{nat_cmp, ordering_then, match_ordering}
use Rattle.std.specs.declared.cmp.Ordering.{Ordering}
use Rattle.std.specs.declared.cmp.Ordering.TheVariants.{Less, Equal, Greater}
use Rattle.std.specs.BTreeSet.{insert_key}
use Rattle.std.proofs.lemmas.Cmp.{tied_itself}
use Rattle.std.proofs.lemmas.List.Elements.{Contains-append_right, Contains-append_cases, Contains-push_cases, Contains-push}
use Rattle.pi_terms.specs.Tree.{Tree}
use Rattle.pi_terms.specs.Order.{order}
use Rattle.pi_terms.proofs.OrderLemmas.{same_from_order}
use Rattle.pi_plan.specs.declared.place.Place.{Place}
use Rattle.pi_plan.specs.declared.due.Due.{Due}
use Rattle.pi_plan.specs.Place.{place_order, place_order_total}
use Rattle.pi_plan.specs.Due.{due_order}
use Rattle.pi_plan.proofs.RootLemmas.{same_numbers}

both_equal : (o p : Ordering) → ordering_then o p ≡ Equal → (o ≡ Equal) × (p ≡ Equal)
both_equal Less p e = cc
both_equal Equal p e = (refl, e)
both_equal Greater p e = cc

abbrev pub place : Tree → ℕ → Place
place s r = record { state = s; rest = r }

same_place : (s t : Tree) (m n : ℕ) → s ≡ t → m ≡ n → place s m ≡ place t n
same_place s t m n e f = cc

pub place_order_same : (p q : Place) → place_order p q ≡ Equal → p ≡ q
place_order_same p q e =
    let both : (order p.state q.state ≡ Equal) × (nat_cmp p.rest q.rest ≡ Equal) = both_equal (order p.state q.state) (nat_cmp p.rest q.rest) e in
    same_place p.state q.state p.rest q.rest (same_from_order p.state q.state both.0) (same_numbers p.rest q.rest both.1)

by_order : (k q : Place) (o : Ordering) → place_order k q ≡ o → (q ≡ k) ⊎ (q ≢ k)
by_order k q Less e = inr (λ same. absurd (cc (tied_itself place_order_total k, ap (λ x. place_order k x) same)))
by_order k q Equal e = inl (sym (place_order_same k q e))
by_order k q Greater e = inr (λ same. absurd (cc (tied_itself place_order_total k, ap (λ x. place_order k x) same)))

pub one_or_other : (k q : Place) → (q ≡ k) ⊎ (q ≢ k)
one_or_other k q = by_order k q (place_order k q) refl

abbrev due : ℕ → ℕ → Due
due c w = record { cost = c; way = w }

same_due : (a b m n : ℕ) → a ≡ b → m ≡ n → due a m ≡ due b n
same_due a b m n e f = cc

pub due_order_same : (d e : Due) → due_order d e ≡ Equal → d ≡ e
due_order_same d e h =
    let both : (nat_cmp d.cost e.cost ≡ Equal) × (nat_cmp d.way e.way ≡ Equal) = both_equal (nat_cmp d.cost e.cost) (nat_cmp d.way e.way) h in
    same_due d.cost e.cost d.way e.way (same_numbers d.cost e.cost both.0) (same_numbers d.way e.way both.1)

-- ---- among those behind the first, and the first

pub later : {X : Type 0} (x : X) (xs : List X) (y : X) → Contains xs y → Contains (x ∷ xs) y
later x xs y h = Contains-append_right (x ∷ []) xs y h

pub nothing_contained : {X : Type 0} (y : X) → Contains [] y → ⊥
nothing_contained y (k, within, e) = absurd (omega arith)

pub first_or_later : {X : Type 0} (x : X) (xs : List X) (y : X) → Contains (x ∷ xs) y → (x ≡ y) ⊎ Contains xs y
first_or_later x xs y h = elim (Contains-append_cases (x ∷ []) xs y h) [
  | inl one ↦ elim (Contains-push_cases [] x y one) [ inl none ↦ absurd (nothing_contained y none) | inr same ↦ inl same ]
  | inr more ↦ inr more
]

-- ---- one more key of a set

pub insert_key-new : (k : Due) (ds : List Due) → Contains (insert_key due_order ds k) k
insert_key-new k [] = Contains-push [] k
insert_key-new k (d ∷ ds) = new_at k d ds (due_order k d) refl (insert_key-new k ds)
  where
    new_at : (k d : Due) (ds : List Due) (o : Ordering) → due_order k d ≡ o → Contains (insert_key due_order ds k) k →
        Contains (match_ordering o (k ∷ d ∷ ds) (d ∷ ds) (d ∷ insert_key due_order ds k)) k
    new_at k d ds Less e h = (0, omega arith, refl)
    new_at k d ds Equal e h = (0, omega arith, sym (due_order_same k d e))
    new_at k d ds Greater e h = later d (insert_key due_order ds k) k h

pub insert_key-old : (k : Due) (ds : List Due) (x : Due) → Contains ds x → Contains (insert_key due_order ds k) x
insert_key-old k [] x h = absurd (nothing_contained x h)
insert_key-old k (d ∷ ds) x h = old_at (due_order k d) (λ more. insert_key-old k ds x more)
  where
    old_at : (o : Ordering) → (Contains ds x → Contains (insert_key due_order ds k) x) → Contains (match_ordering o (k ∷ d ∷ ds) (d ∷ ds) (d ∷ insert_key due_order ds k)) x
    old_at Less more = later k (d ∷ ds) x h
    old_at Equal more = h
    old_at Greater more = elim (first_or_later d ds x h) [
      | inl same ↦ (0, omega arith, same)
      | inr rest ↦ later d (insert_key due_order ds k) x (more rest)
    ]

pub insert_key-cases : (k : Due) (ds : List Due) (x : Due) → Contains (insert_key due_order ds k) x → Contains ds x ⊎ (x ≡ k)
insert_key-cases k [] x h = elim (Contains-push_cases [] k x h) [ inl none ↦ inl none | inr same ↦ inr (sym same) ]
insert_key-cases k (d ∷ ds) x h = cases_at (due_order k d) (λ more. insert_key-cases k ds x more) h
  where
    cases_at : (o : Ordering) → (Contains (insert_key due_order ds k) x → Contains ds x ⊎ (x ≡ k)) →
        Contains (match_ordering o (k ∷ d ∷ ds) (d ∷ ds) (d ∷ insert_key due_order ds k)) x → Contains (d ∷ ds) x ⊎ (x ≡ k)
    cases_at Less more g = elim (first_or_later k (d ∷ ds) x g) [ inl same ↦ inr (sym same) | inr rest ↦ inl rest ]
    cases_at Equal more g = inl g
    cases_at Greater more g = elim (first_or_later d (insert_key due_order ds k) x g) [
      | inl same ↦ inl (0, omega arith, same)
      | inr rest ↦ elim (more rest) [ inl old ↦ inl (later d ds x old) | inr new ↦ inr new ]
    ]
