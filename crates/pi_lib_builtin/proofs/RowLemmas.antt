-- Refs of items in their order: one more, the item in a place, what is behind it.
use Rattle.std.proofs.Common.{◌≡◌, ℕ, zero, suc, ◌<◌, ◌≤◌, List, [], ◌∷◌, ◌++◌, length, take, drop, get_or, refl, sym, ap, subst, arith}
use Rattle.std.specs.Prelude.{None, slice_get}
use Rattle.pi_terms.specs.Tree.{Tree, trees_of}
use Rattle.pi_constraints.specs.Store.{StoreView, IsTerm, AreTerms, Keeps}
use Rattle.pi_constraints.specs.declared.store.Ref.{Ref}
use Rattle.pi_lib_builtin.specs.Items.{AreItems, ShowsItem}

pub as-many : {M : Type 0} (v : StoreView M) (rs : List Ref) (ts : List Tree) → AreItems v rs ts → length ts ≡ length rs
as-many v [] [] h = refl
as-many v [] (t ∷ ts) h = absurd h
as-many v (r ∷ rs) [] h = absurd h
as-many v (r ∷ rs) (t ∷ ts) h = ap suc (as-many v rs ts h.1)

pub items-kept : {M : Type 0} (v w : StoreView M) (rs : List Ref) (ts : List Tree) → Keeps v w → AreItems v rs ts → AreItems w rs ts
items-kept v w [] [] k h = tt
items-kept v w [] (t ∷ ts) k h = absurd h
items-kept v w (r ∷ rs) [] k h = absurd h
items-kept v w (r ∷ rs) (t ∷ ts) k h = (k.terms r t h.0, items-kept v w rs ts k h.1)

pub one-more : {M : Type 0} (v : StoreView M) (rs : List Ref) (ts : List Tree) (r : Ref) (t : Tree) → AreItems v rs ts → IsTerm v r t → AreItems v (rs ++ r ∷ []) (ts ++ t ∷ [])
one-more v [] [] r t h is = (is, tt)
one-more v [] (u ∷ ts) r t h is = absurd h
one-more v (q ∷ rs) [] r t h is = absurd h
one-more v (q ∷ rs) (u ∷ ts) r t h is = (h.0, one-more v rs ts r t h.1 is)

pub items-are-terms : {M : Type 0} (v : StoreView M) (rs : List Ref) (ts : List Tree) → AreItems v rs ts → AreTerms v rs (trees_of ts)
unfolding AreTerms
items-are-terms v [] [] h = tt
items-are-terms v [] (t ∷ ts) h = absurd h
items-are-terms v (r ∷ rs) [] h = absurd h
items-are-terms v (r ∷ rs) (t ∷ ts) h = (h.0, items-are-terms v rs ts h.1)

-- the item in a place, or none
pub item-shown : {M : Type 0} (v : StoreView M) (rs : List Ref) (ts : List Tree) (i : ℕ) → AreItems v rs ts → ShowsItem v (slice_get ts i) (slice_get rs i)
item-shown v [] [] i h = refl
item-shown v [] (t ∷ ts) i h = absurd h
item-shown v (r ∷ rs) [] i h = absurd h
item-shown v (r ∷ rs) (t ∷ ts) zero h = (t, refl, h.0)
item-shown v (r ∷ rs) (t ∷ ts) (suc i) h = item-shown v rs ts i h.1

-- the item in a place, with what stands in front of it and behind it
pub record ItemAt {M : Type 0} (v : StoreView M) (ts : List Tree) (i : ℕ) (r : Ref) : Type 0 where
  pub it : Tree
  pub is : IsTerm v r it
  pub behind : drop i ts ≡ it ∷ drop (suc i) ts
  pub before : take (suc i) ts ≡ take i ts ++ it ∷ []

pub item-at : {M : Type 0} (v : StoreView M) (rs : List Ref) (ts : List Tree) (i : ℕ) (r : Ref) → AreItems v rs ts → i < length rs → r ≡ get_or rs i r → ItemAt v ts i r
item-at v [] ts i r h low e = absurd (omega arith)
item-at v (q ∷ rs) [] i r h low e = absurd h
item-at v (q ∷ rs) (t ∷ ts) zero r h low e = record { it = t; is = subst (λ p. IsTerm v p t) (sym e) h.0; behind = refl; before = refl }
item-at v (q ∷ rs) (t ∷ ts) (suc i) r h low e =
    let rest : ItemAt v ts i r = item-at v rs ts i r h.1 (omega arith) e in
    record { it = rest.it; is = rest.is; behind = rest.behind; before = ap (λ us. t ∷ us) rest.before }

pub none-behind : (ts : List Tree) (i : ℕ) → length ts ≤ i → drop i ts ≡ []
none-behind [] zero h = refl
none-behind [] (suc i) h = refl
none-behind (t ∷ ts) zero h = absurd (omega arith)
none-behind (t ∷ ts) (suc i) h = none-behind ts i (omega arith)

pub all-before : (ts : List Tree) (i : ℕ) → length ts ≤ i → take i ts ≡ ts
all-before [] zero h = refl
all-before [] (suc i) h = refl
all-before (t ∷ ts) zero h = absurd (omega arith)
all-before (t ∷ ts) (suc i) h = ap (λ us. t ∷ us) (all-before ts i (omega arith))

pub none-past : (ts : List Tree) (i : ℕ) → length ts ≤ i → slice_get ts i ≡ None
none-past [] i h = refl
none-past (t ∷ ts) zero h = absurd (omega arith)
none-past (t ∷ ts) (suc i) h = none-past ts i (omega arith)
