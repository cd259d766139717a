-- Lists that are put cell by cell, from the last item on and from the first.
use Rattle.std.proofs.Common.{◌≡◌, ℕ, suc, ◌<◌, ◌≤◌, true, false, not, cond, List, [], ◌∷◌, ◌++◌, length, take, drop, map, reverse, get_or, min, nat_lt, inl, inr, refl, sym, ap, ◌∙◌, subst, arith, true≢false}
use Rattle.std.specs.Prelude.{codes, zip}
use Rattle.std.specs.Ordering.{is_eq, is_ne}
use Rattle.std.specs.declared.cmp.Ordering.{Ordering}
use Rattle.std.specs.declared.cmp.Ordering.TheVariants.{Less, Equal, Greater}
use Rattle.std.proofs.lemmas.List.{reverse-append}
use Rattle.std.proofs.lemmas.Bool.{cases_Bool, ltb-true, ltb-false}
use Rattle.pi_terms.specs.Tree.{Tree, atom, comp, Trees, no_trees, tree, trees_of}
use Rattle.pi_terms.specs.Order.{order}
use Rattle.pi_terms.specs.ListCopies.{list_cell}
use Rattle.pi_constraints.specs.Value.{value}
use Rattle.pi_constraints.specs.State.{State, bindings}
use Rattle.pi_constraints.specs.Store.{StoreView, IsTerm, AreTerms, Keeps, Stays}
use Rattle.pi_constraints.specs.declared.store.Ref.{Ref}
use Rattle.pi_effects.specs.Comparing.{is_same}
use Rattle.pi_effects.specs.Items.{list_onto, list_of, array_of}
use Rattle.pi_effects.specs.Collections.{without, pair}
use Rattle.pi_lib_builtin.specs.Items.{AreItems}
use Rattle.pi_lib_builtin.proofs.RowLemmas.{as-many, items-are-terms, ItemAt, item-at, none-behind}

-- what `put_comp` of a store answers
abbrev pub Puts : {M : Type 0} → StoreView M → StoreView M → List ℕ → List Ref → Ref → Type 0
Puts v w name rs made = (us : Trees) → AreTerms v rs us → IsTerm w made (comp name us)

cell-put : {M : Type 0} (v w : StoreView M) (r list made : Ref) (t rest : Tree) → IsTerm v r t → IsTerm v list rest → Puts v w (codes "[|]") (r ∷ list ∷ []) made → IsTerm w made (list_cell t rest)
unfolding AreTerms
cell-put v w r list made t rest is behind puts = puts (tree t (tree rest no_trees)) (is, (behind, tt))

pub array-put : {M : Type 0} (v w : StoreView M) (rs : List Ref) (made : Ref) (ts : List Tree) → AreItems v rs ts → Puts v w (codes "{}") rs made → IsTerm w made (array_of ts)
array-put v w rs made ts h puts = puts (trees_of ts) (items-are-terms v rs ts h)

-- ---- from the last item on

pub onto-none : {M : Type 0} (v w : StoreView M) (rs : List Ref) (ts : List Tree) (i : ℕ) (list : Ref) (t : Tree) → AreItems v rs ts → length rs ≤ i → IsTerm w list t → IsTerm w list (list_onto (drop i ts) t)
unfolding list_onto
onto-none v w rs ts i list t h all is = subst (λ us. IsTerm w list (list_onto us t)) (sym (none-behind ts i (omega (arith, as-many v rs ts h)))) is

pub onto-more : {M : Type 0} (v w x : StoreView M) (rs : List Ref) (ts : List Tree) (i : ℕ) (r list made : Ref) (t : Tree) → AreItems v rs ts → i < length rs → r ≡ get_or rs i r → Keeps v w → IsTerm w list (list_onto (drop (suc i) ts) t) → Puts w x (codes "[|]") (r ∷ list ∷ []) made → IsTerm x made (list_onto (drop i ts) t)
unfolding list_onto
onto-more v w x rs ts i r list made t h low e keeps before puts =
    let at : ItemAt v ts i r = item-at v rs ts i r h low e in
    subst (λ us. IsTerm x made (list_onto us t)) (sym at.behind) (cell-put w x r list made at.it (list_onto (drop (suc i) ts) t) (keeps.terms r at.it at.is) before puts)

-- ---- from the first item on

reverse-one : (ts : List Tree) (t : Tree) → reverse (ts ++ t ∷ []) ≡ t ∷ reverse ts
reverse-one ts t = reverse-append ts (t ∷ [])

pub reversed-none : {M : Type 0} (w : StoreView M) (ts : List Tree) (list : Ref) → IsTerm w list (atom (codes "[]")) → IsTerm w list (list_of (reverse (take 0 ts)))
unfolding list_onto
reversed-none w ts list is = is

pub reversed-more : {M : Type 0} (v w x : StoreView M) (rs : List Ref) (ts : List Tree) (i : ℕ) (r list made : Ref) → AreItems v rs ts → i < length rs → r ≡ get_or rs i r → Keeps v w → IsTerm w list (list_of (reverse (take i ts))) → Puts w x (codes "[|]") (r ∷ list ∷ []) made → IsTerm x made (list_of (reverse (take (suc i) ts)))
unfolding list_onto
reversed-more v w x rs ts i r list made h low e keeps before puts =
    let at : ItemAt v ts i r = item-at v rs ts i r h low e in
    subst (λ us. IsTerm x made (list_of us)) (sym (ap reverse at.before ∙ reverse-one (take i ts) at.it))
    (cell-put w x r list made at.it (list_of (reverse (take i ts))) (keeps.terms r at.it at.is) before puts)

-- ---- items that aren't the same as a term

is-other : (o : Ordering) → is_ne o ≡ true → is_eq o ≡ false
is-other Less h = refl
is-other Equal h = absurd (true≢false (sym h))
is-other Greater h = refl

is-it : (o : Ordering) → is_ne o ≡ false → is_eq o ≡ true
is-it Less h = absurd (true≢false h)
is-it Equal h = refl
is-it Greater h = absurd (true≢false h)

-- what `compare` answers of two Refs
abbrev pub Compares : {M : Type 0} → StoreView M → Ref → Ref → Ordering → Type 0
Compares w r q o = (t u : Tree) → IsTerm w r t → IsTerm w q u → o ≡ order (value (bindings w.now.state) t) (value (bindings w.now.state) u)

pub others-none : {M : Type 0} (v w : StoreView M) (rs : List Ref) (ts : List Tree) (i : ℕ) (list : Ref) (u : Tree) → AreItems v rs ts → length rs ≤ i → IsTerm w list (atom (codes "[]")) → IsTerm w list (list_of (without v.now.state u (drop i ts)))
unfolding list_onto
others-none v w rs ts i list u h all is = subst (λ us. IsTerm w list (list_of (without v.now.state u us))) (sym (none-behind ts i (omega (arith, as-many v rs ts h)))) is

same-here : {M : Type 0} (v w : StoreView M) (r q : Ref) (t u : Tree) (o : Ordering) → Stays v w → IsTerm v r t → IsTerm v q u → Compares w r q o → o ≡ order (value (bindings v.now.state) t) (value (bindings v.now.state) u)
same-here v w r q t u o stays is other compares =
    compares t u (stays.keeps.terms r t is) (stays.keeps.terms q u other) ∙ ap (λ (s : State). order (value (bindings s) t) (value (bindings s) u)) stays.state

pub other-kept : {M : Type 0} (v w x : StoreView M) (rs : List Ref) (ts : List Tree) (i : ℕ) (r q list made : Ref) (u : Tree) (o : Ordering) → AreItems v rs ts → i < length rs → r ≡ get_or rs i r → Stays v w → IsTerm v q u → Compares w r q o → is_ne o ≡ true
    → IsTerm w list (list_of (without v.now.state u (drop (suc i) ts))) → Puts w x (codes "[|]") (r ∷ list ∷ []) made → IsTerm x made (list_of (without v.now.state u (drop i ts)))
unfolding list_onto
other-kept v w x rs ts i r q list made u o h low e stays is compares ne before puts =
    let at : ItemAt v ts i r = item-at v rs ts i r h low e in
    let rest : List Tree = without v.now.state u (drop (suc i) ts) in
    let differs : is_same v.now.state at.it u ≡ false = ap is_eq (sym (same-here v w r q at.it u o stays at.is is compares)) ∙ is-other o ne in
    let whole : without v.now.state u (drop i ts) ≡ at.it ∷ rest = ap (without v.now.state u) at.behind ∙ ap (λ b. cond (not b) (at.it ∷ rest) rest) differs in
    subst (λ us. IsTerm x made (list_of us)) (sym whole) (cell-put w x r list made at.it (list_of rest) (stays.keeps.terms r at.it at.is) before puts)

pub same-gone : {M : Type 0} (v w : StoreView M) (rs : List Ref) (ts : List Tree) (i : ℕ) (r q list : Ref) (u : Tree) (o : Ordering) → AreItems v rs ts → i < length rs → r ≡ get_or rs i r → Stays v w → IsTerm v q u → Compares w r q o → is_ne o ≡ false
    → IsTerm w list (list_of (without v.now.state u (drop (suc i) ts))) → IsTerm w list (list_of (without v.now.state u (drop i ts)))
same-gone v w rs ts i r q list u o h low e stays is compares eq before =
    let at : ItemAt v ts i r = item-at v rs ts i r h low e in
    let rest : List Tree = without v.now.state u (drop (suc i) ts) in
    let same : is_same v.now.state at.it u ≡ true = ap is_eq (sym (same-here v w r q at.it u o stays at.is is compares)) ∙ is-it o eq in
    let whole : without v.now.state u (drop i ts) ≡ rest = ap (without v.now.state u) at.behind ∙ ap (λ b. cond (not b) (at.it ∷ rest) rest) same in
    subst (λ us. IsTerm w list (list_of us)) (sym whole) before

-- ---- pairs

abbrev pub pairs_from : ℕ → List Tree → List Tree → List Tree
pairs_from i ts us = map pair (zip (drop i ts) (drop i us))

zip-none : (ts us : List Tree) → us ≡ [] → zip ts us ≡ []
zip-none [] us e = refl
zip-none (t ∷ ts) us e = ap (zip (t ∷ ts)) e

zips-none : {M : Type 0} (v : StoreView M) (rs qs : List Ref) (ts us : List Tree) (i : ℕ) → AreItems v rs ts → AreItems v qs us → min (length rs) (length qs) ≤ i → zip (drop i ts) (drop i us) ≡ []
zips-none v rs qs ts us i h k all = elim (cases_Bool (nat_lt (length qs) (length rs))) [
  | inl less ↦ zip-none (drop i ts) (drop i us) (none-behind us i (omega (arith, as-many v qs us k, ltb-true (length qs) (length rs) less)))
  | inr more ↦ ap (λ xs. zip xs (drop i us)) (none-behind ts i (omega (arith, as-many v rs ts h, ltb-false (length qs) (length rs) more)))
]

pub pairs-none : {M : Type 0} (v w : StoreView M) (rs qs : List Ref) (ts us : List Tree) (i : ℕ) (list : Ref) → AreItems v rs ts → AreItems v qs us → min (length rs) (length qs) ≤ i → IsTerm w list (atom (codes "[]")) → IsTerm w list (list_of (pairs_from i ts us))
unfolding list_onto
pairs-none v w rs qs ts us i list h k all is = subst (λ ps. IsTerm w list (list_of (map pair ps))) (sym (zips-none v rs qs ts us i h k all)) is

pub pairs-more : {M : Type 0} (v w x y : StoreView M) (rs qs : List Ref) (ts us : List Tree) (i : ℕ) (r q two list made : Ref) → AreItems v rs ts → AreItems v qs us → i < length rs → i < length qs → r ≡ get_or rs i r → q ≡ get_or qs i q → Keeps v w → Keeps w x
    → IsTerm w list (list_of (pairs_from (suc i) ts us)) → Puts w x (codes "{}") (r ∷ q ∷ []) two → Puts x y (codes "[|]") (two ∷ list ∷ []) made → IsTerm y made (list_of (pairs_from i ts us))
unfolding list_onto
pairs-more v w x y rs qs ts us i r q two list made h k low high e g keeps more before first second =
    let one : ItemAt v ts i r = item-at v rs ts i r h low e in
    let other : ItemAt v us i q = item-at v qs us i q k high g in
    let both : IsTerm x two (pair (one.it, other.it)) = array-put w x (r ∷ q ∷ []) two (one.it ∷ other.it ∷ []) (keeps.terms r one.it one.is, (keeps.terms q other.it other.is, tt)) first in
    let whole : pairs_from i ts us ≡ pair (one.it, other.it) ∷ pairs_from (suc i) ts us = ap (λ xs. map pair (zip xs (drop i us))) one.behind ∙ ap (λ xs. map pair (zip (one.it ∷ drop (suc i) ts) xs)) other.behind in
    subst (λ ps. IsTerm y made (list_of ps)) (sym whole) (cell-put x y two list made (pair (one.it, other.it)) (list_of (pairs_from (suc i) ts us)) both (more.terms list (list_of (pairs_from (suc i) ts us)) before) second)
