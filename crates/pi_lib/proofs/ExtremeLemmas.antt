-- The best item so far, item by item.
use Rattle.std.proofs.Common.{◌≡◌, ℕ, zero, suc, ◌<◌, ◌≤◌, Bool, true, false, cond, List, [], ◌∷◌, length, drop, get_or, refl, sym, ap, ◌∙◌, subst, arith}
use Rattle.std.specs.Prelude.{Option, Some, None}
use Rattle.std.specs.List.{fold}
use Rattle.pi_terms.specs.Tree.{Tree}
use Rattle.pi_constraints.specs.State.{State}
use Rattle.pi_constraints.specs.Store.{StoreView, IsTerm}
use Rattle.pi_constraints.specs.declared.store.Ref.{Ref}
use Rattle.pi_effects.specs.Sorting.{lesser, greater}
use Rattle.pi_lib_builtin.specs.Items.{AreItems, ShowsItem}
use Rattle.pi_lib_builtin.proofs.RowLemmas.{as-many, ItemAt, item-at, none-behind}
use Rattle.pi_lib.specs.Extremes.{extreme_of, beats}
use Rattle.pi_lib.specs.declared.extremes.End.{End}

abbrev better : End → State → Tree → Tree → Tree
better End.Least s t u = lesser s t u
better End.Greatest s t u = greater s t u

-- the best of the items before one, and what all of them come to
pub record IsBest {M : Type 0} (v : StoreView M) (end : End) (ts : List Tree) (i : ℕ) (r : Ref) : Type 0 where
  pub best : Tree
  pub is : IsTerm v r best
  pub goes : extreme_of end v.now.state ts ≡ Some (fold (better end v.now.state) best (drop i ts))

best-of : (end : End) (s : State) (t : Tree) (ts : List Tree) → extreme_of end s (t ∷ ts) ≡ Some (fold (better end s) t ts)
best-of End.Least s t ts = refl
best-of End.Greatest s t ts = refl

pub none-best : {M : Type 0} (v : StoreView M) (end : End) (rs : List Ref) (ts : List Tree) → AreItems v rs ts → length rs ≡ 0 → extreme_of end v.now.state ts ≡ None
none-best v End.Least [] [] h e = refl
none-best v End.Greatest [] [] h e = refl
none-best v end [] (t ∷ ts) h e = absurd h
none-best v end (r ∷ rs) ts h e = absurd (omega arith)

pub first-best : {M : Type 0} (v : StoreView M) (end : End) (rs : List Ref) (ts : List Tree) (r : Ref) → AreItems v rs ts → 0 < length rs → r ≡ get_or rs 0 r → IsBest v end ts 1 r
first-best v end [] ts r h low e = absurd (omega arith)
first-best v end (q ∷ rs) [] r h low e = absurd h
first-best v end (q ∷ rs) (t ∷ ts) r h low e = record { best = t; is = subst (λ p. IsTerm v p t) (sym e) h.0; goes = best-of end v.now.state t ts }

picked : (end : End) (s : State) (t u : Tree) (b : Bool) → b ≡ beats end s t u → better end s t u ≡ cond b u t
picked End.Least s t u b e = ap (λ c. cond c u t) (sym e)
picked End.Greatest s t u b e = ap (λ c. cond c u t) (sym e)

-- what `is_better` answers
abbrev Tells : {M : Type 0} → StoreView M → End → Ref → Ref → Bool → Type 0
Tells v end r q b = (t u : Tree) → IsTerm v r t → IsTerm v q u → b ≡ beats end v.now.state t u

next-goes : {M : Type 0} (v : StoreView M) (end : End) (ts : List Tree) (i : ℕ) (r q : Ref) (b : Bool) → (at : ItemAt v ts i q) → (before : IsBest v end ts i r) → Tells v end r q b
    → extreme_of end v.now.state ts ≡ Some (fold (better end v.now.state) (cond b at.it before.best) (drop (suc i) ts))
next-goes v end ts i r q b at before tells =
    before.goes ∙ (ap (λ us. Some (fold (better end v.now.state) before.best us)) at.behind
    ∙ ap (λ t. Some (fold (better end v.now.state) t (drop (suc i) ts))) (picked end v.now.state before.best at.it b (tells before.best at.it before.is at.is)))

pub better-next : {M : Type 0} (v : StoreView M) (end : End) (rs : List Ref) (ts : List Tree) (i : ℕ) (r q : Ref) (b : Bool) → AreItems v rs ts → i < length rs → q ≡ get_or rs i q → IsBest v end ts i r → Tells v end r q b → b ≡ true → IsBest v end ts (suc i) q
better-next v end rs ts i r q b h low e before tells won =
    let at : ItemAt v ts i q = item-at v rs ts i q h low e in
    record { best = at.it; is = at.is; goes = next-goes v end ts i r q b at before tells ∙ ap (λ c. Some (fold (better end v.now.state) (cond c at.it before.best) (drop (suc i) ts))) won }

pub best-stays : {M : Type 0} (v : StoreView M) (end : End) (rs : List Ref) (ts : List Tree) (i : ℕ) (r q : Ref) (b : Bool) → AreItems v rs ts → i < length rs → q ≡ get_or rs i q → IsBest v end ts i r → Tells v end r q b → b ≡ false → IsBest v end ts (suc i) r
best-stays v end rs ts i r q b h low e before tells lost =
    let at : ItemAt v ts i q = item-at v rs ts i q h low e in
    record { best = before.best; is = before.is; goes = next-goes v end ts i r q b at before tells ∙ ap (λ c. Some (fold (better end v.now.state) (cond c at.it before.best) (drop (suc i) ts))) lost }

pub best-shown : {M : Type 0} (v : StoreView M) (end : End) (rs : List Ref) (ts : List Tree) (i : ℕ) (r : Ref) → AreItems v rs ts → length rs ≤ i → IsBest v end ts i r → ShowsItem v (extreme_of end v.now.state ts) (Some r)
best-shown v end rs ts i r h all before =
    (before.best, before.goes ∙ ap (λ us. Some (fold (better end v.now.state) before.best us)) (none-behind ts i (omega (arith, as-many v rs ts h))), before.is)
