-- Items by their Refs, at their places.
use Rattle.std.specs.Prelude.{◌≡◌, ℕ, zero, suc, ◌<◌, List, [], ◌∷◌, length, get_or, refl}
use Rattle.std.proofs.Common.{arith, ap}
use Rattle.pi_constraints.specs.declared.constraint.Item.{Item}
use Rattle.pi_constraints.specs.declared.store.Ref.{Ref}
use Rattle.pi_constraints.specs.Store.{StoreView, IsTerm}
use Rattle.pi_lib_constraints.specs.Kept.{item_term, AreRefsOf}

pub as-many : {M : Type 0} (v : StoreView M) (rs : List Ref) (xs : List Item) → AreRefsOf v rs xs → length rs ≡ length xs
as-many v [] [] h = refl
as-many v [] (x ∷ xs) h = absurd h
as-many v (r ∷ rs) [] h = absurd h
as-many v (r ∷ rs) (x ∷ xs) h = ap suc (as-many v rs xs h.1)

pub ref-at : {M : Type 0} (v : StoreView M) (rs : List Ref) (xs : List Item) (k : ℕ) (e : Ref) (f : Item) → AreRefsOf v rs xs → k < length rs → IsTerm v (get_or rs k e) (item_term (get_or xs k f))
ref-at v [] [] k e f h low = absurd (omega (arith, low))
ref-at v [] (x ∷ xs) k e f h low = absurd h
ref-at v (r ∷ rs) [] k e f h low = absurd h
ref-at v (r ∷ rs) (x ∷ xs) zero e f h low = h.0
ref-at v (r ∷ rs) (x ∷ xs) (suc k) e f h low = ref-at v rs xs k e f h.1 (omega (arith, low))
