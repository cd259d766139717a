-- A return to a mark of a copying store.
use Rattle.std.proofs.Common.{◌≡◌, ℕ, zero, suc, ◌+◌, ◌-◌, ◌<◌, ◌≤◌, Bool, true, List, [], ◌∷◌, length, take, Option, Some, None, refl, ap, sym, subst, ◌∙◌, arith, add-one}
use Rattle.std.specs.Prelude.{slice_get, slice_index_or}
use Rattle.pi_constraints.specs.Store.{Returns}
use Rattle.pi_types.specs.TreeStore.{moment, store_view}
use Rattle.pi_types.specs.TreeStoreSound.{IsSound}
use Rattle.pi_types.specs.declared.tree_store.state.TreeState.{TreeState}
use Rattle.pi_types.proofs.TreeStoreTrees.{Names}
use Rattle.pi_types.proofs.TreeStoreKeeps.{below_to}

length_front : {X : Type 0} (xs : List X) (m : ℕ) → m < length xs → length (take (suc m) xs) ≡ suc m
length_front [] m h = absurd (omega arith)
length_front (x ∷ xs) zero h = refl
length_front (x ∷ xs) (suc m) h = ap suc (length_front xs m (omega arith))

length_take : {X : Type 0} (xs : List X) (m : ℕ) → m < length xs → length (take m xs) ≡ m
length_take [] m h = absurd (omega arith)
length_take (x ∷ xs) zero h = refl
length_take (x ∷ xs) (suc m) h = ap suc (length_take xs m (omega arith))

take_take : {X : Type 0} (xs : List X) (m : ℕ) → take m (take (suc m) xs) ≡ take m xs
take_take [] zero = refl
take_take [] (suc m) = refl
take_take (x ∷ xs) zero = refl
take_take (x ∷ xs) (suc m) = ap (λ ys. x ∷ ys) (take_take xs m)

get_take : {X : Type 0} (xs : List X) (m : ℕ) → slice_get (take (suc m) xs) m ≡ slice_get xs m
get_take [] m = refl
get_take (x ∷ xs) zero = refl
get_take (x ∷ xs) (suc m) = get_take xs m

-- the last state of the front is the one with the mark's number, and those before it are left
pub record Popped (e f : List TreeState) (m : ℕ) (o : Option TreeState) : Type 0 where
  pub left : f ≡ take m e
  pub kept : o ≡ slice_get e m

pub popped : (e f g : List TreeState) (m : ℕ) (o : Option TreeState) → m < length e → f ≡ take (m + 1) e → g ≡ take (length f - 1) f → o ≡ slice_get f (length f - 1) → Popped e g m o
popped e f g m o h a b d =
    let a2 : f ≡ take (suc m) e = a ∙ ap (λ n. take n e) (add-one m) in
    let l : length f ≡ suc m = ap length a2 ∙ length_front e m h in
    let n : length f - 1 ≡ m = omega arith in
    record {
      left = b ∙ (ap (λ j. take j f) n ∙ (ap (take m) a2 ∙ take_take e m));
      kept = d ∙ (ap (λ j. slice_get f j) n ∙ (ap (λ xs. slice_get xs m) a2 ∙ get_take e m));
    }

at_front : (e : List TreeState) (p kept : TreeState) (m n : ℕ) → Some kept ≡ slice_get e m → n ≤ m → slice_index_or (take m e) n kept ≡ slice_index_or e n p
at_front [] p kept m n k l = absurd (cc)
at_front (s ∷ e) p kept zero zero k l = cc
at_front (s ∷ e) p kept zero (suc n) k l = absurd (omega arith)
at_front (s ∷ e) p kept (suc m) zero k l = refl
at_front (s ∷ e) p kept (suc m) (suc n) k l = at_front e p kept m n k (omega arith)

last : (e : List TreeState) (p kept : TreeState) (m : ℕ) → Some kept ≡ slice_get e m → kept ≡ slice_index_or e m p
last [] p kept m k = absurd (cc)
last (s ∷ e) p kept zero k = cc
last (s ∷ e) p kept (suc m) k = last e p kept m k

get_of_take : (e : List TreeState) (m i : ℕ) (s : TreeState) → slice_get (take m e) i ≡ Some s → slice_get e i ≡ Some s
get_of_take [] zero i s f = f
get_of_take [] (suc m) i s f = f
get_of_take (x ∷ e) zero i s f = absurd (cc)
get_of_take (x ∷ e) (suc m) zero s f = f
get_of_take (x ∷ e) (suc m) (suc i) s f = get_of_take e m i s f

no_get : (e : List TreeState) (m : ℕ) → m < length e → None ≡ slice_get e m → ⊥
no_get [] m h f = omega arith
no_get (x ∷ e) zero h f = cc
no_get (x ∷ e) (suc m) h f = no_get e m (omega arith) f

pub returns_to : (names : Names) (e g : List TreeState) (p kept : TreeState) (k : Bool) (m : ℕ) → m < length e → Popped e g m (Some kept) → Returns (λ n. n) (store_view names e p k) (store_view names g kept true) m
returns_to names e g p kept k m h q =
    let P : List TreeState → Type 0 = λ w. Returns (λ n. n) (store_view names e p k) (store_view names w kept true) m in
    subst P (sym q.left) (record {
      now = ap (λ s. moment names s) (last e p kept m q.kept);
      beside = λ n. refl;
      good = λ n i l. let b : n ≤ m = l in let w : length (take m e) ≡ m = length_take e m h in below_to n (length (take m e) + 1) (omega arith);
      same = λ n i l. ap (λ s. moment names s) (at_front e p kept m n q.kept l);
      names = λ j name i. i;
    })

pub sound_kept : (names : Names) (e g : List TreeState) (p kept : TreeState) (m : ℕ) → Popped e g m (Some kept) → IsSound names e p → IsSound names g kept
sound_kept names e g p kept m q h =
    let P : List TreeState → Type 0 = λ w. IsSound names w kept in
    subst P (sym q.left) (record { distinct = h.distinct; present_is = h.earlier_are m kept (sym q.kept); earlier_are = λ i s f. h.earlier_are i s (get_of_take e m i s f) })

pub sound_left : (names : Names) (e g : List TreeState) (p : TreeState) (m : ℕ) (o : Option TreeState) → Popped e g m o → IsSound names e p → IsSound names g p
sound_left names e g p m o q h =
    let P : List TreeState → Type 0 = λ w. IsSound names w p in
    subst P (sym q.left) (record { distinct = h.distinct; present_is = h.present_is; earlier_are = λ i s f. h.earlier_are i s (get_of_take e m i s f) })

pub none_kept : (e g : List TreeState) (m : ℕ) → m < length e → Popped e g m None → ⊥
none_kept e g m h q = no_get e m h q.kept
