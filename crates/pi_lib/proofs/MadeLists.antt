-- Lists and arrays of new variables, one variable after another.
use Rattle.std.proofs.Common.{◌≡◌, ℕ, ◌+◌, ◌-◌, ◌<◌, List, [], ◌∷◌, ◌++◌, Some, ap, sym, ◌∙◌, subst, arith, add-one}
use Rattle.std.proofs.lemmas.List.FromFn.{map-range_with_len_more}
use Rattle.pi_terms.specs.Tree.{Tree, Trees, var, atom, comp, trees_of}
use Rattle.pi_terms.specs.ListNames.{nil, cell_name}
use Rattle.pi_terms.specs.ListCopies.{list_cell}
use Rattle.pi_constraints.specs.State.{next, with_new}
use Rattle.pi_constraints.specs.Store.{StoreView, IsTerm, AreTerms, Changes, Stays, Gives}
use Rattle.pi_constraints.specs.declared.store.Ref.{Ref}
use Rattle.pi_syntax.specs.PrintTerm.{array_name}
use Rattle.pi_unify.specs.Copying.{with_variables, Makes}
use Rattle.pi_unify.proofs.KeepsLemmas.{stays_then, makes_one_more}
use Rattle.pi_effects.specs.Items.{list_onto, list_of, array_of}
use Rattle.pi_effects.specs.Making.{new_from}
use Rattle.pi_lib.proofs.StoreLemmas.{next-with, are_more, cell_put}

-- ---- a list, from its last variable on

pub none_listed : {M : Type 0} (w : StoreView M) (list : Ref) (a : ℕ) → IsTerm w list (atom nil) → IsTerm w list (list_of (new_from a 0))
unfolding list_onto
none_listed w list a is = is

pub one_listed : {M : Type 0} (v w : StoreView M) (item list made : Ref) (n end first count k : ℕ) → first + count ≡ end → k < count → n ≡ end - k - 1 → IsTerm v item (var n) → IsTerm v list (list_of (new_from (first + (count - k)) k)) → ((ts : Trees) → AreTerms v (item ∷ list ∷ []) ts → IsTerm w made (comp cell_name ts)) → IsTerm w made (list_of (new_from (first + (count - (k + 1))) (k + 1)))
unfolding list_onto
one_listed v w item list made n end first count k whole less e h rest puts =
    let a : ℕ = first + (count - (k + 1)) in
    let here : n ≡ a = omega arith in
    let behind : first + (count - k) ≡ a + 1 = omega arith in
    let cell : IsTerm w made (list_cell (var a) (list_of (new_from (a + 1) k))) =
    cell_put v w item list made (var a) (list_of (new_from (a + 1) k)) (h ∙ ap (λ m. Some (var m)) here) (rest ∙ ap (λ m. Some (list_of (new_from m k))) behind) puts in
    subst (λ (j : ℕ). IsTerm w made (list_of (new_from a j))) (sym (add-one k)) cell

pub all_listed : {M : Type 0} (w : StoreView M) (list : Ref) (first count k : ℕ) → k ≡ count → IsTerm w list (list_of (new_from (first + (count - k)) k)) → IsTerm w list (list_of (new_from first count))
all_listed w list first count k e h =
    let none : first + (count - k) ≡ first = omega arith in
    h ∙ ap (λ a. Some (list_of (new_from a k))) none ∙ ap (λ j. Some (list_of (new_from first j))) e

-- the list of the newest variables is that of those that were made
pub newest_listed : {M : Type 0} (v w x : StoreView M) (made : Ref) (count : ℕ) → Makes v w count → Stays w x → ((first : ℕ) → first + count ≡ next w.now.state → IsTerm x made (list_of (new_from first count))) → IsTerm x made (list_of (new_from (next v.now.state) count))
newest_listed v w x made count makes stays listed = listed (next v.now.state) (sym (ap next makes.state ∙ next-with count v.now.state))

-- ---- Refs of variables, from the first on

pub one_made : {M : Type 0} (v w x : StoreView M) (rs new : List Ref) (k : ℕ) (r : Ref) → Makes v w k → AreTerms w rs (trees_of (new_from (next v.now.state) k)) → Gives w x (with_new w.now.state) r (var (next w.now.state)) → new ≡ rs ++ r ∷ [] → AreTerms x new (trees_of (new_from (next v.now.state) (k + 1)))
one_made v w x rs new k r makes are gives e =
    let first : ℕ = next v.now.state in
    let here : next w.now.state ≡ first + k = ap next makes.state ∙ next-with k v.now.state in
    let more : new_from first (k + 1) ≡ new_from first k ++ var (next w.now.state) ∷ [] = map-range_with_len_more var first k (next w.now.state) (sym here) in
    subst (λ (qs : List Ref). AreTerms x qs (trees_of (new_from first (k + 1)))) (sym e)
    (subst (λ (ts : List Tree). AreTerms x (rs ++ r ∷ []) (trees_of ts)) (sym more) (are_more w x rs (new_from first k) r (var (next w.now.state)) gives.changes.keeps are gives.term))

pub makes_next : {M : Type 0} (v w x : StoreView M) (k : ℕ) → Makes v w k → Changes w x (with_new w.now.state) → Makes v x (k + 1)
makes_next v w x k makes more = subst (λ (j : ℕ). Makes v x j) (sym (add-one k)) (makes_one_more v w x k makes more)

pub none_made : {M : Type 0} (v : StoreView M) (rs : List Ref) → rs ≡ [] → AreTerms v rs (trees_of (new_from (next v.now.state) 0))
unfolding AreTerms
none_made v rs e = subst (λ (qs : List Ref). AreTerms v qs (trees_of [])) (sym e) tt

pub all_made : {M : Type 0} (v w : StoreView M) (rs : List Ref) (k count : ℕ) → k ≡ count → Makes v w k → AreTerms w rs (trees_of (new_from (next v.now.state) k)) → Makes v w count × AreTerms w rs (trees_of (new_from (next v.now.state) count))
all_made v w rs k count e makes are = let P : ℕ → Type 0 = λ j. Makes v w j × AreTerms w rs (trees_of (new_from (next v.now.state) j)) in subst P e (makes, are)

-- an array of those that were made
pub array_made : {M : Type 0} (v w x : StoreView M) (rs args : List Ref) (count : ℕ) (made : Ref) → args ≡ rs → Makes v w count × AreTerms w rs (trees_of (new_from (next v.now.state) count)) → Stays w x → ((ts : Trees) → AreTerms w args ts → IsTerm x made (comp array_name ts)) → Gives v x (with_variables count v.now.state) made (array_of (new_from (next v.now.state) count))
array_made v w x rs args count made same makes stays puts =
    let ts : Trees = trees_of (new_from (next v.now.state) count) in
    record {
      changes = stays_then v w x (with_variables count v.now.state) makes.0 stays;
      term = puts ts (subst (λ (qs : List Ref). AreTerms w qs ts) (sym same) makes.1);
    }
