-- Whether a variable occurs in the value of one of several terms.
use Rattle.std.proofs.Common.{◌≡◌, ◌≢◌, ℕ, suc, ◌+◌, ◌<◌, ◌≤◌, ◌==◌, Some, add-one, Bool, true, false, ◌||◌, List, [], ◌∷◌, ◌++◌, refl, ap, sym, ◌∙◌, subst, inl, inr, arith, eq-eqb}
use Rattle.std.specs.List.{list_any}
use Rattle.std.proofs.lemmas.Bool.Decides.{nat_tests}
use Rattle.std.proofs.lemmas.List.Folds.{list_any-append}
use Rattle.pi_terms.specs.Tree.{Tree, var, int, atom, comp, Trees, no_trees, tree, cells, cells_all, args, arg_at, arity, tree_count, tree_at, drop_trees}
use Rattle.pi_terms.specs.Variables.{occurrences, occurrences_all, IsGround, firsts}
use Rattle.pi_terms.specs.Substitution.{instance, instances}
use Rattle.pi_constraints.specs.Value.{Bindings, IsAcyclic, value}
use Rattle.pi_constraints.specs.State.{bindings, followed, IsState}
use Rattle.pi_constraints.specs.Store.{StoreView, IsTerm, ShowsCell}
use Rattle.pi_constraints.specs.Unify.{does_occur}
use Rattle.pi_constraints.specs.declared.store.Ref.{Ref}
use Rattle.pi_constraints.specs.declared.store.Cell.{Cell}
use Rattle.pi_constraints.proofs.ValueLemmas.{value_goes_by_variables, unbound_is_its_own_value, ground_is_its_own_value}
use Rattle.pi_constraints.proofs.FollowLemmas.{followed_value}
use Rattle.pi_constraints.proofs.UnifyCells.{some_cells}
use Rattle.pi_unify.specs.Refs.{IsRef, term_of, root_of, args_from}
use Rattle.pi_unify.specs.Ahead.{in_list, args_on, IsArgs, AreArgs, term_and, some_hold, cells_of_values, HoldsNot}
use Rattle.pi_unify.specs.Answers.{TakesArg, LooksFor}
use Rattle.pi_unify.specs.declared.ahead.Rest.{Rest}
use Rattle.pi_unify.specs.Rests.{with_all}
use Rattle.pi_unify.specs.declared.occurs.Look.{Look}
use Rattle.pi_unify.proofs.RefLemmas.{ref_root, term_is, arg_ref, drop_at, drop_all}
use Rattle.pi_unify.proofs.RestLemmas.{IsPut, put}
use Rattle.pi_unify.proofs.AheadLemmas.{args_on-push, are_args-push}

-- what is taken off a stack that has the same to say as the terms that were asked for, and fewer cells
pub took_looks : {M : Type 0} (v : StoreView M) (n : ℕ) (ts : List Tree) (fs gs : List (Rest Ref)) (look : Look) → TakesArg v fs look gs → some_hold (bindings v.now.state) n ts ≡ some_hold (bindings v.now.state) n (args_on v fs []) → cells_of_values (bindings v.now.state) (args_on v fs []) < cells_of_values (bindings v.now.state) ts → LooksFor v n ts look gs
took_looks v n ts fs gs Look.Found takes same less = absurd takes
took_looks v n ts fs gs Look.Done takes same less = same ∙ ap (some_hold (bindings v.now.state) n) takes
took_looks v n ts fs gs (Look.Next r) takes same less =
    (takes.0, takes.1, same ∙ ap (some_hold (bindings v.now.state) n) (sym takes.2), subst (λ (us : List Tree). cells_of_values (bindings v.now.state) us < cells_of_values (bindings v.now.state) ts) (sym takes.2) less)

-- ---- a term in which the variable isn't

pub passed_over : (b : Bindings) (n : ℕ) (t : Tree) (ts : List Tree) → does_occur n (value b t) ≡ false → some_hold b n (t ∷ ts) ≡ some_hold b n ts
passed_over b n t ts none = rw none refl

pub fewer_cells : (b : Bindings) (t : Tree) (ts : List Tree) → cells_of_values b ts < cells_of_values b (t ∷ ts)
unfolding cells_of_values
fewer_cells b t ts = omega (arith, some_cells (value b t))

no_occurrences : (ns : List ℕ) → firsts ns ≡ [] → ns ≡ []
unfolding firsts
no_occurrences [] is = refl
no_occurrences (n ∷ ns) is = absurd (cc)

pub ground_holds_none : (b : Bindings) (n : ℕ) (t : Tree) → IsGround t → does_occur n (value b t) ≡ false
ground_holds_none b n t ground =
    ap (does_occur n) (ground_is_its_own_value b t ground) ∙ ap (list_any (λ m. m == n)) (no_occurrences (occurrences t) ground)

value_of_root : {M : Type 0} (v : StoreView M) (r : Ref) → IsState v.now.state → value (bindings v.now.state) (term_of v r) ≡ value (bindings v.now.state) (root_of v r)
value_of_root v r is = sym (followed_value (bindings v.now.state) (term_of v r) is.acyclic)

value_of_variable : {M : Type 0} (v : StoreView M) (r : Ref) (m : ℕ) → IsState v.now.state → IsRef v r → root_of v r ≡ var m → value (bindings v.now.state) (term_of v r) ≡ var m
value_of_variable v r m is ref root =
    value_of_root v r is ∙ (ap (value (bindings v.now.state)) root ∙ unbound_is_its_own_value (bindings v.now.state) m ((ref_root v r is ref).unbound m root))

pub variable_found : {M : Type 0} (v : StoreView M) (r : Ref) (m n : ℕ) (ts : List Tree) → IsState v.now.state → IsRef v r → root_of v r ≡ var m → m ≡ n → some_hold (bindings v.now.state) n (term_of v r ∷ ts) ≡ true
unfolding occurrences
variable_found v r m n ts is ref root same =
    let here : does_occur n (value (bindings v.now.state) (term_of v r)) ≡ true = ap (does_occur n) (value_of_variable v r m is ref root) ∙ rw (eq-eqb m n same) refl in
    rw here refl

pub variable_not_found : {M : Type 0} (v : StoreView M) (r : Ref) (m n : ℕ) → IsState v.now.state → IsRef v r → root_of v r ≡ var m → m ≢ n → does_occur n (value (bindings v.now.state) (term_of v r)) ≡ false
unfolding occurrences
variable_not_found v r m n is ref root apart =
    let other : (m == n) ≡ false = grind (arith, nat_tests) in
    ap (does_occur n) (value_of_variable v r m is ref root) ∙ rw other refl

-- ---- a compound

hold_args : (b : Bindings) (n : ℕ) (ts : Trees) → list_any (λ m. m == n) (occurrences_all (instances (λ k. value b (var k)) ts)) ≡ some_hold b n (in_list ts)
unfolding occurrences instance in_list
hold_args b n no_trees = refl
hold_args b n (tree t ts) =
    list_any-append (λ m. m == n) (occurrences (instance (λ k. value b (var k)) t)) (occurrences_all (instances (λ k. value b (var k)) ts))
    ∙ (ap (λ (w : Tree). does_occur n w || list_any (λ m. m == n) (occurrences_all (instances (λ k. value b (var k)) ts))) (sym (value_goes_by_variables b t))
    ∙ ap (λ (h : Bool). does_occur n (value b t) || h) (hold_args b n ts))

cells_args : (b : Bindings) (ts : Trees) → cells_all (instances (λ k. value b (var k)) ts) ≡ cells_of_values b (in_list ts)
unfolding cells instance in_list cells_of_values
cells_args b no_trees = refl
cells_args b (tree t ts) =
    let here : cells (value b t) ≡ cells (instance (λ k. value b (var k)) t) = ap cells (value_goes_by_variables b t) in
    let rest : cells_all (instances (λ k. value b (var k)) ts) ≡ cells_of_values b (in_list ts) = cells_args b ts in
    omega arith

cells_append : (b : Bindings) (ts us : List Tree) → cells_of_values b (ts ++ us) ≡ cells_of_values b ts + cells_of_values b us
unfolding cells_of_values
cells_append b [] us = omega arith
cells_append b (t ∷ ts) us = let rest : cells_of_values b (ts ++ us) ≡ cells_of_values b ts + cells_of_values b us = cells_append b ts us in omega arith

-- a term at a root, by its arguments; a variable is another matter
pub record ByArgs (b : Bindings) (n : ℕ) (t : Tree) : Type 0 where
  pub holds : does_occur n (value b t) ≡ some_hold b n (in_list (args t))
  pub size : cells_of_values b (in_list (args t)) < cells (value b t)

by_args : (b : Bindings) (n : ℕ) (t : Tree) → ((m : ℕ) → t ≡ var m → ⊥) → ByArgs b n t
unfolding occurrences instance in_list cells cells_of_values
by_args b n (var m) other = absurd (other m refl)
by_args b n (int i) other = record { holds = ap (does_occur n) (value_goes_by_variables b (int i)); size = some_cells (value b (int i)) }
by_args b n (atom f) other = record { holds = ap (does_occur n) (value_goes_by_variables b (atom f)); size = some_cells (value b (atom f)) }
by_args b n (comp f ts) other =
    let size : cells (value b (comp f ts)) ≡ suc (cells_all (instances (λ k. value b (var k)) ts)) = ap cells (value_goes_by_variables b (comp f ts)) in
    let args : cells_all (instances (λ k. value b (var k)) ts) ≡ cells_of_values b (in_list ts) = cells_args b ts in
    record {
      holds = ap (does_occur n) (value_goes_by_variables b (comp f ts)) ∙ hold_args b n ts;
      size = omega arith;
    }

-- the arguments stand in front of the others instead
pub root_by_args : {M : Type 0} (v : StoreView M) (r : Ref) (n : ℕ) (ts : List Tree) → IsState v.now.state → ((m : ℕ) → root_of v r ≡ var m → ⊥) → (some_hold (bindings v.now.state) n (term_of v r ∷ ts) ≡ some_hold (bindings v.now.state) n (in_list (args (root_of v r)) ++ ts)) × (cells_of_values (bindings v.now.state) (in_list (args (root_of v r)) ++ ts) < cells_of_values (bindings v.now.state) (term_of v r ∷ ts))
unfolding cells_of_values
root_by_args v r n ts is other =
    let b : Bindings = bindings v.now.state in
    let x : ByArgs b n (root_of v r) = by_args b n (root_of v r) other in
    let same : value b (term_of v r) ≡ value b (root_of v r) = value_of_root v r is in
    let size : cells (value b (term_of v r)) ≡ cells (value b (root_of v r)) = ap cells same in
    let all : cells_of_values b (in_list (args (root_of v r)) ++ ts) ≡ cells_of_values b (in_list (args (root_of v r))) + cells_of_values b ts = cells_append b (in_list (args (root_of v r))) ts in
    let less : cells_of_values b (in_list (args (root_of v r))) < cells (value b (root_of v r)) = x.size in (
      ap (λ (h : Bool). h || some_hold b n ts) (ap (does_occur n) same ∙ x.holds) ∙ sym (list_any-append (λ t. does_occur n (value b t)) (in_list (args (root_of v r))) ts),
      omega arith,
    )

no_args : (ts : Trees) → tree_count ts ≡ 0 → in_list ts ≡ []
unfolding in_list tree_count
no_args no_trees is = refl
no_args (tree t ts) is = absurd (omega arith)

args_put_by : {M : Type 0} (v : StoreView M) (r : Ref) (k : ℕ) (fs gs : List (Rest Ref)) → IsRef v r → arity (root_of v r) ≡ k → AreArgs v fs → IsPut r k fs gs → AreArgs v gs × (args_on v gs [] ≡ in_list (args (root_of v r)) ++ args_on v fs [])
args_put_by v r k fs gs ref size all (inl none) =
    let empty : arity (root_of v r) ≡ 0 = size ∙ none.0 in (
      subst (AreArgs v) (sym none.1) all,
      ap (λ (hs : List (Rest Ref)). args_on v hs []) none.1 ∙ ap (λ (ts : List Tree). ts ++ args_on v fs []) (sym (no_args (args (root_of v r)) empty)),
    )
args_put_by v r k fs gs ref size all (inr some) =
    let f : Rest Ref = record { of = r; next = 0; count = k } in
    let this : IsArgs v f = record { of = ref; some = some.0; count = size } in (
      subst (AreArgs v) (sym some.1) (are_args-push v fs f all this),
      ap (λ (hs : List (Rest Ref)). args_on v hs []) some.1 ∙ args_on-push v fs f [],
    )

pub args_put : {M : Type 0} (v : StoreView M) (r : Ref) (k : ℕ) (fs gs : List (Rest Ref)) → IsRef v r → arity (root_of v r) ≡ k → AreArgs v fs → gs ≡ with_all fs r k → AreArgs v gs × (args_on v gs [] ≡ in_list (args (root_of v r)) ++ args_on v fs [])
args_put v r k fs gs ref size all is = args_put_by v r k fs gs ref size all (put fs gs r k is)

-- what an integer and an atom leave
pub no_args_shown : {M : Type 0} (v : StoreView M) (t : Tree) (cell : Cell) → ((n : ℕ) → cell ≡ Cell.Var n → ⊥) → ((f k : ℕ) → cell ≡ Cell.Comp f k → ⊥) → ShowsCell v t cell → args t ≡ no_trees
no_args_shown v t (Cell.Var n) other none shows = absurd (other n refl)
no_args_shown v t (Cell.Int i) other none shows = ap args shows
no_args_shown v t (Cell.Atom f) other none shows = ap args shows.2
no_args_shown v t (Cell.Comp f k) other none shows = absurd (none f k refl)

-- ---- the steps of a look

abbrev asked : {M : Type 0} → StoreView M → Ref → List (Rest Ref) → List Tree
asked v r fs = term_of v r ∷ args_on v fs []

pub looked_past : {M : Type 0} (v : StoreView M) (n : ℕ) (r : Ref) (fs gs : List (Rest Ref)) (look : Look) → does_occur n (value (bindings v.now.state) (term_of v r)) ≡ false → TakesArg v fs look gs → LooksFor v n (term_and v r fs) look gs
looked_past v n r fs gs look none takes =
    took_looks v n (asked v r fs) fs gs look takes (passed_over (bindings v.now.state) n (term_of v r) (args_on v fs []) none) (fewer_cells (bindings v.now.state) (term_of v r) (args_on v fs []))

pub looked_inside : {M : Type 0} (v : StoreView M) (n : ℕ) (r : Ref) (fs hs gs : List (Rest Ref)) (look : Look) → IsState v.now.state → ((m : ℕ) → root_of v r ≡ var m → ⊥) → args_on v hs [] ≡ in_list (args (root_of v r)) ++ args_on v fs [] → TakesArg v hs look gs → LooksFor v n (term_and v r fs) look gs
looked_inside v n r fs hs gs look is other put takes =
    let b : Bindings = bindings v.now.state in
    let x : (some_hold b n (asked v r fs) ≡ some_hold b n (in_list (args (root_of v r)) ++ args_on v fs [])) × (cells_of_values b (in_list (args (root_of v r)) ++ args_on v fs []) < cells_of_values b (asked v r fs)) = root_by_args v r n (args_on v fs []) is other in
    took_looks v n (asked v r fs) hs gs look takes (x.0 ∙ ap (some_hold b n) (sym put)) (subst (λ (ts : List Tree). cells_of_values b ts < cells_of_values b (asked v r fs)) (sym put) x.1)

pub constant_holds_none : {M : Type 0} (v : StoreView M) (n : ℕ) (r : Ref) → IsState v.now.state → ((m : ℕ) → root_of v r ≡ var m → ⊥) → args (root_of v r) ≡ no_trees → does_occur n (value (bindings v.now.state) (term_of v r)) ≡ false
unfolding in_list
constant_holds_none v n r is other none =
    let x : ByArgs (bindings v.now.state) n (root_of v r) = by_args (bindings v.now.state) n (root_of v r) other in
    ap (does_occur n) (value_of_root v r is) ∙ (x.holds ∙ ap (λ (ts : Trees). some_hold (bindings v.now.state) n (in_list ts)) none)

pub compound_root : (t : Tree) (name : List ℕ) (ts : Trees) → t ≡ comp name ts → (m : ℕ) → t ≡ var m → ⊥
compound_root t name ts is m e = cc

pub one_held : (b : Bindings) (n : ℕ) (t : Tree) → some_hold b n (t ∷ []) ≡ does_occur n (value b t)
one_held b n t = elim (does_occur n (value b t)) as (λ h. (h || false) ≡ h) [ true ↦ refl | false ↦ refl ]

-- the variable occurs in the term and in what the stack leaves exactly where it occurs in the first one
pub record Looking {M : Type 0} (v : StoreView M) (n : ℕ) (from at : Ref) (fs : List (Rest Ref)) : Type 0 where
  pub term : IsRef v at
  pub args : AreArgs v fs
  pub same : some_hold (bindings v.now.state) n (term_and v at fs) ≡ does_occur n (value (bindings v.now.state) (term_of v from))

pub looking_first : {M : Type 0} (v : StoreView M) (n : ℕ) (r : Ref) (fs : List (Rest Ref)) → [] ≡ fs → IsRef v r → Looking v n r r fs
unfolding AreArgs args_on
looking_first v n r fs none ref = record {
  term = ref;
  args = subst (λ (gs : List (Rest Ref)). AreArgs v gs) none tt;
  same = ap (λ (gs : List (Rest Ref)). some_hold (bindings v.now.state) n (term_and v r gs)) (sym none) ∙ one_held (bindings v.now.state) n (term_of v r);
}

pub looking_next : {M : Type 0} (v : StoreView M) (n : ℕ) (from at next : Ref) (fs gs : List (Rest Ref)) → Looking v n from at fs → LooksFor v n (term_and v at fs) (Look.Next next) gs → Looking v n from next gs
looking_next v n from at next fs gs so step = record { term = step.0; args = step.1; same = sym step.2 ∙ so.same }

-- ---- a compound that is seen to hold others alone

pub others_first : {M : Type 0} (v : StoreView M) (n : ℕ) (r : Ref) → some_hold (bindings v.now.state) n (in_list (args (root_of v r))) ≡ some_hold (bindings v.now.state) n (in_list (args_from v r 0))
others_first v n r = refl

-- the arguments from a number on hold what all do
pub others_next : {M : Type 0} (v : StoreView M) (n i k : ℕ) (r x : Ref) → IsState v.now.state → IsRef v r → arity (root_of v r) ≡ k → i < k → ((t u : Tree) → IsTerm v r t → IsAcyclic (bindings v.now.state) → arg_at (followed (bindings v.now.state) t) i ≡ Some u → IsTerm v x u) → (IsState v.now.state → IsRef v x → HoldsNot v n x) → some_hold (bindings v.now.state) n (in_list (args_from v r i)) ≡ some_hold (bindings v.now.state) n (in_list (args_from v r (i + 1)))
unfolding in_list
others_next v n i k r x is ref size less says apart =
    let b : Bindings = bindings v.now.state in
    let ts : Trees = args (root_of v r) in
    let at : (u : Tree) × (tree_at ts i ≡ Some u) × (drop_trees i ts ≡ tree u (drop_trees (suc i) ts)) = drop_at ts i (omega (arith, size)) in
    let term : IsTerm v x at.0 = says (term_of v r) at.0 ref.is is.acyclic at.1 in
    let none : does_occur n (value b at.0) ≡ false = subst (λ (u : Tree). does_occur n (value b u) ≡ false) (term_is v x at.0 term) (apart is (arg_ref v r x i at.0 is ref at.1 term)) in
    ap (λ (us : Trees). some_hold b n (in_list us)) at.2
    ∙ (passed_over b n at.0 (in_list (drop_trees (suc i) ts)) none ∙ ap (λ (j : ℕ). some_hold b n (in_list (drop_trees j ts))) (sym (add-one i)))

pub others_end : {M : Type 0} (v : StoreView M) (n i k : ℕ) (r : Ref) → arity (root_of v r) ≡ k → k ≤ i → some_hold (bindings v.now.state) n (in_list (args_from v r i)) ≡ false
unfolding in_list
others_end v n i k r size most = ap (λ (us : Trees). some_hold (bindings v.now.state) n (in_list us)) (drop_all (args (root_of v r)) i (omega (arith, size)))

-- so the variable isn't in the compound
pub apart_by_args : {M : Type 0} (v : StoreView M) (n : ℕ) (r : Ref) → IsState v.now.state → ((m : ℕ) → root_of v r ≡ var m → ⊥) → some_hold (bindings v.now.state) n (in_list (args (root_of v r))) ≡ false → HoldsNot v n r
apart_by_args v n r is other none = ap (does_occur n) (value_of_root v r is) ∙ ((by_args (bindings v.now.state) n (root_of v r) other).holds ∙ none)
