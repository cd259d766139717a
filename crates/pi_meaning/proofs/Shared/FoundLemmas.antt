-- A predicate or function by its name and number of arguments, as a call finds it.
use Rattle.std.proofs.Common.{◌≡◌, ℕ, zero, suc, ◌<◌, ◌==◌, ◌&&◌, Bool, true, false, cond, List, [], ◌∷◌, Some, inl, inr, get_or, refl, sym, ◌∙◌, ap, subst, arith, eqb-true, eq-eqb}
use Rattle.std.specs.Prelude.{slice_get, AllPairs}
use Rattle.std.specs.Ordering.{is_eq}
use Rattle.std.proofs.lemmas.Bool.{cases_Bool}
use Rattle.std.proofs.lemmas.Option.{slice_get_within, get_or_from_slice_get}
use Rattle.pi_terms.specs.Tree.{Tree, var, int, atom, comp}
use Rattle.pi_terms.specs.Order.{order, name_order}
use Rattle.pi_core.specs.CoreTree.{PredTree, is_pred, find_pred}
use Rattle.pi_meaning.specs.CoreMeaning.Sound.{IsAnother}
use Rattle.pi_constraints.proofs.MatchLemmas.{same_from_identical, identical_from_same}

name_of : Tree → List ℕ
name_of (var n) = []
name_of (int n) = []
name_of (atom name) = name
name_of (comp f ts) = []

pub names-same : (f g : List ℕ) → is_eq (name_order f g) ≡ true → f ≡ g
unfolding order name_of
names-same f g same = ap name_of (same_from_identical (atom f) (atom g) same)

pub is-named : (f g : List ℕ) → f ≡ g → is_eq (name_order f g) ≡ true
unfolding order
is-named f g same = identical_from_same (atom f) (atom g) (ap atom same)

parts : (function own a b : Bool) (f g : List ℕ) (m n : ℕ) → cond function (own && (a && b)) (cond own false (a && b)) ≡ true → (a ≡ true → f ≡ g) → (b ≡ true → m ≡ n) → (f ≡ g) × (m ≡ n)
parts true true true true f g m n is one two = (one refl, two refl)
parts true true true false f g m n is one two = absurd cc
parts true true false b f g m n is one two = absurd cc
parts true false a b f g m n is one two = absurd cc
parts false true a b f g m n is one two = absurd cc
parts false false true true f g m n is one two = (one refl, two refl)
parts false false true false f g m n is one two = absurd cc
parts false false false b f g m n is one two = absurd cc

as-parts : (function : Bool) (name : List ℕ) (k : ℕ) (q : PredTree) →
    is_pred function name k q ≡ cond function (q.function && (is_eq (name_order q.name name) && (q.arity == k))) (cond q.function false (is_eq (name_order q.name name) && (q.arity == k)))
as-parts true name k q = refl
as-parts false name k q = refl

whole : (function own a b : Bool) → own ≡ function → a ≡ true → b ≡ true → cond function (own && (a && b)) (cond own false (a && b)) ≡ true
whole true true true true same one two = refl
whole true true true false same one two = absurd cc
whole true true false b same one two = absurd cc
whole true false a b same one two = absurd cc
whole false true a b same one two = absurd cc
whole false false true true same one two = refl
whole false false true false same one two = absurd cc
whole false false false b same one two = absurd cc

is-it : (function : Bool) (pred : PredTree) → pred.function ≡ function → is_pred function pred.name pred.arity pred ≡ true
is-it function pred same =
    as-parts function pred.name pred.arity pred ∙ whole function pred.function (is_eq (name_order pred.name pred.name)) (pred.arity == pred.arity) same (is-named pred.name pred.name refl) (eq-eqb pred.arity pred.arity refl)

some-same : (q pred : PredTree) → Some q ≡ Some pred → q ≡ pred
some-same q pred same = cc

clash : (preds : List PredTree) → AllPairs IsAnother preds → (i n : ℕ) (q pred : PredTree) → i < n → slice_get preds i ≡ Some q → slice_get preds n ≡ Some pred → (q.name ≡ pred.name) × (q.arity ≡ pred.arity) → ⊥
clash preds apart i n q pred below there at same =
    subst (λ r. IsAnother r pred) (get_or_from_slice_get preds i q pred there)
    (subst (IsAnother (get_or preds i pred)) (get_or_from_slice_get preds n pred pred at) (apart i n pred below (slice_get_within preds n pred at))) same.0 same.1

pub named : (function : Bool) (name : List ℕ) (k : ℕ) (q : PredTree) → is_pred function name k q ≡ true → (q.name ≡ name) × (q.arity ≡ k)
named function name k q is = parts function q.function (is_eq (name_order q.name name)) (q.arity == k) q.name name q.arity k (sym (as-parts function name k q) ∙ is) (names-same q.name name) (eqb-true q.arity k)

found-one : (function : Bool) (name : List ℕ) (k : ℕ) (preds : List PredTree) (n : ℕ) (pred : PredTree) → slice_get preds n ≡ Some pred → is_pred function name k pred ≡ true →
    ((i : ℕ) (q : PredTree) → i < n → slice_get preds i ≡ Some q → is_pred function name k q ≡ false) → find_pred function name k preds ≡ Some pred
unfolding find_pred
found-one function name k [] n pred at is others = absurd cc
found-one function name k (q ∷ preds) zero pred at is others =
    ap (λ r. cond (is_pred function name k r) (Some r) (find_pred function name k preds)) (some-same q pred at) ∙ ap (λ b. cond b (Some pred) (find_pred function name k preds)) is
found-one function name k (q ∷ preds) (suc n) pred at is others =
    ap (λ b. cond b (Some q) (find_pred function name k preds)) (others 0 q (omega arith) refl)
    ∙ found-one function name k preds n pred at is (λ i r below there. others (suc i) r (omega (arith, below)) there)

pub found-by-number : (function : Bool) (preds : List PredTree) (n : ℕ) (pred : PredTree) → AllPairs IsAnother preds → slice_get preds n ≡ Some pred → pred.function ≡ function → find_pred function pred.name pred.arity preds ≡ Some pred
found-by-number function preds n pred apart at same =
    found-one function pred.name pred.arity preds n pred at (is-it function pred same)
    (λ i q below there. elim (cases_Bool (is_pred function pred.name pred.arity q)) [
      | inl is ↦ absurd (clash preds apart i n q pred below there at (named function pred.name pred.arity q is))
      | inr not ↦ not
    ])
