-- Two compounds, which are one where their names, their numbers of arguments and their arguments are.
use Rattle.std.proofs.Common.{◌≡◌, ◌⊎◌, ℕ, suc, ◌+◌, ◌<◌, ◌≤◌, ◌==◌, Bool, true, false, cond, ◌&&◌, List, [], refl, ap, sym, ◌∙◌, subst, inl, inr, arith, eq-eqb}
use Rattle.std.specs.Prelude.{ℤ}
use Rattle.std.specs.Ordering.{is_eq, int_cmp}
use Rattle.std.proofs.lemmas.Bool.{cases_Bool, eqb-true}
use Rattle.pi_terms.specs.Tree.{Tree, var, int, atom, comp, Trees, no_trees, tree, cells, cells_all, tree_count}
use Rattle.pi_terms.specs.Order.{name_order, order}
use Rattle.pi_terms.specs.Variables.{Occurs, OccursInAny}
use Rattle.pi_terms.specs.Substitution.{instance, instances}
use Rattle.pi_constraints.specs.Value.{Bindings, value}
use Rattle.pi_constraints.specs.State.{State, bindings, next, SpeaksBelow}
use Rattle.pi_constraints.specs.Unify.{in_pairs, clash, parts, PairsBelow, cells_of_pairs}
use Rattle.pi_constraints.proofs.ValueLemmas.{value_goes_by_variables}
use Rattle.pi_constraints.proofs.MatchLemmas.{same_name, name_itself, same_from_identical, identical_from_same}
use Rattle.pi_constraints.proofs.UnifyCells.{some_cells}
use Rattle.pi_constraints.proofs.UnifyOutcome.{AreOne, NoWay, Parts, IsOutcome}

-- ---- arguments in pairs

pub pairs_below : (n : ℕ) (ts us : Trees) → ((m : ℕ) → OccursInAny m ts → m < n) → ((m : ℕ) → OccursInAny m us → m < n) → PairsBelow n (in_pairs ts us)
unfolding in_pairs PairsBelow Occurs
pairs_below n no_trees us left right = tt
pairs_below n (tree t ts) no_trees left right = tt
pairs_below n (tree t ts) (tree u us) left right = ((λ m h. left m (inl h)), (λ m h. right m (inl h)), pairs_below n ts us (λ m h. left m (inr h)) (λ m h. right m (inr h)))

pairs_from : (a : ℕ → Tree) (ts us : Trees) → tree_count ts ≡ tree_count us → AreOne a (in_pairs ts us) → instances a ts ≡ instances a us
unfolding in_pairs AreOne instance tree_count
pairs_from a no_trees no_trees same one = refl
pairs_from a no_trees (tree u us) same one = absurd (omega arith)
pairs_from a (tree t ts) no_trees same one = absurd (omega arith)
pairs_from a (tree t ts) (tree u us) same one =
    let here : instance a t ≡ instance a u = one.0 in
    let rest : instances a ts ≡ instances a us = pairs_from a ts us (omega arith) one.1 in
    cc

pairs_to : (a : ℕ → Tree) (ts us : Trees) → instances a ts ≡ instances a us → AreOne a (in_pairs ts us)
unfolding in_pairs AreOne instance
pairs_to a no_trees us same = tt
pairs_to a (tree t ts) no_trees same = tt
pairs_to a (tree t ts) (tree u us) same =
    let here : instance a t ≡ instance a u = cc in
    let rest : instances a ts ≡ instances a us = cc in
    (here, pairs_to a ts us rest)

abbrev values : Bindings → Trees → Trees
values b ts = instances (λ n. value b (var n)) ts

pairs_size : (b : Bindings) (ts us : Trees) → cells_of_pairs b (in_pairs ts us) ≤ cells_all (values b ts) + cells_all (values b us)
unfolding in_pairs cells_of_pairs instance cells
pairs_size b no_trees us = omega arith
pairs_size b (tree t ts) no_trees = omega arith
pairs_size b (tree t ts) (tree u us) =
    let left : cells (value b t) ≡ cells (instance (λ n. value b (var n)) t) = ap cells (value_goes_by_variables b t) in
    let right : cells (value b u) ≡ cells (instance (λ n. value b (var n)) u) = ap cells (value_goes_by_variables b u) in
    let rest : cells_of_pairs b (in_pairs ts us) ≤ cells_all (values b ts) + cells_all (values b us) = pairs_size b ts us in
    omega arith

compound_size : (b : Bindings) (f : List ℕ) (ts : Trees) → cells (value b (comp f ts)) ≡ suc (cells_all (values b ts))
unfolding instance cells
compound_size b f ts = ap cells (value_goes_by_variables b (comp f ts))

-- ---- names and numbers of arguments

count_instances : (a : ℕ → Tree) (ts : Trees) → tree_count (instances a ts) ≡ tree_count ts
unfolding instance tree_count
count_instances a no_trees = refl
count_instances a (tree t ts) = ap suc (count_instances a ts)

not_same_name : (f g : List ℕ) → is_eq (name_order f g) ≡ false → f ≡ g → ⊥
not_same_name f g e same = let here : is_eq (name_order f g) ≡ true = subst (λ (h : List ℕ). is_eq (name_order f h) ≡ true) same (name_itself f) in cc

two_tests : (p q : Bool) → (p && q) ≡ false → (p ≡ false) ⊎ (q ≡ false)
two_tests true q e = inr e
two_tests false q e = inl refl

passed_both : (p q : Bool) → (p && q) ≡ true → (p ≡ true) × (q ≡ true)
passed_both true q e = (refl, e)
passed_both false q e = absurd (cc)

-- ---- outcomes

same_parts : (s : State) (f g : List ℕ) (ts us : Trees) → SpeaksBelow (next s) (comp f ts) → SpeaksBelow (next s) (comp g us) → f ≡ g → tree_count ts ≡ tree_count us → Parts s (comp f ts) (comp g us) (in_pairs ts us)
unfolding instance Occurs
same_parts s f g ts us left right name many = record {
  below = pairs_below (next s) ts us left right;
  from = λ a one. let args : instances a ts ≡ instances a us = pairs_from a ts us many one in cc;
  to = λ a one. let args : instances a ts ≡ instances a us = cc in pairs_to a ts us args;
  size = omega (arith, pairs_size (bindings s) ts us, compound_size (bindings s) f ts, compound_size (bindings s) g us);
}

other_compound : (s : State) (f g : List ℕ) (ts us : Trees) → (is_eq (name_order f g) ≡ false) ⊎ ((tree_count ts == tree_count us) ≡ false) → NoWay s (comp f ts) (comp g us)
unfolding instance
other_compound s f g ts us (inl e) a is one = let name : f ≡ g = cc in not_same_name f g e name
other_compound s f g ts us (inr e) a is one =
    let args : instances a ts ≡ instances a us = cc in
    let many : tree_count ts ≡ tree_count us = sym (count_instances a ts) ∙ (ap tree_count args ∙ count_instances a us) in
    let yes_they_are : (tree_count ts == tree_count us) ≡ true = eq-eqb (tree_count ts) (tree_count us) many in
    cc

pub compounds_outcome : (s : State) (f g : List ℕ) (ts us : Trees) → SpeaksBelow (next s) (comp f ts) → SpeaksBelow (next s) (comp g us) → IsOutcome s (comp f ts) (comp g us) (cond (is_eq (name_order f g) && (tree_count ts == tree_count us)) (parts (in_pairs ts us)) clash)
compounds_outcome s f g ts us left right = elim (cases_Bool (is_eq (name_order f g) && (tree_count ts == tree_count us))) [
  | inl hit ↦
      let x : (is_eq (name_order f g) ≡ true) × ((tree_count ts == tree_count us) ≡ true) = passed_both (is_eq (name_order f g)) (tree_count ts == tree_count us) hit in
      rw hit (same_parts s f g ts us left right (same_name f g x.0) (eqb-true (tree_count ts) (tree_count us) x.1))
  | inr miss ↦ rw miss (other_compound s f g ts us (two_tests (is_eq (name_order f g)) (tree_count ts == tree_count us) miss))
]

-- two terms that are the same, each with a cell or more
no_parts : (s : State) (t u : Tree) → t ≡ u → Parts s t u []
unfolding AreOne PairsBelow cells_of_pairs
no_parts s t u same = record {
  below = tt;
  from = λ a one. ap (instance a) same;
  to = λ a one. tt;
  size = omega (arith, some_cells (value (bindings s) t));
}

pub same_outcome : (s : State) (t u : Tree) → t ≡ u → IsOutcome s t u (parts [])
same_outcome s t u same = no_parts s t u same

pub ints_outcome : (s : State) (i j : ℤ) → IsOutcome s (int i) (int j) (cond (is_eq (int_cmp i j)) (parts []) clash)
unfolding instance order
ints_outcome s i j = elim (cases_Bool (is_eq (int_cmp i j))) [
  | inl hit ↦ rw hit (no_parts s (int i) (int j) (same_from_identical (int i) (int j) hit))
  | inr miss ↦ rw miss (λ a is one. let hit : is_eq (int_cmp i j) ≡ true = identical_from_same (int i) (int j) one in cc)
]

pub atoms_outcome : (s : State) (f g : List ℕ) → IsOutcome s (atom f) (atom g) (cond (is_eq (name_order f g)) (parts []) clash)
unfolding instance
atoms_outcome s f g = elim (cases_Bool (is_eq (name_order f g))) [
  | inl hit ↦ rw hit (no_parts s (atom f) (atom g) (ap atom (same_name f g hit)))
  | inr miss ↦ rw miss (λ a is one. let name : f ≡ g = cc in not_same_name f g miss name)
]
