-- The arguments of a term that is called, one after the other.
use Rattle.std.proofs.Common.{◌≡◌, inl, inr, ℕ, suc, ◌+◌, List, [], ◌∷◌, ◌++◌, Option, Some, None, length, drop, get_or, refl, sym, ◌∙◌, ap, subst, arith, length-append}
use Rattle.std.specs.Prelude.{slice_get}
use Rattle.pi_terms.specs.Tree.{Tree, Trees, no_trees, tree, trees_of, tree_count, tree_at, args}
use Rattle.pi_terms.proofs.GetLemmas.{get_append_cases}
use Rattle.pi_constraints.specs.Store.{StoreView, IsTerm, AreTerms, ShowsCell}
use Rattle.pi_constraints.specs.declared.store.Ref.{Ref}
use Rattle.pi_constraints.specs.declared.store.Cell.{Cell}
use Rattle.pi_effects.specs.Items.{each_tree}
use Rattle.pi_meaning.specs.Shared.Calls.{called_by}
use Rattle.pi_engine_facts.specs.Called.{IsCalled, IsRoot}

-- ---- the first so many

pub record AreFirst {M : Type 0} (v : StoreView M) (rs : List Ref) (i : ℕ) (ts : Trees) : Type 0 where
  pub long : length rs ≡ i
  pub each : (j : ℕ) (r : Ref) (u : Tree) → slice_get rs j ≡ Some r → tree_at ts j ≡ Some u → IsTerm v r u

pub first-none : {M : Type 0} (v : StoreView M) (rs : List Ref) (ts : Trees) → rs ≡ [] → AreFirst v rs 0 ts
first-none v rs ts none = record { long = ap length none; each = λ j r u at there. absurd (cc (at, ap (λ x. slice_get x j) none)) }

pub first-more : {M : Type 0} (v : StoreView M) (rs new : List Ref) (i : ℕ) (ts : Trees) (r : Ref) → AreFirst v rs i ts → ((u : Tree) → tree_at ts i ≡ Some u → IsTerm v r u) → new ≡ rs ++ r ∷ [] → AreFirst v new (i + 1) ts
first-more v rs new i ts r before one pushed =
    record {
      long = ap length pushed ∙ length-append rs (r ∷ []) ∙ omega (arith, before.long);
      each = λ j q u at there.
          elim (get_append_cases rs r j q (ap (λ x. slice_get x j) (sym pushed) ∙ at)) [
            | inl old ↦ before.each j q u old there
            | inr new ↦ subst (λ x. IsTerm v x u) (sym new.1) (one u (ap (tree_at ts) (sym before.long ∙ sym new.0) ∙ there))
          ];
    }

pub are-all : {M : Type 0} (v : StoreView M) (rs : List Ref) (ts : Trees) → length rs ≡ tree_count ts → ((j : ℕ) (r : Ref) (u : Tree) → slice_get rs j ≡ Some r → tree_at ts j ≡ Some u → IsTerm v r u) → AreTerms v rs ts
unfolding AreTerms tree_count tree_at
are-all v [] no_trees long each = tt
are-all v [] (tree t ts) long each = absurd (omega (arith, long))
are-all v (r ∷ rs) no_trees long each = absurd (omega (arith, long))
are-all v (r ∷ rs) (tree t ts) long each = (each 0 r t refl refl, are-all v rs ts (omega (arith, long)) (λ j q u at there. each (suc j) q u at there))

-- ---- what stands at a root

pub root-atom : {M : Type 0} (v : StoreView M) (rs : List Ref) (k : ℕ) (t : Tree) → rs ≡ [] → ShowsCell v t (Cell.Atom k) → IsRoot v (Some k) rs t
unfolding AreTerms each_tree
root-atom v rs k t none (name, named, is) = (name, no_trees, named, subst (λ qs. AreTerms v qs no_trees) (sym none) tt, λ more. ap (λ u. called_by u more) is)

pub root-comp : {M : Type 0} (v : StoreView M) (rs : List Ref) (k count : ℕ) (t : Tree) → ShowsCell v t (Cell.Comp k count) → AreFirst v rs count (args t) → IsRoot v (Some k) rs t
root-comp v rs k count t (name, named, is, many) first = (name, args t, named, are-all v rs (args t) (first.long ∙ many) first.each, λ more. ap (λ u. called_by u more) is)

pub root-var : {M : Type 0} (v : StoreView M) (rs : List Ref) (n : ℕ) (t : Tree) → ShowsCell v t (Cell.Var n) → IsRoot v None rs t
root-var v rs n t is more = ap (λ u. called_by u more) is

pub root-int : {M : Type 0} (v : StoreView M) (rs : List Ref) (n : _) (t : Tree) → ShowsCell v t (Cell.Int n) → IsRoot v None rs t
root-int v rs n t is more = ap (λ u. called_by u more) is

-- ---- with others behind

same-trees : (us : Trees) → trees_of (each_tree us) ≡ us
unfolding each_tree
same-trees no_trees = refl
same-trees (tree u us) = ap (tree u) (same-trees us)

are-behind : {M : Type 0} (v : StoreView M) (rs qs : List Ref) (ts us : Trees) → AreTerms v rs ts → AreTerms v qs us → AreTerms v (rs ++ qs) (trees_of (each_tree ts ++ each_tree us))
unfolding AreTerms each_tree
are-behind v [] qs no_trees us none are = subst (AreTerms v qs) (sym (same-trees us)) are
are-behind v [] qs (tree t ts) us none are = absurd none
are-behind v (r ∷ rs) qs no_trees us first are = absurd first
are-behind v (r ∷ rs) qs (tree t ts) us first are = (first.0, are-behind v rs qs ts us first.1 are)

others : {M : Type 0} (v : StoreView M) (terms : List Ref) (t : Tree) (ts : Trees) → AreTerms v terms (tree t ts) → AreTerms v (drop 1 terms) ts
unfolding AreTerms
others v [] t ts are = absurd are
others v (r ∷ rs) t ts are = are.1

pub root-called : {M : Type 0} (v : StoreView M) (name : Option ℕ) (own all terms : List Ref) (t u : Tree) (ts : Trees) → IsRoot v name own u → AreTerms v terms (tree t ts) → all ≡ own ++ drop 1 terms → IsCalled v name all (called_by u (each_tree ts))
root-called v None own all terms t u ts root are e = root (each_tree ts)
root-called v (Some n) own all terms t u ts root are e = (
  record { name = root.0; args = trees_of (each_tree root.1 ++ each_tree ts) },
  root.4 (each_tree ts),
  root.2,
  subst (λ rs. AreTerms v rs (trees_of (each_tree root.1 ++ each_tree ts))) (sym e) (are-behind v own (drop 1 terms) root.1 ts root.3 (others v terms t ts are)),
)

pub none-there : {M : Type 0} (v : StoreView M) (terms : List Ref) (t : Tree) (ts : Trees) → length terms ≡ 0 → AreTerms v terms (tree t ts) → ⊥
unfolding AreTerms
none-there v [] t ts none are = are
none-there v (r ∷ rs) t ts none are = absurd (omega (arith, none))

pub first-there : {M : Type 0} (v : StoreView M) (terms : List Ref) (t : Tree) (ts : Trees) → AreTerms v terms (tree t ts) → IsTerm v (get_or terms 0 (record { number = 0 })) t
unfolding AreTerms
first-there v [] t ts are = absurd are
first-there v (r ∷ rs) t ts are = are.0
