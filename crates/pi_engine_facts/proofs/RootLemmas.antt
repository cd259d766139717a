-- Lemmas on roots: a fact whose head differs from a call at a root doesn't unify with it.
use Rattle.std.proofs.Common.{◌≡◌, inl, inr, ℕ, zero, suc, ◌≤◌, ◌<◌, length, get_or, [], ◌∷◌, refl, ap, sym, subst, ◌∙◌, arith}
use Rattle.std.specs.Prelude.{List, Option, Some, None, option_map, option_and_then, replicate, slice_get, ⊤}
use Rattle.pi_terms.specs.Tree.{Tree, var, int, atom, comp, Trees, no_trees, tree, tree_at, tree_count, arg_at}
use Rattle.pi_terms.specs.Places.{Places, held}
use Rattle.pi_terms.specs.PatternTree.{PatternTree, slot, exact_int, exact_atom, compound, named, PatternTrees, no_patterns, pattern}
use Rattle.pi_terms.specs.Substitution.{instance, instances}
use Rattle.pi_constraints.specs.Value.{Solves, value, IsAcyclic}
use Rattle.pi_constraints.specs.State.{State, bindings, next, followed, SpeaksBelow, IsState}
use Rattle.pi_constraints.specs.Store.{StoreView, IsTerm, ShowsCell}
use Rattle.pi_constraints.specs.declared.store.Ref.{Ref}
use Rattle.pi_constraints.specs.declared.store.Cell.{Cell}
use Rattle.pi_constraints.specs.Unify.{PairsBelow}
use Rattle.pi_constraints.specs.Evaluation.{Evaluated, EvaluatedAll, slot_term}
use Rattle.pi_constraints.proofs.FollowLemmas.{followed_instance, followed_other}
use Rattle.pi_constraints.proofs.ValueLemmas.{values_solve}
use Rattle.pi_constraints.proofs.KeepsLemmas.{TreesBelow, args-below, comp-below, trees-more, places-empty}
use Rattle.pi_constraints.proofs.UnifyOutcome.{AreOne}
use Rattle.pi_constraints.proofs.UnifyLemmas.{Unifies, IsResult, result}
use Rattle.pi_core.specs.CoreTree.{pattern_tree, pattern_trees}
use Rattle.pi_core.specs.declared.core_program.Pattern.{Pattern}
use Rattle.pi_meaning.specs.CoreMeaning.Sound.{pattern_count}
use Rattle.pi_meaning.specs.CoreMeaning.Facts.{also_named, with_name, in_front, fact_term, fact_terms, unified_with}
use Rattle.pi_engine_facts.specs.Roots.{Differs}
use Rattle.pi_engine_facts.proofs.LeaveLemmas.{LeavesAll, SomeLeavesAll, facts-leave}

-- ---- the root of a pattern's term

abbrev IsOf : PatternTree → Tree → Type 0
IsOf (slot k) t = ⊤
IsOf (exact_int n) t = t ≡ int n
IsOf (exact_atom f) t = t ≡ atom f
IsOf (compound f ps) t = (us : Trees) × (t ≡ comp f us) × (tree_count us ≡ pattern_count ps)
IsOf (named k p) t = ⊤

abbrev AreOf : PatternTrees → Trees → Type 0
AreOf no_patterns no_trees = ⊤
AreOf no_patterns (tree t ts) = ⊥
AreOf (pattern p ps) no_trees = ⊥
AreOf (pattern p ps) (tree t ts) = IsOf p t × AreOf ps ts

so-many : (ps : PatternTrees) (ts : Trees) → AreOf ps ts → tree_count ts ≡ pattern_count ps
unfolding pattern_count tree_count
so-many no_patterns no_trees are = refl
so-many no_patterns (tree t ts) are = absurd are
so-many (pattern p ps) no_trees are = absurd are
so-many (pattern p ps) (tree t ts) are = ap suc (so-many ps ts are.1)

abbrev SomeOf : PatternTree → Option Evaluated → Type 0
SomeOf p None = ⊤
SomeOf p (Some x) = IsOf p x.tree

abbrev SomeAllOf : PatternTrees → Option EvaluatedAll → Type 0
SomeAllOf ps None = ⊤
SomeAllOf ps (Some x) = AreOf ps x.trees

compound-of : (f : List ℕ) (ps : PatternTrees) (o : Option EvaluatedAll) → SomeAllOf ps o → SomeOf (compound f ps) (option_map (with_name f) o)
compound-of f ps None are = tt
compound-of f ps (Some x) are = (x.trees, refl, so-many ps x.trees are)

named-of : (k : ℕ) (p : PatternTree) (o : Option Evaluated) → SomeOf (named k p) o
named-of k p None = tt
named-of k p (Some x) = tt

front-of : (p : PatternTree) (ps : PatternTrees) (x : Evaluated) → IsOf p x.tree → (o : Option EvaluatedAll) → SomeAllOf ps o → SomeAllOf (pattern p ps) (option_map (in_front x) o)
front-of p ps x is None are = tt
front-of p ps x is (Some rest) are = (is, are)

onward-of : (p : PatternTree) (ps : PatternTrees) (f : Evaluated → Option EvaluatedAll) → ((x : Evaluated) → IsOf p x.tree → SomeAllOf (pattern p ps) (f x)) → (o : Option Evaluated) → SomeOf p o → SomeAllOf (pattern p ps) (option_and_then f o)
onward-of p ps f each None is = tt
onward-of p ps f each (Some x) is = each x is

mutual
  unfolding fact_term

  fact-of : (p : PatternTree) (e : Places) (s : State) → SomeOf p (fact_term p e s)
  fact-of (slot k) e s = tt
  fact-of (exact_int n) e s = refl
  fact-of (exact_atom f) e s = refl
  fact-of (compound f ps) e s = compound-of f ps (fact_terms ps e s) (facts-of ps e s)
  fact-of (named k p) e s = let whole : Evaluated = slot_term (held e k) k e s in named-of k p (option_and_then (also_named whole) (fact_term p whole.slots whole.state))

  facts-of : (ps : PatternTrees) (e : Places) (s : State) → SomeAllOf ps (fact_terms ps e s)
  facts-of no_patterns e s = tt
  facts-of (pattern p ps) e s =
      onward-of p ps (λ x. option_map (in_front x) (fact_terms ps x.slots x.state)) (λ x is. front-of p ps x is (fact_terms ps x.slots x.state) (facts-of ps x.slots x.state)) (fact_term p e s) (fact-of p e s)

-- that of the pattern in a place
root-at : (ps : List Pattern) (us : Trees) (i : ℕ) (p : Pattern) (u : Tree) → AreOf (pattern_trees ps) us → slice_get ps i ≡ Some p → tree_at us i ≡ Some u → IsOf (pattern_tree p) u
unfolding pattern_trees tree_at
root-at [] us i p u are at there = absurd cc
root-at (q ∷ ps) no_trees i p u are at there = absurd are
root-at (q ∷ ps) (tree t us) zero p u are at there = subst (λ (x : Tree). IsOf (pattern_tree p) x) (same-tree there) (subst (λ (x : Pattern). IsOf (pattern_tree x) t) (same-pattern at) are.0)
  where
    same-tree : Some t ≡ Some u → t ≡ u
    same-tree h = cc

    same-pattern : Some q ≡ Some p → q ≡ p
    same-pattern h = cc
root-at (q ∷ ps) (tree t us) (suc i) p u are at there = root-at ps us i p u are.1 at there

-- ---- terms that differ

trees-counted : (a : ℕ → Tree) (ts : Trees) → tree_count (instances a ts) ≡ tree_count ts
unfolding instances tree_count
trees-counted a no_trees = refl
trees-counted a (tree t ts) = ap suc (trees-counted a ts)

abbrev name_of : Tree → List ℕ
name_of (var k) = []
name_of (int n) = []
name_of (atom f) = f
name_of (comp f ts) = f

abbrev parts_of : Tree → Trees
parts_of (var k) = no_trees
parts_of (int n) = no_trees
parts_of (atom f) = no_trees
parts_of (comp f ts) = ts

never-one : (a : ℕ → Tree) (p : PatternTree) (t u : Tree) → IsOf p u → Differs p t → instance a t ≡ instance a u → ⊥
unfolding Differs instance
never-one a (slot k) t u is differs same = differs
never-one a (named k p) t u is differs same = differs
never-one a (exact_int n) (var k) u is differs same = differs
never-one a (exact_int n) (int m) u is differs same = differs (number (sym (same ∙ ap (instance a) is)))
  where
    number : int n ≡ int m → n ≡ m
    number h = cc
never-one a (exact_int n) (atom g) u is differs same = other (same ∙ ap (instance a) is)
  where
    other : atom g ≡ int n → ⊥
    other h = cc
never-one a (exact_int n) (comp g ts) u is differs same = other (same ∙ ap (instance a) is)
  where
    other : comp g (instances a ts) ≡ int n → ⊥
    other h = cc
never-one a (exact_atom f) (var k) u is differs same = differs
never-one a (exact_atom f) (int m) u is differs same = other (same ∙ ap (instance a) is)
  where
    other : int m ≡ atom f → ⊥
    other h = cc
never-one a (exact_atom f) (atom g) u is differs same = differs (sym (ap name_of (same ∙ ap (instance a) is)))
never-one a (exact_atom f) (comp g ts) u is differs same = other (same ∙ ap (instance a) is)
  where
    other : comp g (instances a ts) ≡ atom f → ⊥
    other h = cc
never-one a (compound f ps) (var k) u is differs same = differs
never-one a (compound f ps) (int m) u is differs same = other (same ∙ ap (instance a) is.1)
  where
    other : int m ≡ comp f (instances a is.0) → ⊥
    other h = cc
never-one a (compound f ps) (atom g) u is differs same = other (same ∙ ap (instance a) is.1)
  where
    other : atom g ≡ comp f (instances a is.0) → ⊥
    other h = cc
never-one a (compound f ps) (comp g ts) u is (inl name) same = name (sym (ap name_of (same ∙ ap (instance a) is.1)))
never-one a (compound f ps) (comp g ts) u is (inr count) same =
    count (sym is.2 ∙ (sym (trees-counted a is.0) ∙ (sym (ap (λ x. tree_count (parts_of x)) (same ∙ ap (instance a) is.1)) ∙ trees-counted a ts)))

-- ---- facts that differ from a call

-- what is one in all places is one in each
one-at : (a : ℕ → Tree) (ts us : Trees) (i : ℕ) (t : Tree) → instances a ts ≡ instances a us → tree_at ts i ≡ Some t → (u : Tree) × (tree_at us i ≡ Some u) × (instance a t ≡ instance a u)
unfolding instances tree_at
one-at a no_trees us i t same at = absurd cc
one-at a (tree x ts) no_trees i t same at = absurd (other same)
  where
    other : tree (instance a x) (instances a ts) ≡ no_trees → ⊥
    other h = cc
one-at a (tree x ts) (tree y us) zero t same at = (y, refl, ap (instance a) (sym (the at)) ∙ first same)
  where
    the : Some x ≡ Some t → x ≡ t
    the h = cc

    first : tree (instance a x) (instances a ts) ≡ tree (instance a y) (instances a us) → instance a x ≡ instance a y
    first h = cc
one-at a (tree x ts) (tree y us) (suc i) t same at = one-at a ts us i t (rest same) at
  where
    rest : tree (instance a x) (instances a ts) ≡ tree (instance a y) (instances a us) → instances a ts ≡ instances a us
    rest h = cc

none-at : (ts : Trees) (i : ℕ) → tree_at ts i ≡ None → tree_count ts ≤ i
unfolding tree_at tree_count
none-at no_trees i none = omega arith
none-at (tree t ts) zero none = absurd cc
none-at (tree t ts) (suc i) none = omega (arith, none-at ts i none)

some-at : (ps : List Pattern) (i : ℕ) (p : Pattern) → slice_get ps i ≡ Some p → i < pattern_count (pattern_trees ps)
unfolding pattern_trees pattern_count
some-at [] i p at = absurd cc
some-at (q ∷ ps) zero p at = omega arith
some-at (q ∷ ps) (suc i) p at = omega (arith, some-at ps i p at)

-- the argument in a place, where there is one, differs from a pattern
abbrev pub DiffersAt : State → PatternTree → Option Tree → Type 0
DiffersAt s p None = ⊤
DiffersAt s p (Some t) = Differs p (followed (bindings s) t)

-- a way to make the head's terms and the call's one
record MakesOne (s : State) (ts : Trees) (head : List Pattern) (us : Trees) : Type 0 where
  pub way : ℕ → Tree
  pub solves : Solves way (bindings s)
  pub one : instances way ts ≡ instances way us
  pub are : AreOf (pattern_trees head) us

-- there is none
no-way : (s : State) (ts : Trees) (head : List Pattern) (us : Trees) (i : ℕ) (p : Pattern) → slice_get head i ≡ Some p → (o : Option Tree) → tree_at ts i ≡ o → DiffersAt s (pattern_tree p) o → MakesOne s ts head us → ⊥
no-way s ts head us i p at None there differs m =
    omega (arith, none-at ts i there, some-at head i p at, so-many (pattern_trees head) us m.are, sym (trees-counted m.way ts) ∙ (ap tree_count m.one ∙ trees-counted m.way us))
no-way s ts head us i p at (Some t) there differs m =
    let one : (u : Tree) × (tree_at us i ≡ Some u) × (instance m.way t ≡ instance m.way u) = one-at m.way ts us i t m.one there in
    never-one m.way (pattern_tree p) (followed (bindings s) t) one.0 (root-at head us i p one.0 m.are at one.1) differs (followed_instance m.way (bindings s) t m.solves ∙ one.2)

-- the head's terms and the call's are not made one
none-of : (ts : Trees) (s : State) (head : List Pattern) (i : ℕ) (p : Pattern) → TreesBelow (next s) ts → slice_get head i ≡ Some p → DiffersAt s (pattern_tree p) (tree_at ts i) →
    (all : EvaluatedAll) → LeavesAll s all → AreOf (pattern_trees head) all.trees → (o : Option State) → unified_with ts all ≡ o → o ≡ None
unfolding PairsBelow AreOne instance
none-of ts s head i p below at differs all leaves are None is = refl
none-of ts s head i p below at differs all leaves are (Some r) is =
    let unifies : Unifies all.state ((comp [] ts, comp [] all.trees) ∷ []) r =
    subst (IsResult all.state ((comp [] ts, comp [] all.trees) ∷ [])) is
    (result all.state ((comp [] ts, comp [] all.trees) ∷ []) leaves.below.state
    (comp-below (next all.state) [] ts (trees-more (next s) (next all.state) ts leaves.below.more below), comp-below (next all.state) [] all.trees leaves.below.below, tt)) in
    let a : ℕ → Tree = λ n. value (bindings r) (var n) in
    let solved : Solves a (bindings all.state) × AreOne a ((comp [] ts, comp [] all.trees) ∷ []) = unifies.solved a (values_solve (bindings r) unifies.state.acyclic) in
    absurd (no-way s ts head all.trees i p at (tree_at ts i) refl differs (record { way = a; solves = leaves.solved a solved.0; one = ap parts_of solved.1.0; are = are }))

none-by : (ts : Trees) (s : State) (head : List Pattern) (i : ℕ) (p : Pattern) → TreesBelow (next s) ts → slice_get head i ≡ Some p → DiffersAt s (pattern_tree p) (tree_at ts i) →
    (o : Option EvaluatedAll) → SomeLeavesAll s o → SomeAllOf (pattern_trees head) o → option_and_then (unified_with ts) o ≡ None
none-by ts s head i p below at differs None leaves are = refl
none-by ts s head i p below at differs (Some all) leaves are = none-of ts s head i p below at differs all leaves are (unified_with ts all) refl

-- a fact that differs from a call in a place doesn't unify with it
pub no-fact : (ts : Trees) (s : State) (head : List Pattern) (slots i : ℕ) (p : Pattern) → IsState s → TreesBelow (next s) ts → slice_get head i ≡ Some p → DiffersAt s (pattern_tree p) (tree_at ts i) →
    option_and_then (unified_with ts) (fact_terms (pattern_trees head) (replicate slots None) s) ≡ None
no-fact ts s head slots i p is below at differs =
    none-by ts s head i p below at differs (fact_terms (pattern_trees head) (replicate slots None) s)
    (facts-leave (pattern_trees head) (replicate slots None) s is (places-empty (next s) slots)) (facts-of (pattern_trees head) (replicate slots None) s)

-- ---- what a store shows of an argument

item-at : (ps : List Pattern) (i : ℕ) (p : Pattern) → i < length ps → p ≡ get_or ps i p → slice_get ps i ≡ Some p
item-at [] i p less is = absurd (omega (arith, less))
item-at (q ∷ ps) zero p less is = ap (λ (x : Pattern). Some x) (sym is)
item-at (q ∷ ps) (suc i) p less is = item-at ps i p (omega (arith, less)) is

pub shown-at : {M : Type 0} (v : StoreView M) (ts : Trees) (i : ℕ) (p : PatternTree) (call arg : Ref) (cell : Cell) → IsState v.now.state → IsTerm v call (comp [] ts) →
    ((t u : Tree) → IsTerm v call t → IsAcyclic (bindings v.now.state) → arg_at (followed (bindings v.now.state) t) i ≡ Some u → IsTerm v arg u) →
    ((t : Tree) → IsTerm v arg t → IsAcyclic (bindings v.now.state) → ShowsCell v (followed (bindings v.now.state) t) cell) →
    ((t : Tree) → ShowsCell v t cell → Differs p t) → (o : Option Tree) → tree_at ts i ≡ o → DiffersAt v.now.state p o
shown-at v ts i p call arg cell is asked args look differs None there = tt
shown-at v ts i p call arg cell is asked args look differs (Some t) there =
    differs (followed (bindings v.now.state) t) (look t (args (comp [] ts) t asked is.acyclic (ap (λ x. arg_at x i) (followed_other (bindings v.now.state) (comp [] ts) (λ n h. cc)) ∙ there)) is.acyclic)

-- so a fact doesn't unify with a call whose argument in a place shows something else
pub shown-differs : {M : Type 0} (v : StoreView M) (ts : Trees) (slots i : ℕ) (head : List Pattern) (p : Pattern) (call arg : Ref) (cell : Cell) → IsState v.now.state → IsTerm v call (comp [] ts) → SpeaksBelow (next v.now.state) (comp [] ts) →
    i < length head → p ≡ get_or head i p →
    ((t u : Tree) → IsTerm v call t → IsAcyclic (bindings v.now.state) → arg_at (followed (bindings v.now.state) t) i ≡ Some u → IsTerm v arg u) →
    ((t : Tree) → IsTerm v arg t → IsAcyclic (bindings v.now.state) → ShowsCell v (followed (bindings v.now.state) t) cell) →
    ((t : Tree) → ShowsCell v t cell → Differs (pattern_tree p) t) →
    option_and_then (unified_with ts) (fact_terms (pattern_trees head) (replicate slots None) v.now.state) ≡ None
shown-differs v ts slots i head p call arg cell is asked below less at args look differs =
    no-fact ts v.now.state head slots i p is (args-below (next v.now.state) [] ts below) (item-at head i p less at) (shown-at v ts i (pattern_tree p) call arg cell is asked args look differs (tree_at ts i) refl)
