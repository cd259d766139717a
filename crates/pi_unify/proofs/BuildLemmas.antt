-- A term read from its last node to its first.
use Rattle.std.proofs.Common.{◌≡◌, nat_lt, ◌⊎◌, ℕ, zero, suc, ◌+◌, ◌-◌, ◌<◌, ◌≤◌, List, [], ◌∷◌, ◌++◌, length, take, drop, reverse, Option, Some, None, inl, inr, refl, ap, sym, ◌∙◌, subst, arith, add-one, length-drop, append_assoc}
use Rattle.std.specs.Prelude.{Contains, IsSomeAnd, slice_get}
use Rattle.std.proofs.lemmas.Bool.{cases_Bool, ltb-true, ltb-false}
use Rattle.std.proofs.lemmas.List.{reverse-append, reverse-reverse, length-reverse, append-nil}
use Rattle.pi_terms.specs.Tree.{Tree, var, int, atom, comp, Trees, no_trees, tree, tree_count, args, arity, drop_trees, cells, subterms, subterms_all, ShowsHead}
use Rattle.pi_terms.specs.TermCells.{take_trees, append_trees, take_trees-append, drop_trees-append}
use Rattle.pi_terms.specs.Variables.{occurrences, occurrences_all, firsts, variables}
use Rattle.pi_terms.specs.Substitution.{instance, instances}
use Rattle.pi_terms.specs.Copy.{renamed}
use Rattle.pi_constraints.specs.State.{State}
use Rattle.pi_constraints.specs.Store.{StoreView, IsTerm, AreTerms, Keeps, Stays}
use Rattle.pi_constraints.specs.declared.store.Ref.{Ref}
use Rattle.pi_terms.specs.declared.term.TermHead.{TermHead}
use Rattle.pi_terms.proofs.TermLemmas.{subterm_for_each_cell}
use Rattle.pi_terms.proofs.VariableLemmas.{tree_count-instances, Has, Has-append_right, occurs_from_Has, variables_are_those_that_occur}
use Rattle.pi_terms.specs.Numbers.{noted}
use Rattle.pi_terms.proofs.NumberLemmas.{noted-firsts}
use Rattle.pi_unify.specs.Copying.{renumbered, AreBuilt, with_built, IsReady, PutsNode, forest, Nested, root_variables}
use Rattle.pi_unify.proofs.KeepsLemmas.{terms_kept, stays_then, keeps_none}
use Rattle.pi_unify.proofs.RefLemmas.{drop_all}

-- ---- the trees of nodes in prefix order, from the right

mutual
  unfolding forest subterms tree_count

  forest-subterms : (t : Tree) (us : List Tree) → forest (subterms t ++ us) ≡ tree t (forest us)
  forest-subterms (var n) us = refl
  forest-subterms (int n) us = refl
  forest-subterms (atom name) us = refl
  forest-subterms (comp name ts) us = ap (λ f. tree (comp name ts) (drop_trees (tree_count ts) f)) (forest-subterms_all ts us) ∙ ap (tree (comp name ts)) (drop_trees-append ts (forest us))

  forest-subterms_all : (ts : Trees) (us : List Tree) → forest (subterms_all ts ++ us) ≡ append_trees ts (forest us)
  forest-subterms_all no_trees us = refl
  forest-subterms_all (tree t ts) us =
      ap forest (append_assoc (subterms t) (subterms_all ts) us) ∙ (forest-subterms t (subterms_all ts ++ us) ∙ ap (tree t) (forest-subterms_all ts us))

mutual
  unfolding Nested subterms tree_count

  nested-subterms : (t : Tree) (us : List Tree) → Nested us → Nested (subterms t ++ us)
  nested-subterms (var n) us h = (refl, h)
  nested-subterms (int n) us h = (refl, h)
  nested-subterms (atom name) us h = (refl, h)
  nested-subterms (comp name ts) us h = (ap (take_trees (tree_count ts)) (forest-subterms_all ts us) ∙ take_trees-append ts (forest us), nested-subterms_all ts us h)

  nested-subterms_all : (ts : Trees) (us : List Tree) → Nested us → Nested (subterms_all ts ++ us)
  nested-subterms_all no_trees us h = h
  nested-subterms_all (tree t ts) us h = subst Nested (sym (append_assoc (subterms t) (subterms_all ts) us)) (nested-subterms t (subterms_all ts ++ us) (nested-subterms_all ts us h))

pub nested-drop : (k : ℕ) (us : List Tree) → Nested us → Nested (drop k us)
unfolding Nested
nested-drop zero us h = h
nested-drop (suc k) [] h = h
nested-drop (suc k) (u ∷ us) h = nested-drop k us h.1

pub all_nested : (t : Tree) → Nested (subterms t)
unfolding Nested
all_nested t = subst Nested (append-nil (subterms t)) (nested-subterms t [] tt)

pub whole_forest : (t : Tree) → forest (subterms t) ≡ tree t no_trees
unfolding forest
whole_forest t = sym (ap forest (append-nil (subterms t))) ∙ forest-subterms t []

-- ---- the variables among nodes

pub root_variables-append : (us ws : List Tree) → root_variables (us ++ ws) ≡ root_variables us ++ root_variables ws
root_variables-append [] ws = refl
root_variables-append (var n ∷ us) ws = ap (λ ns. n ∷ ns) (root_variables-append us ws)
root_variables-append (int n ∷ us) ws = root_variables-append us ws
root_variables-append (atom name ∷ us) ws = root_variables-append us ws
root_variables-append (comp name ts ∷ us) ws = root_variables-append us ws

mutual
  unfolding occurrences subterms

  pub root_variables-subterms : (t : Tree) → root_variables (subterms t) ≡ occurrences t
  root_variables-subterms (var n) = refl
  root_variables-subterms (int n) = refl
  root_variables-subterms (atom name) = refl
  root_variables-subterms (comp name ts) = root_variables-subterms_all ts

  root_variables-subterms_all : (ts : Trees) → root_variables (subterms_all ts) ≡ occurrences_all ts
  root_variables-subterms_all no_trees = refl
  root_variables-subterms_all (tree t ts) =
      root_variables-append (subterms t) (subterms_all ts) ∙ (ap (λ ns. ns ++ root_variables (subterms_all ts)) (root_variables-subterms t) ∙ ap (λ ns. occurrences t ++ ns) (root_variables-subterms_all ts))

-- ---- Refs of the terms that were put

are_taken : {M : Type 0} (v : StoreView M) (k : ℕ) (rs : List Ref) (ts : Trees) → AreTerms v rs ts → AreTerms v (take k rs) (take_trees k ts)
unfolding AreTerms
are_taken v zero rs ts h = tt
are_taken v (suc k) [] no_trees h = tt
are_taken v (suc k) [] (tree t ts) h = absurd h
are_taken v (suc k) (r ∷ rs) no_trees h = absurd h
are_taken v (suc k) (r ∷ rs) (tree t ts) h = (h.0, are_taken v k rs ts h.1)

are_dropped : {M : Type 0} (v : StoreView M) (k : ℕ) (rs : List Ref) (ts : Trees) → AreTerms v rs ts → AreTerms v (drop k rs) (drop_trees k ts)
unfolding AreTerms
are_dropped v zero rs ts h = h
are_dropped v (suc k) [] no_trees h = tt
are_dropped v (suc k) [] (tree t ts) h = absurd h
are_dropped v (suc k) (r ∷ rs) no_trees h = absurd h
are_dropped v (suc k) (r ∷ rs) (tree t ts) h = are_dropped v k rs ts h.1

pub are_as_many : {M : Type 0} (v : StoreView M) (rs : List Ref) (ts : Trees) → AreTerms v rs ts → length rs ≡ tree_count ts
unfolding AreTerms tree_count
are_as_many v [] no_trees h = refl
are_as_many v [] (tree t ts) h = absurd h
are_as_many v (r ∷ rs) no_trees h = absurd h
are_as_many v (r ∷ rs) (tree t ts) h = ap suc (are_as_many v rs ts h.1)

take_front : (k : ℕ) (rs qs : List Ref) → length rs ≡ k → take k (rs ++ qs) ≡ rs
take_front zero [] qs e = refl
take_front zero (r ∷ rs) qs e = cc
take_front (suc k) [] qs e = cc
take_front (suc k) (r ∷ rs) qs e = ap (λ xs. r ∷ xs) (take_front k rs qs (omega arith))

drop_front : (k : ℕ) (rs qs : List Ref) → length rs ≡ k → drop k (rs ++ qs) ≡ qs
drop_front zero [] qs e = refl
drop_front zero (r ∷ rs) qs e = cc
drop_front (suc k) [] qs e = cc
drop_front (suc k) (r ∷ rs) qs e = drop_front k rs qs (omega arith)

parted : (m : ℕ) (rs : List Ref) → take m rs ++ drop m rs ≡ rs
parted zero rs = refl
parted (suc m) [] = refl
parted (suc m) (r ∷ rs) = ap (λ xs. r ∷ xs) (parted m rs)

parted_trees : (m : ℕ) (us : List Tree) → take m us ++ drop m us ≡ us
parted_trees zero us = refl
parted_trees (suc m) [] = refl
parted_trees (suc m) (u ∷ us) = ap (λ xs. u ∷ xs) (parted_trees m us)

reversed : (m : ℕ) (rs : List Ref) → reverse rs ≡ reverse (drop m rs) ++ reverse (take m rs)
reversed m rs = ap reverse (sym (parted m rs)) ∙ reverse-append (take m rs) (drop m rs)

-- the last few are the first few from behind
pub last_taken : (k m : ℕ) (rs : List Ref) → m + k ≡ length rs → reverse (drop m rs) ≡ take k (reverse rs)
last_taken k m rs e =
    let many : length (reverse (drop m rs)) ≡ k = length-reverse (drop m rs) ∙ omega (arith, length-drop m rs) in
    sym (ap (take k) (reversed m rs) ∙ take_front k (reverse (drop m rs)) (reverse (take m rs)) many)

pub last_dropped : (k m : ℕ) (rs : List Ref) → m + k ≡ length rs → reverse (take m rs) ≡ drop k (reverse rs)
last_dropped k m rs e =
    let many : length (reverse (drop m rs)) ≡ k = length-reverse (drop m rs) ∙ omega (arith, length-drop m rs) in
    sym (ap (drop k) (reversed m rs) ∙ drop_front k (reverse (drop m rs)) (reverse (take m rs)) many)

-- a compound takes its arguments off
pub args_taken : {M : Type 0} (v : StoreView M) (k m : ℕ) (built args : List Ref) (ts : Trees) → m + k ≡ length built → args ≡ reverse (drop m built) → AreBuilt v built ts → AreTerms v args (take_trees k ts)
args_taken v k m built args ts e is h = subst (λ (rs : List Ref). AreTerms v rs (take_trees k ts)) (sym (is ∙ last_taken k m built e)) (are_taken v k (reverse built) ts h)

pub rest_left : {M : Type 0} (v w : StoreView M) (k m : ℕ) (built new : List Ref) (ts : Trees) → m + k ≡ length built → new ≡ take m built → Keeps v w → AreBuilt v built ts → AreBuilt w new (drop_trees k ts)
rest_left v w k m built new ts e is kept h =
    terms_kept v w (reverse new) (drop_trees k ts) kept
    (subst (λ (rs : List Ref). AreTerms v rs (drop_trees k ts)) (sym (ap reverse is ∙ last_dropped k m built e)) (are_dropped v k (reverse built) ts h))

-- the arguments are so many of the last terms, or all where there are fewer
abbrev pub TakesLast : ℕ → ℕ → List Ref → Type 0
TakesLast k m built = (m + k ≡ length built) ⊎ ((m ≡ 0) × (length built < k))

pub taken_last : (k m : ℕ) (built : List Ref) → m ≡ length built - k → TakesLast k m built
taken_last k m built e = elim (cases_Bool (nat_lt (length built) k)) [
  | inl hit ↦ let few : length built < k = ltb-true (length built) k hit in inr (omega arith, few)
  | inr miss ↦ inl (omega (arith, ltb-false (length built) k miss))
]

take_all : (k : ℕ) (ts : Trees) → tree_count ts < k → take_trees k ts ≡ ts
unfolding tree_count
take_all zero ts h = absurd (omega arith)
take_all (suc k) no_trees h = refl
take_all (suc k) (tree t ts) h = ap (tree t) (take_all k ts (omega arith))

fewer_trees : {M : Type 0} (v : StoreView M) (k : ℕ) (built : List Ref) (ts : Trees) → length built < k → AreBuilt v built ts → tree_count ts < k
fewer_trees v k built ts h put = omega (arith, are_as_many v (reverse built) ts put, length-reverse built)

pub last_args : {M : Type 0} (v : StoreView M) (k m : ℕ) (built args : List Ref) (ts : Trees) → TakesLast k m built → args ≡ reverse (drop m built) → AreBuilt v built ts → AreTerms v args (take_trees k ts)
last_args v k m built args ts (inl e) is h = args_taken v k m built args ts e is h
last_args v k m built args ts (inr (none, few)) is h =
    let all : args ≡ reverse built = is ∙ ap (λ j. reverse (drop j built)) none in
    subst (λ (us : Trees). AreTerms v args us) (sym (take_all k ts (fewer_trees v k built ts few h))) (subst (λ (rs : List Ref). AreTerms v rs ts) (sym all) h)

pub last_left : {M : Type 0} (v w : StoreView M) (k m : ℕ) (built new : List Ref) (ts : Trees) → TakesLast k m built → new ≡ take m built → Keeps v w → AreBuilt v built ts → AreBuilt w new (drop_trees k ts)
unfolding AreTerms
last_left v w k m built new ts (inl e) is kept h = rest_left v w k m built new ts e is kept h
last_left v w k m built new ts (inr (none, few)) is kept h =
    let few_trees : tree_count ts < k = fewer_trees v k built ts few h in
    let empty : new ≡ [] = is ∙ ap (λ j. take j built) none in
    subst (λ (us : Trees). AreBuilt w new us) (sym (drop_all ts k (omega arith))) (subst (λ (rs : List Ref). AreTerms w (reverse rs) no_trees) (sym empty) tt)

-- ---- instances of trees in front and behind

pub take_trees-instances : (s : ℕ → Tree) (k : ℕ) (ts : Trees) → take_trees k (instances s ts) ≡ instances s (take_trees k ts)
unfolding instance
take_trees-instances s zero ts = refl
take_trees-instances s (suc k) no_trees = refl
take_trees-instances s (suc k) (tree t ts) = ap (tree (instance s t)) (take_trees-instances s k ts)

pub drop_trees-instances : (s : ℕ → Tree) (k : ℕ) (ts : Trees) → drop_trees k (instances s ts) ≡ instances s (drop_trees k ts)
unfolding instance
drop_trees-instances s zero ts = refl
drop_trees-instances s (suc k) no_trees = refl
drop_trees-instances s (suc k) (tree t ts) = drop_trees-instances s k ts

pub count_taken : (k : ℕ) (ts : Trees) → tree_count (take_trees k ts) ≤ tree_count ts
unfolding tree_count
count_taken zero ts = omega arith
count_taken (suc k) no_trees = omega arith
count_taken (suc k) (tree t ts) = omega (arith, count_taken k ts)

with_built_is : (rename : ℕ → ℕ) (u : Tree) (ts : Trees) → take_trees (arity u) ts ≡ args u → with_built rename u (instances (λ n. var (rename n)) ts) ≡ renamed rename u
unfolding instance
with_built_is rename (var n) ts e = refl
with_built_is rename (int n) ts e = refl
with_built_is rename (atom name) ts e = refl
with_built_is rename (comp name us) ts e = ap (comp name) (take_trees-instances (λ n. var (rename n)) (tree_count us) ts ∙ ap (instances (λ n. var (rename n))) e)

-- ---- one node after another

get_front : (us : List Tree) (i : ℕ) (u : Tree) → slice_get us i ≡ Some u → drop i us ≡ u ∷ drop (suc i) us
get_front [] i u e = cc
get_front (w ∷ us) zero u e = ap (λ x. x ∷ us) (cc)
get_front (w ∷ us) (suc i) u e = get_front us i u e

get_more : (us : List Tree) (i : ℕ) (u : Tree) → slice_get us i ≡ Some u → take (suc i) us ≡ take i us ++ u ∷ []
get_more [] i u e = cc
get_more (w ∷ us) zero u e = ap (λ x. x ∷ []) (cc)
get_more (w ∷ us) (suc i) u e = ap (λ xs. w ∷ xs) (get_more us i u e)

-- the node with this number, as it is shown
pub record NodeAt (us : List Tree) (i : ℕ) (head : TermHead) : Type 0 where
  pub it : Tree
  pub shown : ShowsHead it head
  pub front : drop i us ≡ it ∷ drop (suc i) us
  pub more : take (suc i) us ≡ take i us ++ it ∷ []

some_node : (us : List Tree) (i : ℕ) (head : TermHead) (o : Option Tree) → slice_get us i ≡ o → IsSomeAnd o (λ u. ShowsHead u head) → NodeAt us i head
some_node us i head None e h = absurd h
some_node us i head (Some u) e h = record { it = u; shown = h; front = get_front us i u e; more = get_more us i u e }

pub node_at : (us : List Tree) (i : ℕ) (head : TermHead) → IsSomeAnd (slice_get us i) (λ u. ShowsHead u head) → NodeAt us i head
node_at us i head h = some_node us i head (slice_get us i) refl h

-- ---- the variables, node by node

pub more_variables : (us : List Tree) (i : ℕ) (head : TermHead) (numbers new : List ℕ) (n : ℕ) → NodeAt us i head → head ≡ TermHead.Var n → numbers ≡ firsts (root_variables (take i us)) → new ≡ noted numbers n → new ≡ firsts (root_variables (take (i + 1) us))
more_variables us i head numbers new n at is known e =
    let here : at.it ≡ var n = subst (ShowsHead at.it) is at.shown in
    e ∙ (ap (λ ns. noted ns n) known ∙ (noted-firsts (root_variables (take i us)) n
    ∙ ap firsts (sym (ap root_variables (ap (λ k. take k us) (add-one i) ∙ at.more) ∙ (root_variables-append (take i us) (at.it ∷ []) ∙ ap (λ u. root_variables (take i us) ++ root_variables (u ∷ [])) here)))))

pub no_root_variable : (u : Tree) (head : TermHead) → ShowsHead u head → ((n : ℕ) → head ≡ TermHead.Var n → ⊥) → root_variables (u ∷ []) ≡ []
no_root_variable u (TermHead.Var n) shown other = absurd (other n refl)
no_root_variable u (TermHead.Int n) shown other = ap (λ w. root_variables (w ∷ [])) shown
no_root_variable u (TermHead.Atom name) shown other = ap (λ w. root_variables (w ∷ [])) shown
no_root_variable u (TermHead.Comp name k) shown other = ap (λ w. root_variables (w ∷ [])) shown.0

pub same_variables : (us : List Tree) (i : ℕ) (head : TermHead) (numbers : List ℕ) → NodeAt us i head → ((n : ℕ) → head ≡ TermHead.Var n → ⊥) → numbers ≡ firsts (root_variables (take i us)) → numbers ≡ firsts (root_variables (take (i + 1) us))
same_variables us i head numbers at other known =
    known ∙ ap firsts (sym (ap root_variables (ap (λ k. take k us) (add-one i) ∙ at.more) ∙ (root_variables-append (take i us) (at.it ∷ [])
    ∙ (ap (λ ns. root_variables (take i us) ++ ns) (no_root_variable at.it head at.shown other) ∙ append-nil (root_variables (take i us))))))

take_every : (k : ℕ) (us : List Tree) → length us ≤ k → take k us ≡ us
take_every zero [] h = refl
take_every zero (u ∷ us) h = absurd (omega arith)
take_every (suc k) [] h = refl
take_every (suc k) (u ∷ us) h = ap (λ xs. u ∷ xs) (take_every k us (omega arith))

pub all_variables : (t : Tree) (k : ℕ) (numbers : List ℕ) → cells t ≤ k → numbers ≡ firsts (root_variables (take k (subterms t))) → numbers ≡ variables t
all_variables t k numbers h known =
    known ∙ ap firsts (ap root_variables (take_every k (subterms t) (omega (arith, subterm_for_each_cell t))) ∙ root_variables-subterms t)

pub no_variables : firsts [] ≡ []
unfolding firsts
no_variables = refl

-- ---- the terms that were put, node by node

-- the nodes from a number on were put
pub record Putting {M : Type 0} (v w : StoreView M) (ns : List ℕ) (t : Tree) (k : ℕ) (built : List Ref) : Type 0 where
  pub stays : Stays v w
  pub within : k ≤ cells t
  pub terms : AreBuilt w built (instances (λ n. var (renumbered v.now.state ns n)) (forest (drop k (subterms t))))

drop_every : (k : ℕ) (us : List Tree) → length us ≡ k → drop k us ≡ []
drop_every zero [] e = refl
drop_every zero (u ∷ us) e = cc
drop_every (suc k) [] e = refl
drop_every (suc k) (u ∷ us) e = drop_every k us (omega arith)

pub none_put : {M : Type 0} (v : StoreView M) (ns : List ℕ) (t : Tree) (k : ℕ) (built : List Ref) → k ≡ cells t → built ≡ [] → Putting v v ns t k built
unfolding forest instance AreTerms
none_put v ns t k built e empty =
    let none : drop k (subterms t) ≡ [] = drop_every k (subterms t) (omega (arith, subterm_for_each_cell t)) in
    let rename : ℕ → Tree = λ n. var (renumbered v.now.state ns n) in
    record {
      stays = record { keeps = keeps_none v; state = refl };
      within = omega arith;
      terms = subst (λ (us : List Tree). AreBuilt v built (instances rename (forest us))) (sym none) (subst (λ (rs : List Ref). AreTerms v (reverse rs) no_trees) (sym empty) tt);
    }

pub has_node : (us : List Tree) (i n : ℕ) (ws : List Tree) → drop i us ≡ var n ∷ ws → Has (root_variables us) n
has_node us i n ws e =
    let P : List Tree → Type 0 = λ xs. Has (root_variables xs) n in
    subst P (parted_trees i us) (subst (λ (ms : List ℕ). Has ms n) (sym (root_variables-append (take i us) (drop i us)))
    (Has-append_right (root_variables (take i us)) (root_variables (drop i us)) n (subst P (sym e) (inl refl))))

-- a node is ready to be put once those behind it were
pub ready : {M : Type 0} (v w : StoreView M) (ns : List ℕ) (t : Tree) (i : ℕ) (head : TermHead) (built : List Ref) → ns ≡ variables t → Putting v w ns t (suc i) built → NodeAt (subterms t) i head → IsReady ns built head
unfolding Nested
ready v w ns t i (TermHead.Var n) built known put at =
    let has : Has (occurrences t) n = subst (λ (ms : List ℕ). Has ms n) (root_variables-subterms t) (has_node (subterms t) i n (drop (suc i) (subterms t)) (at.front ∙ ap (λ u. u ∷ drop (suc i) (subterms t)) at.shown)) in
    subst (λ (ms : List ℕ). Contains ms n) (sym known) ((variables_are_those_that_occur t n).1 (occurs_from_Has t n has))
ready v w ns t i (TermHead.Int n) built known put at = tt
ready v w ns t i (TermHead.Atom name) built known put at = tt
ready v w ns t i (TermHead.Comp name count) built known put at =
    let us : List Tree = drop (suc i) (subterms t) in
    let rename : ℕ → Tree = λ n. var (renumbered v.now.state ns n) in
    let all : Nested (drop i (subterms t)) = nested-drop i (subterms t) (all_nested t) in
    let here : Nested (at.it ∷ us) = subst Nested at.front all in
    let many : tree_count (take_trees (arity at.it) (forest us)) ≡ arity at.it = ap tree_count here.0 in
    let as_many : length (reverse built) ≡ tree_count (instances rename (forest us)) = are_as_many w (reverse built) (instances rename (forest us)) put.terms in
    let count_is : count ≡ arity at.it = at.shown.1 in
    omega (arith, count_taken (arity at.it) (forest us), tree_count-instances rename (forest us), length-reverse built)

-- one more node was put
pub one_put : {M : Type 0} (v w x : StoreView M) (ns : List ℕ) (t : Tree) (i : ℕ) (head : TermHead) (built middle new : List Ref) (made : Ref) → Putting v w ns t (suc i) built → NodeAt (subterms t) i head → Stays w x → ((u : Tree) (ts : Trees) → ShowsHead u head → AreBuilt w built ts → PutsNode w x (renumbered w.now.state ns) u built middle made ts) → new ≡ middle ++ made ∷ [] → Putting v x ns t i new
unfolding Nested forest instance AreTerms
one_put v w x ns t i head built middle new made put at stays puts e =
    let us : List Tree = drop (suc i) (subterms t) in
    let number : ℕ → ℕ = renumbered v.now.state ns in
    let rename : ℕ → Tree = λ n. var (number n) in
    let ts : Trees = instances rename (forest us) in
    let here : Nested (at.it ∷ us) = subst Nested at.front (nested-drop i (subterms t) (all_nested t)) in
    let state : w.now.state ≡ v.now.state = put.stays.state in
    let one : PutsNode w x number at.it built middle made ts = subst (λ (s : State). PutsNode w x (renumbered s ns) at.it built middle made ts) state (puts at.it ts at.shown put.terms) in
    let term : IsTerm x made (renamed number at.it) = subst (λ (u : Tree). IsTerm x made u) (with_built_is number at.it (forest us) here.0) one.term in
    let rest : AreTerms x (reverse middle) (instances rename (drop_trees (arity at.it) (forest us))) = subst (λ (us : Trees). AreTerms x (reverse middle) us) (drop_trees-instances rename (arity at.it) (forest us)) one.rest in
    let list : reverse new ≡ made ∷ reverse middle = ap reverse e ∙ reverse-append middle (made ∷ []) in
    let within : suc i ≤ cells t = put.within in
    record {
      stays = stays_then v w x v.now.state put.stays stays;
      within = omega arith;
      terms = subst (λ (ws : List Tree). AreBuilt x new (instances rename (forest ws))) (sym at.front)
          (subst (λ (rs : List Ref). AreTerms x rs (instances rename (forest (at.it ∷ us)))) (sym list) (term, rest));
    }

pub one_only : {M : Type 0} (w : StoreView M) (rs : List Ref) (t : Tree) → AreTerms w rs (tree t no_trees) → (r : Ref) × (rs ≡ r ∷ []) × IsTerm w r t
unfolding AreTerms
one_only w [] t h = absurd h
one_only w (r ∷ []) t h = (r, refl, h.0)
one_only w (r ∷ q ∷ rs) t h = absurd h.1

-- all nodes were put
pub all_put : {M : Type 0} (v w : StoreView M) (ns : List ℕ) (t : Tree) (k : ℕ) (built : List Ref) → k ≡ 0 → Putting v w ns t k built → (r : Ref) × (built ≡ r ∷ []) × IsTerm w r (renamed (renumbered v.now.state ns) t)
unfolding instance
all_put v w ns t k built e put =
    let rename : ℕ → Tree = λ n. var (renumbered v.now.state ns n) in
    let whole : forest (drop k (subterms t)) ≡ tree t no_trees = ap (λ j. forest (drop j (subterms t))) e ∙ whole_forest t in
    let one : (r : Ref) × (reverse built ≡ r ∷ []) × IsTerm w r (instance rename t) = one_only w (reverse built) (instance rename t) (subst (λ (f : Trees). AreTerms w (reverse built) (instances rename f)) whole put.terms) in
    (one.0, sym (reverse-reverse built) ∙ ap reverse one.1, one.2)
