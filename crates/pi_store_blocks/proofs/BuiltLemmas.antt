-- Terms that are put from their last node to their first: one node after another, until the whole is one term.
use Rattle.std.proofs.Common.{◌≡◌, nat_lt, ℕ, zero, suc, ◌-◌, ◌<◌, ◌≤◌, List, [], ◌∷◌, ◌++◌, length, take, drop, reverse, Option, Some, None, inl, inr, refl, ap, sym, ◌∙◌, subst, arith, length-append, length-drop, length-take, append_assoc}
use Rattle.std.specs.Prelude.{IsSomeAnd, slice_get}
use Rattle.std.proofs.lemmas.Bool.{cases_Bool, ltb-true, ltb-false}
use Rattle.std.proofs.lemmas.List.{reverse-append, reverse-reverse, length-reverse, append-nil}
use Rattle.pi_terms.specs.Tree.{Tree, var, int, atom, comp, Trees, no_trees, tree, tree_count, args, arity, drop_trees, cells, subterms, subterms_all, ShowsHead}
use Rattle.pi_terms.specs.TermCells.{take_trees, append_trees, take_trees-append, drop_trees-append}
use Rattle.pi_terms.specs.Variables.{Occurs, OccursInAny}
use Rattle.pi_terms.specs.declared.term.TermHead.{TermHead}
use Rattle.pi_terms.proofs.TermLemmas.{subterm_for_each_cell}
use Rattle.pi_constraints.specs.State.{State, next, SpeaksBelow}
use Rattle.pi_constraints.specs.Store.{StoreView, IsTerm, AreTerms, Keeps, Stays}
use Rattle.pi_constraints.specs.declared.store.Ref.{Ref}
use Rattle.pi_store_blocks.specs.Built.{with_node, built_from, AreBuilt, NodeBelow, count_of, PutsNode, PutsCompound, Putting}

-- The nodes of a term

mutual
  unfolding built_from subterms tree_count

  built-subterms : (t : Tree) (us : List Tree) → built_from (subterms t ++ us) ≡ tree t (built_from us)
  built-subterms (var n) us = refl
  built-subterms (int n) us = refl
  built-subterms (atom name) us = refl
  built-subterms (comp name ts) us =
      ap (λ f. tree (comp name (take_trees (tree_count ts) f)) (drop_trees (tree_count ts) f)) (built-subterms_all ts us)
      ∙ (ap (λ f. tree (comp name f) (drop_trees (tree_count ts) (append_trees ts (built_from us)))) (take_trees-append ts (built_from us))
      ∙ ap (tree (comp name ts)) (drop_trees-append ts (built_from us)))

  built-subterms_all : (ts : Trees) (us : List Tree) → built_from (subterms_all ts ++ us) ≡ append_trees ts (built_from us)
  built-subterms_all no_trees us = refl
  built-subterms_all (tree t ts) us =
      ap built_from (append_assoc (subterms t) (subterms_all ts) us) ∙ (built-subterms t (subterms_all ts ++ us) ∙ ap (tree t) (built-subterms_all ts us))

whole : (t : Tree) → built_from (subterms t) ≡ tree t no_trees
unfolding built_from
whole t = sym (ap built_from (append-nil (subterms t))) ∙ built-subterms t []

-- the variables among them

NodesBelow : ℕ → List Tree → Type 0
NodesBelow n [] = Unit {0}
NodesBelow n (u ∷ us) = NodeBelow n u × NodesBelow n us

mutual
  unfolding subterms Occurs NodesBelow

  below-subterms : (n : ℕ) (t : Tree) (us : List Tree) → SpeaksBelow n t → NodesBelow n us → NodesBelow n (subterms t ++ us)
  below-subterms n (var m) us below rest = (below m refl, rest)
  below-subterms n (int m) us below rest = (tt, rest)
  below-subterms n (atom name) us below rest = (tt, rest)
  below-subterms n (comp name ts) us below rest = (tt, below-subterms_all n ts us below rest)

  below-subterms_all : (n : ℕ) (ts : Trees) (us : List Tree) → ((m : ℕ) → OccursInAny m ts → m < n) → NodesBelow n us → NodesBelow n (subterms_all ts ++ us)
  below-subterms_all n no_trees us below rest = rest
  below-subterms_all n (tree t ts) us below rest =
      subst (NodesBelow n) (sym (append_assoc (subterms t) (subterms_all ts) us))
      (below-subterms n t (subterms_all ts ++ us) (λ m occurs. below m (inl occurs)) (below-subterms_all n ts us (λ m occurs. below m (inr occurs)) rest))

nodes_below : (n : ℕ) (t : Tree) → SpeaksBelow n t → NodesBelow n (subterms t)
unfolding NodesBelow
nodes_below n t below = subst (NodesBelow n) (append-nil (subterms t)) (below-subterms n t [] below tt)

below-drop : (n k : ℕ) (us : List Tree) → NodesBelow n us → NodesBelow n (drop k us)
unfolding NodesBelow
below-drop n zero us h = h
below-drop n (suc k) [] h = h
below-drop n (suc k) (u ∷ us) h = below-drop n k us h.1

-- the node with a number, as it is shown
pub record NodeAt (us : List Tree) (i : ℕ) (head : TermHead) : Type 0 where
  pub it : Tree
  pub shown : ShowsHead it head
  pub front : drop i us ≡ it ∷ drop (suc i) us

get_front : (us : List Tree) (i : ℕ) (u : Tree) → slice_get us i ≡ Some u → drop i us ≡ u ∷ drop (suc i) us
get_front [] i u e = cc
get_front (w ∷ us) zero u e = ap (λ x. x ∷ us) (cc)
get_front (w ∷ us) (suc i) u e = get_front us i u e

some_node : (us : List Tree) (i : ℕ) (head : TermHead) (o : Option Tree) → slice_get us i ≡ o → IsSomeAnd o (λ u. ShowsHead u head) → NodeAt us i head
some_node us i head None e h = absurd h
some_node us i head (Some u) e h = record { it = u; shown = h; front = get_front us i u e }

pub node_at : (us : List Tree) (i : ℕ) (head : TermHead) → IsSomeAnd (slice_get us i) (λ u. ShowsHead u head) → NodeAt us i head
node_at us i head h = some_node us i head (slice_get us i) refl h

-- Refs of the terms that were put

are_taken : {M : Type 0} (v : StoreView M) (k : ℕ) (rs : List Ref) (ts : Trees) → AreTerms v rs ts → AreTerms v (take k rs) (take_trees k ts)
unfolding AreTerms
are_taken v zero rs ts h = tt
are_taken v (suc k) [] no_trees h = tt
are_taken v (suc k) [] (tree t ts) h = absurd h
are_taken v (suc k) (r ∷ rs) no_trees h = absurd h
are_taken v (suc k) (r ∷ rs) (tree t ts) h = (h.0, are_taken v k rs ts h.1)

are_dropped : {M : Type 0} (v : StoreView M) (k : ℕ) (rs : List Ref) (ts : Trees) → AreTerms v rs ts → AreTerms v (drop k rs) (drop_trees k ts)
unfolding AreTerms
are_dropped v zero rs ts h = h
are_dropped v (suc k) [] no_trees h = tt
are_dropped v (suc k) [] (tree t ts) h = absurd h
are_dropped v (suc k) (r ∷ rs) no_trees h = absurd h
are_dropped v (suc k) (r ∷ rs) (tree t ts) h = are_dropped v k rs ts h.1

terms_kept : {M : Type 0} (v w : StoreView M) (rs : List Ref) (ts : Trees) → Keeps v w → AreTerms v rs ts → AreTerms w rs ts
unfolding AreTerms
terms_kept v w [] no_trees k h = tt
terms_kept v w [] (tree t ts) k h = absurd h
terms_kept v w (r ∷ rs) no_trees k h = absurd h
terms_kept v w (r ∷ rs) (tree t ts) k h = (k.terms r t h.0, terms_kept v w rs ts k h.1)

take_front : (k : ℕ) (rs qs : List Ref) → length rs ≡ k → take k (rs ++ qs) ≡ rs
take_front zero [] qs e = refl
take_front zero (r ∷ rs) qs e = cc
take_front (suc k) [] qs e = cc
take_front (suc k) (r ∷ rs) qs e = ap (λ xs. r ∷ xs) (take_front k rs qs (omega arith))

drop_front : (k : ℕ) (rs qs : List Ref) → length rs ≡ k → drop k (rs ++ qs) ≡ qs
drop_front zero [] qs e = refl
drop_front zero (r ∷ rs) qs e = cc
drop_front (suc k) [] qs e = cc
drop_front (suc k) (r ∷ rs) qs e = drop_front k rs qs (omega arith)

parted : (m : ℕ) (rs : List Ref) → take m rs ++ drop m rs ≡ rs
parted zero rs = refl
parted (suc m) [] = refl
parted (suc m) (r ∷ rs) = ap (λ xs. r ∷ xs) (parted m rs)

reversed : (m : ℕ) (rs : List Ref) → reverse rs ≡ reverse (drop m rs) ++ reverse (take m rs)
reversed m rs = ap reverse (sym (parted m rs)) ∙ reverse-append (take m rs) (drop m rs)

-- a list of no more than k is all of its first k
take_whole : (k : ℕ) (rs : List Ref) → length rs ≤ k → take k rs ≡ rs
take_whole zero [] h = refl
take_whole zero (r ∷ rs) h = absurd (omega arith)
take_whole (suc k) [] h = refl
take_whole (suc k) (r ∷ rs) h = ap (λ xs. r ∷ xs) (take_whole k rs (omega arith))

drop_whole : (k : ℕ) (rs : List Ref) → length rs ≤ k → drop k rs ≡ []
drop_whole zero [] h = refl
drop_whole zero (r ∷ rs) h = absurd (omega arith)
drop_whole (suc k) [] h = refl
drop_whole (suc k) (r ∷ rs) h = drop_whole k rs (omega arith)

-- the last few are the first few from behind
last_taken : (k : ℕ) (rs : List Ref) → reverse (drop (length rs - k) rs) ≡ take k (reverse rs)
last_taken k rs = elim (cases_Bool (nat_lt (length rs) k)) [
  | inl hit ↦
      let few : length rs < k = ltb-true (length rs) k hit in
      let none : length rs - k ≡ 0 = omega arith in
      ap (λ m. reverse (drop m rs)) none ∙ sym (take_whole k (reverse rs) (omega (arith, length-reverse rs)))
  | inr miss ↦
      let m : ℕ = length rs - k in
      let enough : k ≤ length rs = omega (arith, ltb-false (length rs) k miss) in
      let many : length (reverse (drop m rs)) ≡ k = length-reverse (drop m rs) ∙ omega (arith, length-drop m rs) in
      sym (ap (take k) (reversed m rs) ∙ take_front k (reverse (drop m rs)) (reverse (take m rs)) many)
]

last_dropped : (k : ℕ) (rs : List Ref) → reverse (take (length rs - k) rs) ≡ drop k (reverse rs)
last_dropped k rs = elim (cases_Bool (nat_lt (length rs) k)) [
  | inl hit ↦
      let few : length rs < k = ltb-true (length rs) k hit in
      let none : length rs - k ≡ 0 = omega arith in
      ap (λ m. reverse (take m rs)) none ∙ sym (drop_whole k (reverse rs) (omega (arith, length-reverse rs)))
  | inr miss ↦
      let m : ℕ = length rs - k in
      let enough : k ≤ length rs = omega (arith, ltb-false (length rs) k miss) in
      let many : length (reverse (drop m rs)) ≡ k = length-reverse (drop m rs) ∙ omega (arith, length-drop m rs) in
      sym (ap (drop k) (reversed m rs) ∙ drop_front k (reverse (drop m rs)) (reverse (take m rs)) many)
]

-- One node

on_top : {M : Type 0} (w : StoreView M) (rs : List Ref) (made : Ref) (x : Tree) (ts : Trees) → IsTerm w made x → AreBuilt w rs ts → AreBuilt w (rs ++ made ∷ []) (tree x ts)
unfolding AreTerms
on_top w rs made x ts term rest = subst (λ (qs : List Ref). AreTerms w qs (tree x ts)) (sym (reverse-append rs (made ∷ []))) (term, rest)

-- one without arguments
pub puts_leaf : {M : Type 0} (v w : StoreView M) (head : TermHead) (x : Tree) (old : List Ref) (made : Ref) → ((u : Tree) → ShowsHead u head → u ≡ x) → count_of head ≡ 0 → ((ts : Trees) → with_node x ts ≡ tree x ts)
    → Keeps v w → (NodeBelow (next v.now.state) x → IsTerm w made x) → PutsNode v w head old old made
puts_leaf v w head x old made is none leaf keeps term = record {
  many = omega arith;
  terms = λ u ts shown below built.
      let same : u ≡ x = is u shown in
      let there : IsTerm w made x = term (subst (NodeBelow (next v.now.state)) same below) in
      subst (AreBuilt w (old ++ made ∷ [])) (sym (ap (λ y. with_node y ts) same ∙ leaf ts)) (on_top w old made x ts there (terms_kept v w (reverse old) ts keeps built));
}

-- a compound, whose arguments were put last, the first one last of all
pub puts_compound : {M : Type 0} (v w : StoreView M) (name : List ℕ) (count : ℕ) (old new args : List Ref) (made : Ref) → args ≡ reverse (drop (length old - count) old) → new ≡ take (length old - count) old → Keeps v w
    → ((ts : Trees) → AreTerms v args ts → IsTerm w made (comp name ts)) → PutsCompound v w name count old new made
puts_compound v w name count old new args made taken left keeps term = record {
  many = ap length left ∙ omega (arith, length-take (length old - count) old);
  terms = λ ts built.
      let own : AreTerms v args (take_trees count ts) = subst (λ (rs : List Ref). AreTerms v rs (take_trees count ts)) (sym (taken ∙ last_taken count old)) (are_taken v count (reverse old) ts built) in
      let rest : AreBuilt w new (drop_trees count ts) =
      terms_kept v w (reverse new) (drop_trees count ts) keeps (subst (λ (rs : List Ref). AreTerms v rs (drop_trees count ts)) (sym (ap reverse left ∙ last_dropped count old)) (are_dropped v count (reverse old) ts built)) in
      on_top w new made (comp name (take_trees count ts)) (drop_trees count ts) (term (take_trees count ts) own) rest;
}

-- it is a node with so many arguments
compound_node : (u : Tree) (name : List ℕ) (count : ℕ) (ts : Trees) → u ≡ comp name (args u) → count ≡ arity u → with_node u ts ≡ tree (comp name (take_trees count ts)) (drop_trees count ts)
compound_node u name count ts is counts = ap (λ y. with_node y ts) is ∙ ap (λ n. tree (comp name (take_trees n ts)) (drop_trees n ts)) (sym counts)

pub puts_node : {M : Type 0} (v w : StoreView M) (head : TermHead) (name : List ℕ) (count : ℕ) (old new : List Ref) (made : Ref) → ((u : Tree) → ShowsHead u head → (u ≡ comp name (args u)) × (count ≡ arity u)) → count_of head ≡ count
    → PutsCompound v w name count old new made → PutsNode v w head old new made
puts_node v w head name count old new made shows counts puts = record {
  many = puts.many ∙ ap (λ n. length old - n) (sym counts);
  terms = λ u ts shown below built. let is = shows u shown in subst (AreBuilt w (new ++ made ∷ [])) (sym (compound_node u name count ts is.0 is.1)) (puts.terms ts built);
}

-- One node after another

pub keeps_itself : {M : Type 0} (v : StoreView M) → Keeps v v
keeps_itself v = record { good = λ m h. h; same = λ m h. refl; beside = λ m. refl; terms = λ r x h. h; names = λ n name h. h }

pub keeps_then : {M : Type 0} (v w x : StoreView M) → Keeps v w → Keeps w x → Keeps v x
keeps_then v w x a b = record {
  good = λ m h. b.good m (a.good m h);
  same = λ m h. b.same m (a.good m h) ∙ a.same m h;
  beside = λ m. b.beside m ∙ a.beside m;
  terms = λ r t h. b.terms r t (a.terms r t h);
  names = λ k name h. b.names k name (a.names k name h);
}

pub stays_then : {M : Type 0} (v w x : StoreView M) → Stays v w → Stays w x → Stays v x
stays_then v w x a b = record { keeps = keeps_then v w x a.keeps b.keeps; state = b.state ∙ a.state }

drop_every : (k : ℕ) (us : List Tree) → length us ≡ k → drop k us ≡ []
drop_every zero [] e = refl
drop_every zero (u ∷ us) e = cc
drop_every (suc k) [] e = refl
drop_every (suc k) (u ∷ us) e = drop_every k us (omega arith)

pub none_put : {M : Type 0} (v : StoreView M) (t : Tree) (k : ℕ) (built : List Ref) → k ≡ cells t → built ≡ [] → Putting v v t k built
unfolding built_from AreTerms tree_count
none_put v t k built e empty =
    let none : drop k (subterms t) ≡ [] = drop_every k (subterms t) (omega (arith, subterm_for_each_cell t)) in
    record {
      stays = record { keeps = keeps_itself v; state = refl };
      within = omega arith;
      many = ap length empty ∙ ap (λ us. tree_count (built_from us)) (sym none);
      terms = λ below. subst (λ (us : List Tree). AreBuilt v built (built_from us)) (sym none) (subst (λ (rs : List Ref). AreTerms v (reverse rs) no_trees) (sym empty) tt);
    }

count_dropped : (k : ℕ) (ts : Trees) → tree_count (drop_trees k ts) ≡ tree_count ts - k
unfolding tree_count
count_dropped zero ts = omega arith
count_dropped (suc k) no_trees = omega arith
count_dropped (suc k) (tree t ts) = let h : tree_count (drop_trees k ts) ≡ tree_count ts - k = count_dropped k ts in omega arith

count_with : (u : Tree) (head : TermHead) (ts : Trees) → ShowsHead u head → tree_count (with_node u ts) ≡ suc (tree_count ts - count_of head)
unfolding tree_count
count_with u (TermHead.Var n) ts shown = ap (λ y. tree_count (with_node y ts)) shown ∙ omega arith
count_with u (TermHead.Int n) ts shown = ap (λ y. tree_count (with_node y ts)) shown ∙ omega arith
count_with u (TermHead.Atom name) ts shown = ap (λ y. tree_count (with_node y ts)) shown ∙ omega arith
count_with (comp name us) (TermHead.Comp n count) ts shown = ap suc (count_dropped (tree_count us) ts) ∙ ap (λ k. suc (tree_count ts - k)) (sym shown.1)
count_with (var m) (TermHead.Comp n count) ts shown = absurd (cc)
count_with (int m) (TermHead.Comp n count) ts shown = absurd (cc)
count_with (atom m) (TermHead.Comp n count) ts shown = absurd (cc)

pub one_put : {M : Type 0} (v w x : StoreView M) (t : Tree) (i : ℕ) (head : TermHead) (built middle new : List Ref) (made : Ref) → Putting v w t (suc i) built → NodeAt (subterms t) i head → Stays w x → PutsNode w x head built middle made → new ≡ middle ++ made ∷ [] → Putting v x t i new
unfolding built_from NodesBelow
one_put v w x t i head built middle new made put at stays puts e =
    let us : List Tree = drop (suc i) (subterms t) in
    let within : suc i ≤ cells t = put.within in
    let front : built_from (drop i (subterms t)) ≡ with_node at.it (built_from us) = ap built_from at.front in
    let before : length built ≡ tree_count (built_from us) = put.many in
    let counts : tree_count (with_node at.it (built_from us)) ≡ suc (tree_count (built_from us) - count_of head) = count_with at.it head (built_from us) at.shown in
    let left : length middle ≡ length built - count_of head = puts.many in
    record {
      stays = stays_then v w x put.stays stays;
      within = omega arith;
      many = ap length e ∙ (omega (arith, length-append middle (made ∷ [])) ∙ ap tree_count (sym front));
      terms = λ below.
          let nodes : NodesBelow (next v.now.state) (at.it ∷ us) = subst (NodesBelow (next v.now.state)) at.front (below-drop (next v.now.state) i (subterms t) (nodes_below (next v.now.state) t below)) in
          let here : NodeBelow (next w.now.state) at.it = subst (λ (s : State). NodeBelow (next s) at.it) (sym put.stays.state) nodes.0 in
          subst (AreBuilt x new) (sym front) (subst (λ (rs : List Ref). AreBuilt x rs (with_node at.it (built_from us))) (sym e) (puts.terms at.it (built_from us) at.shown here (put.terms below)));
    }

-- all nodes were put

pub one_left : {M : Type 0} (v w : StoreView M) (t : Tree) (k : ℕ) (built : List Ref) → k ≡ 0 → Putting v w t k built → length built ≡ 1
unfolding tree_count
one_left v w t k built e put = put.many ∙ ap (λ j. tree_count (built_from (drop j (subterms t)))) e ∙ ap tree_count (whole t)

one_term : {M : Type 0} (w : StoreView M) (rs : List Ref) (t : Tree) → AreTerms w rs (tree t no_trees) → (r : Ref) × (rs ≡ r ∷ []) × IsTerm w r t
unfolding AreTerms
one_term w [] t h = absurd h
one_term w (r ∷ []) t h = (r, refl, h.0)
one_term w (r ∷ q ∷ rs) t h = absurd h.1

pub all_put : {M : Type 0} (v w : StoreView M) (t : Tree) (k : ℕ) (built : List Ref) → k ≡ 0 → Putting v w t k built → SpeaksBelow (next v.now.state) t → (r : Ref) × (built ≡ r ∷ []) × IsTerm w r t
all_put v w t k built e put below =
    let forest : built_from (drop k (subterms t)) ≡ tree t no_trees = ap (λ j. built_from (drop j (subterms t))) e ∙ whole t in
    let one = one_term w (reverse built) t (subst (AreBuilt w built) forest (put.terms below)) in
    (one.0, sym (reverse-reverse built) ∙ ap reverse one.1, one.2)
