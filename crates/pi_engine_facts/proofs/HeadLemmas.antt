-- The terms of a fact's head, put into a store from the left.
use Rattle.std.proofs.Common.{◌≡◌, ℕ, ℤ, zero, suc, ◌+◌, ◌<◌, ◌≤◌, Bool, true, false, List, [], ◌∷◌, ◌++◌, drop, length, Option, Some, None, get_or, refl, ap, sym, ◌∙◌, subst, arith, append_assoc}
use Rattle.std.proofs.lemmas.List.{append-nil, drop_all, drop_more}
use Rattle.std.specs.Prelude.{option_map, option_and_then, replicate, slice_index_or, slice_set}
use Rattle.std.specs.declared.vec.Vec.{Vec}
use Rattle.std.specs.declared.alloc.Global.{Global}
use Rattle.pi_terms.specs.Tree.{Tree, Trees, no_trees, tree, var, int, atom, comp}
use Rattle.pi_terms.specs.Places.{Places, held}
use Rattle.pi_constraints.specs.State.{State, IsState, SpeaksBelow, next, with_new}
use Rattle.pi_constraints.specs.Store.{StoreView, IsTerm, AreTerms, Keeps, Stays, Gives}
use Rattle.pi_constraints.specs.Evaluation.{Evaluated, EvaluatedAll, slot_term}
use Rattle.pi_constraints.specs.Unify.{unified}
use Rattle.pi_constraints.specs.declared.store.Ref.{Ref}
use Rattle.pi_constraints.proofs.KeepsLemmas.{new-next, new-keeps}
use Rattle.pi_constraints.proofs.UnifyLemmas.{unified_grows}
use Rattle.pi_core.specs.CoreTree.{pattern_tree, pattern_trees}
use Rattle.pi_core.specs.declared.core_program.Pattern.{Pattern, Slot, Int, Atom, Comp, Named}
use Rattle.std.specs.declared.boxed.Box.{Box}
use Rattle.pi_unify.specs.Answers.{Answers}
use Rattle.pi_unify.proofs.KeepsLemmas.{keeps_none, keeps_then}
use Rattle.pi_unify.proofs.PatternLemmas.{pattern_tree-comp, pattern_tree-named, pattern_tree-slot, pattern_tree-int, pattern_tree-atom}
use Rattle.pi_meaning.specs.CoreMeaning.Facts.{also_named, with_name, in_front, fact_term, fact_terms, unified_with}
use Rattle.pi_engine_facts.specs.Heads.{made_places, IsMade, AreMade, Puts, PutsHead, PutsHeads}

-- ---- slots

pub none-made : (n k : ℕ) → AreMade n (replicate k None)
unfolding AreMade
none-made n zero = tt
none-made n (suc k) = (tt, none-made n k)

pub none-places : (k : ℕ) → made_places (replicate k None) ≡ replicate k None
none-places zero = refl
none-places (suc k) = ap (λ e. None ∷ e) (none-places k)

pub made-held : (slots : List (Option ℕ)) (k : ℕ) → held (made_places slots) k ≡ option_map var (slice_index_or slots k None)
made-held [] k = refl
made-held (o ∷ slots) zero = refl
made-held (o ∷ slots) (suc k) = made-held slots k

made-at : (n m : ℕ) (o : Option ℕ) → IsMade n o → o ≡ Some m → m < n
made-at n m o made is = subst (IsMade n) is made

pub made-below : (n : ℕ) (slots : List (Option ℕ)) (k m : ℕ) → AreMade n slots → slice_index_or slots k None ≡ Some m → m < n
unfolding AreMade
made-below n [] k m made is = absurd cc
made-below n (o ∷ slots) zero m made is = made-at n m o made.0 is
made-below n (o ∷ slots) (suc k) m made is = made-below n slots k m made.1 is

pub set-places : (slots : List (Option ℕ)) (k n : ℕ) → made_places (slice_set slots k (Some n)) ≡ slice_set (made_places slots) k (Some (var n))
set-places [] k n = refl
set-places (o ∷ slots) zero n = refl
set-places (o ∷ slots) (suc k) n = ap (λ e. option_map var o ∷ e) (set-places slots k n)

is-more : (n m : ℕ) (o : Option ℕ) → n ≤ m → IsMade n o → IsMade m o
is-more n m None within made = tt
is-more n m (Some k) within made = omega (arith, within, made)

pub made-more : (n m : ℕ) (slots : List (Option ℕ)) → n ≤ m → AreMade n slots → AreMade m slots
unfolding AreMade
made-more n m [] within made = tt
made-more n m (o ∷ slots) within made = (is-more n m o within made.0, made-more n m slots within made.1)

pub made-set : (m : ℕ) (slots : List (Option ℕ)) (k n : ℕ) → n < m → AreMade m slots → AreMade m (slice_set slots k (Some n))
unfolding AreMade
made-set m [] k n within made = tt
made-set m (o ∷ slots) zero n within made = (within, made.1)
made-set m (o ∷ slots) (suc k) n within made = (made.0, made-set m slots k n within made.1)

-- ---- one slot

pub slot-there : {M : Type 0} (v : StoreView M) (slots : List (Option ℕ)) (k n : ℕ) (r : Ref) → slice_index_or slots k None ≡ Some n → IsState v.now.state → AreMade (next v.now.state) slots →
    (n < next v.now.state → IsTerm v r (var n)) → Puts v (slot_term (held (made_places slots) k) k (made_places slots) v.now.state) r slots
slot-there v slots k n r is state made term =
    subst (λ o. Puts v (slot_term o k (made_places slots) v.now.state) r slots) (sym (made-held slots k ∙ ap (option_map var) is))
    (record { term = term (made-below (next v.now.state) slots k n made is); state = refl; sound = state; slots_are = refl; made = made })

pub slot-new : {M : Type 0} (v w : StoreView M) (slots new : List (Option ℕ)) (k n : ℕ) (r : Ref) → slice_index_or slots k None ≡ None → IsState v.now.state → AreMade (next v.now.state) slots →
    n ≡ next v.now.state → new ≡ slice_set slots k (Some n) → Gives v w (with_new v.now.state) r (var (next v.now.state)) → Puts w (slot_term (held (made_places slots) k) k (made_places slots) v.now.state) r new
slot-new v w slots new k n r is state made number keeps gives =
    let m : ℕ = next v.now.state in
    let more : next w.now.state ≡ suc m = ap next gives.changes.state ∙ new-next v.now.state in
    subst (λ o. Puts w (slot_term o k (made_places slots) v.now.state) r new) (sym (made-held slots k ∙ ap (option_map var) is))
    (record {
      term = gives.term;
      state = gives.changes.state;
      sound = subst IsState (sym gives.changes.state) (new-keeps v.now.state state);
      slots_are = ap made_places keeps ∙ set-places slots k n ∙ ap (λ j. slice_set (made_places slots) k (Some (var j))) number;
      made = subst (AreMade (next w.now.state)) (sym keeps) (made-set (next w.now.state) slots k n (omega (arith, number, more)) (made-more m (next w.now.state) slots (omega (arith, more)) made));
    })

-- ---- one pattern

-- a term that is put beside what is there
pub put-plain : {M : Type 0} (v w : StoreView M) (t : Tree) (r : Ref) (slots : List (Option ℕ)) → IsState v.now.state → AreMade (next v.now.state) slots → Gives v w v.now.state r t →
    Puts w (record { tree = t; slots = made_places slots; state = v.now.state }) r slots
put-plain v w t r slots state made gives =
    record {
      term = gives.term;
      state = gives.changes.state;
      sound = subst IsState (sym gives.changes.state) state;
      slots_are = refl;
      made = subst (λ s. AreMade (next s) slots) (sym gives.changes.state) made;
    }

pub head-slot : {M : Type 0} (w : StoreView M) (p : Pattern) (k : ℕ) (e : Places) (s : State) (r : Ref) (slots : List (Option ℕ)) → p ≡ Slot k → Puts w (slot_term (held e k) k e s) r slots → PutsHead w (fact_term (pattern_tree p) e s) (Some r) slots
unfolding fact_term
head-slot w p k e s r slots is puts = subst (λ q. PutsHead w (fact_term (pattern_tree q) e s) (Some r) slots) (sym is) (subst (λ q. PutsHead w (fact_term q e s) (Some r) slots) (sym (pattern_tree-slot k)) puts)

pub head-int : {M : Type 0} (v w : StoreView M) (p : Pattern) (n : ℤ) (r : Ref) (slots : List (Option ℕ)) → p ≡ Int n → IsState v.now.state → AreMade (next v.now.state) slots → Gives v w v.now.state r (int n) →
    PutsHead w (fact_term (pattern_tree p) (made_places slots) v.now.state) (Some r) slots
unfolding fact_term
head-int v w p n r slots is state made gives =
    subst (λ q. PutsHead w (fact_term (pattern_tree q) (made_places slots) v.now.state) (Some r) slots) (sym is)
    (subst (λ q. PutsHead w (fact_term q (made_places slots) v.now.state) (Some r) slots) (sym (pattern_tree-int n)) (put-plain v w (int n) r slots state made gives))

pub head-atom : {M : Type 0} (v w : StoreView M) (p : Pattern) (name : List ℕ) (r : Ref) (slots : List (Option ℕ)) → p ≡ Atom name → IsState v.now.state → AreMade (next v.now.state) slots → Gives v w v.now.state r (atom name) →
    PutsHead w (fact_term (pattern_tree p) (made_places slots) v.now.state) (Some r) slots
unfolding fact_term
head-atom v w p name r slots is state made gives =
    subst (λ q. PutsHead w (fact_term (pattern_tree q) (made_places slots) v.now.state) (Some r) slots) (sym is)
    (subst (λ q. PutsHead w (fact_term q (made_places slots) v.now.state) (Some r) slots) (sym (pattern_tree-atom name)) (put-plain v w (atom name) r slots state made gives))

-- the same of other lists and names that are these
pub comp-same : {M : Type 0} (w u : StoreView M) (name other : List ℕ) (rs qs : List Ref) (r : Ref) → name ≡ other → rs ≡ qs → ((ts : Trees) → AreTerms w rs ts → IsTerm u r (comp name ts)) → (ts : Trees) → AreTerms w qs ts → IsTerm u r (comp other ts)
comp-same w u name other rs qs r text same term ts are = subst (λ n. IsTerm u r (comp n ts)) text (term ts (subst (λ xs. AreTerms w xs ts) (sym same) are))

pub int-same : {M : Type 0} (v w : StoreView M) (s : State) (r : Ref) (m n : ℤ) → m ≡ n → Gives v w s r (int m) → Gives v w s r (int n)
int-same v w s r m n same gives = subst (λ k. Gives v w s r (int k)) same gives

-- what was found is something, or nothing
pub head-is : {M : Type 0} (w : StoreView M) (x : Option Evaluated) (o p : Option Ref) (slots : List (Option ℕ)) → o ≡ p → PutsHead w x o slots → PutsHead w x p slots
head-is w x o p slots is puts = subst (λ q. PutsHead w x q slots) is puts

pub heads-are : {M : Type 0} (w : StoreView M) (x : Option EvaluatedAll) (o p : Option (Vec Ref Global)) (slots : List (Option ℕ)) → o ≡ p → PutsHeads w x o slots → PutsHeads w x p slots
heads-are w x o p slots is puts = subst (λ q. PutsHeads w x q slots) is puts

-- the compound of terms that were put
compound-of : {M : Type 0} (w u : StoreView M) (name : List ℕ) (o : Option EvaluatedAll) (rs : Vec Ref Global) (r : Ref) (slots : List (Option ℕ)) → PutsHeads w o (Some rs) slots → Stays w u → ((ts : Trees) → AreTerms w rs.items ts → IsTerm u r (comp name ts)) →
    PutsHead u (option_map (with_name name) o) (Some r) slots
compound-of w u name None rs r slots puts stays term = absurd puts
compound-of w u name (Some x) rs r slots puts stays term =
    record {
      term = term x.trees puts.terms;
      state = stays.state ∙ puts.state;
      sound = subst IsState (sym stays.state) puts.sound;
      slots_are = puts.slots_are;
      made = subst (λ s. AreMade (next s) slots) (sym stays.state) puts.made;
    }

pub head-comp : {M : Type 0} (w u : StoreView M) (p : Pattern) (name : List ℕ) (ps : Vec Pattern Global) (e : Places) (s : State) (rs : Vec Ref Global) (r : Ref) (slots : List (Option ℕ)) → p ≡ Comp name ps →
    PutsHeads w (fact_terms (pattern_trees ps.items) e s) (Some rs) slots → Stays w u → ((ts : Trees) → AreTerms w rs.items ts → IsTerm u r (comp name ts)) → PutsHead u (fact_term (pattern_tree p) e s) (Some r) slots
unfolding fact_term
head-comp w u p name ps e s rs r slots is puts stays term =
    subst (λ q. PutsHead u (fact_term (pattern_tree q) e s) (Some r) slots) (sym is)
    (subst (λ q. PutsHead u (fact_term q e s) (Some r) slots) (sym (pattern_tree-comp name ps)) (compound-of w u name (fact_terms (pattern_trees ps.items) e s) rs r slots puts stays term))

none-of : {M : Type 0} (w u : StoreView M) (name : List ℕ) (o : Option EvaluatedAll) (slots : List (Option ℕ)) → PutsHeads w o None slots → PutsHead u (option_map (with_name name) o) None slots
none-of w u name None slots puts = tt
none-of w u name (Some x) slots puts = absurd puts

pub head-comp_none : {M : Type 0} (w u : StoreView M) (p : Pattern) (name : List ℕ) (ps : Vec Pattern Global) (e : Places) (s : State) (slots : List (Option ℕ)) → p ≡ Comp name ps → PutsHeads w (fact_terms (pattern_trees ps.items) e s) None slots →
    PutsHead u (fact_term (pattern_tree p) e s) None slots
unfolding fact_term
head-comp_none w u p name ps e s slots is puts =
    subst (λ q. PutsHead u (fact_term (pattern_tree q) e s) None slots) (sym is)
    (subst (λ q. PutsHead u (fact_term q e s) None slots) (sym (pattern_tree-comp name ps)) (none-of w u name (fact_terms (pattern_trees ps.items) e s) slots puts))

-- ---- a named part

pub named-found : {M : Type 0} (w u : StoreView M) (x y : Evaluated) (whole part : Ref) (slots : List (Option ℕ)) (o : Option State) → unified w.now.state x.tree y.tree ≡ o → Puts w y part slots → IsTerm w whole x.tree → Keeps w u → IsState u.now.state →
    SpeaksBelow (next w.now.state) x.tree → SpeaksBelow (next w.now.state) y.tree → Answers o true u.now.state → PutsHead u (also_named x y) (Some whole) slots
named-found w u x y whole part slots None is puts term keeps state low high told = absurd cc
named-found w u x y whole part slots (Some r) is puts term keeps state low high told =
    let count : next u.now.state ≡ next w.now.state = ap next told.1 ∙ (unified_grows w.now.state r x.tree y.tree puts.sound low high is).as_many in
    subst (λ o. PutsHead u (option_map (λ s. record { tree = x.tree; slots = y.slots; state = s }) o) (Some whole) slots) (sym (ap (λ s. unified s x.tree y.tree) (sym puts.state) ∙ is))
    (record { term = keeps.terms whole x.tree term; state = told.1; sound = state; slots_are = puts.slots_are; made = subst (λ n. AreMade n slots) (sym count) puts.made })

pub named-none : {M : Type 0} (w u : StoreView M) (x y : Evaluated) (part : Ref) (slots : List (Option ℕ)) (o : Option State) → unified w.now.state x.tree y.tree ≡ o → Puts w y part slots → Answers o false u.now.state → PutsHead u (also_named x y) None slots
named-none w u x y part slots None is puts told =
    subst (λ o. PutsHead u (option_map (λ s. record { tree = x.tree; slots = y.slots; state = s }) o) None slots) (sym (ap (λ s. unified s x.tree y.tree) (sym puts.state) ∙ is)) tt
named-none w u x y part slots (Some r) is puts told = absurd cc

named-by : {M : Type 0} (v w u : StoreView M) (x : Evaluated) (o : Option Evaluated) (whole part : Ref) (made : Option Ref) (slots : List (Option ℕ)) → PutsHead w o (Some part) slots → IsTerm w whole x.tree →
    ((y : Evaluated) → Puts w y part slots → IsTerm w whole x.tree → PutsHead u (also_named x y) made slots) → PutsHead u (option_and_then (also_named x) o) made slots
named-by v w u x None whole part made slots puts term makes = absurd puts
named-by v w u x (Some y) whole part made slots puts term makes = makes y puts term

-- its name, then the part, and both are made equal
pub head-named : {M : Type 0} (v w x u : StoreView M) (p : Pattern) (k : ℕ) (inner : Box Pattern Global) (slots one two : List (Option ℕ)) (whole part : Ref) (made : Option Ref) → p ≡ Named k inner →
    Puts w (slot_term (held (made_places slots) k) k (made_places slots) v.now.state) whole one → Keeps w x →
    (IsState w.now.state → AreMade (next w.now.state) one → PutsHead x (fact_term (pattern_tree inner.value) (made_places one) w.now.state) (Some part) two) →
    ((a b : Evaluated) → Puts x b part two → IsTerm x whole a.tree → PutsHead u (also_named a b) made two) → PutsHead u (fact_term (pattern_tree p) (made_places slots) v.now.state) made two
unfolding fact_term
head-named v w x u p k inner slots one two whole part made is first keeps second makes =
    let a : Evaluated = slot_term (held (made_places slots) k) k (made_places slots) v.now.state in
    subst (λ q. PutsHead u (fact_term (pattern_tree q) (made_places slots) v.now.state) made two) (sym is)
    (subst (λ q. PutsHead u (fact_term q (made_places slots) v.now.state) made two) (sym (pattern_tree-named k inner))
    (named-by v x u a (fact_term (pattern_tree inner.value) a.slots a.state) whole part made two
    (subst (λ s. PutsHead x (fact_term (pattern_tree inner.value) a.slots s) (Some part) two) first.state
    (subst (λ e. PutsHead x (fact_term (pattern_tree inner.value) e w.now.state) (Some part) two) first.slots_are (second first.sound first.made)))
    (keeps.terms whole a.tree first.term) (λ b puts term. makes a b puts term)))

none-named : {M : Type 0} (x u : StoreView M) (a : Evaluated) (o : Option Evaluated) (slots two : List (Option ℕ)) → PutsHead x o None slots → PutsHead u (option_and_then (also_named a) o) None two
none-named x u a None slots two puts = tt
none-named x u a (Some y) slots two puts = absurd puts

pub head-named_none : {M : Type 0} (v w x u : StoreView M) (p : Pattern) (k : ℕ) (inner : Box Pattern Global) (slots one two : List (Option ℕ)) (whole : Ref) → p ≡ Named k inner →
    Puts w (slot_term (held (made_places slots) k) k (made_places slots) v.now.state) whole one →
    (IsState w.now.state → AreMade (next w.now.state) one → PutsHead x (fact_term (pattern_tree inner.value) (made_places one) w.now.state) None two) → PutsHead u (fact_term (pattern_tree p) (made_places slots) v.now.state) None two
unfolding fact_term
head-named_none v w x u p k inner slots one two whole is first second =
    let a : Evaluated = slot_term (held (made_places slots) k) k (made_places slots) v.now.state in
    subst (λ q. PutsHead u (fact_term (pattern_tree q) (made_places slots) v.now.state) None two) (sym is)
    (subst (λ q. PutsHead u (fact_term q (made_places slots) v.now.state) None two) (sym (pattern_tree-named k inner))
    (none-named x u a (fact_term (pattern_tree inner.value) a.slots a.state) two two
    (subst (λ s. PutsHead x (fact_term (pattern_tree inner.value) a.slots s) None two) first.state
    (subst (λ e. PutsHead x (fact_term (pattern_tree inner.value) e w.now.state) None two) first.slots_are (second first.sound first.made)))))

-- ---- patterns one after the other

abbrev pub with_front : (Trees → Trees) → EvaluatedAll → EvaluatedAll
with_front front all = record { trees = front all.trees; slots = all.slots; state = all.state }

pub pattern-next : (ps : List Pattern) (i : ℕ) (p : Pattern) → i < length ps → p ≡ get_or ps i p → drop i ps ≡ p ∷ drop (i + 1) ps
pattern-next ps i p within is = drop_more ps i p within ∙ ap (λ q. q ∷ drop (i + 1) ps) (sym is)

-- the patterns that are left, behind those that were put
pub record Behind {M : Type 0} (v w : StoreView M) (ps : List Pattern) (i : ℕ) (before slots : List (Option ℕ)) (parts : List Ref) : Type 0 where
  pub front : Trees → Trees
  pub whole : fact_terms (pattern_trees ps) (made_places before) v.now.state ≡ option_map (with_front front) (fact_terms (pattern_trees (drop i ps)) (made_places slots) w.now.state)
  pub built : (u : StoreView M) → Keeps w u → (rs : List Ref) (us : Trees) → AreTerms u rs us → AreTerms u (parts ++ rs) (front us)
  pub sound : IsState w.now.state
  pub made : AreMade (next w.now.state) slots

pub record SoFar {M : Type 0} (v w : StoreView M) (ps : List Pattern) (i : ℕ) (before slots : List (Option ℕ)) (parts : List Ref) : Type 0 where
  pub keeps : Keeps v w
  pub behind : IsState v.now.state → AreMade (next v.now.state) before → Behind v w ps i before slots parts

same-front : (o : Option EvaluatedAll) → o ≡ option_map (with_front (λ us. us)) o
same-front None = refl
same-front (Some x) = refl

pub none-put : {M : Type 0} (v : StoreView M) (ps : List Pattern) (slots : List (Option ℕ)) (parts : List Ref) → parts ≡ [] → SoFar v v ps 0 slots slots parts
none-put v ps slots parts none =
    record {
      keeps = keeps_none v;
      behind = λ state made. record {
        front = λ us. us;
        whole = same-front (fact_terms (pattern_trees ps) (made_places slots) v.now.state);
        built = λ u keeps rs us are. subst (λ xs. AreTerms u (xs ++ rs) us) (sym none) are;
        sound = state;
        made = made;
      };
    }

fronts : (front : Trees → Trees) (x : Evaluated) (o : Option EvaluatedAll) → option_map (with_front front) (option_map (in_front x) o) ≡ option_map (with_front (λ us. front (tree x.tree us))) o
fronts front x None = refl
fronts front x (Some all) = refl

next-behind : {M : Type 0} (w u : StoreView M) (front : Trees → Trees) (p : Pattern) (rest : List Pattern) (o : Option Evaluated) (slots two : List (Option ℕ)) (r : Ref) → fact_term (pattern_tree p) (made_places slots) w.now.state ≡ o → PutsHead u o (Some r) two →
    (x : Evaluated) × Puts u x r two × (option_map (with_front front) (fact_terms (pattern_trees (p ∷ rest)) (made_places slots) w.now.state) ≡ option_map (with_front (λ us. front (tree x.tree us))) (fact_terms (pattern_trees rest) (made_places two) u.now.state))
unfolding fact_terms pattern_trees
next-behind w u front p rest None slots two r is puts = absurd puts
next-behind w u front p rest (Some x) slots two r is puts = (
  x,
  puts,
  ap (λ o. option_map (with_front front) (option_and_then (λ first. option_map (in_front first) (fact_terms (pattern_trees rest) first.slots first.state)) o)) is
      ∙ fronts front x (fact_terms (pattern_trees rest) x.slots x.state)
      ∙ ap (λ e. option_map (with_front (λ us. front (tree x.tree us))) (fact_terms (pattern_trees rest) e x.state)) (sym puts.slots_are)
      ∙ ap (λ s. option_map (with_front (λ us. front (tree x.tree us))) (fact_terms (pattern_trees rest) (made_places two) s)) (sym puts.state),
)

more-terms : {M : Type 0} (u : StoreView M) (parts : List Ref) (r : Ref) (rs : List Ref) (us : Trees) → AreTerms u (parts ++ r ∷ rs) us → AreTerms u ((parts ++ r ∷ []) ++ rs) us
more-terms u parts r rs us are = subst (λ xs. AreTerms u xs us) (sym (append_assoc parts (r ∷ []) rs)) are

behind-more : {M : Type 0} (v w u : StoreView M) (ps : List Pattern) (i : ℕ) (before slots two : List (Option ℕ)) (parts more : List Ref) (p : Pattern) (r : Ref) → drop i ps ≡ p ∷ drop (i + 1) ps → Keeps w u → more ≡ parts ++ r ∷ [] →
    PutsHead u (fact_term (pattern_tree p) (made_places slots) w.now.state) (Some r) two → Behind v w ps i before slots parts → Behind v u ps (i + 1) before two more
unfolding AreTerms
behind-more v w u ps i before slots two parts more p r at keeps added puts so =
    let it = next-behind w u so.front p (drop (i + 1) ps) (fact_term (pattern_tree p) (made_places slots) w.now.state) slots two r refl puts in
    record {
      front = λ us. so.front (tree it.0.tree us);
      whole = so.whole ∙ ap (λ qs. option_map (with_front so.front) (fact_terms (pattern_trees qs) (made_places slots) w.now.state)) at ∙ it.2;
      built = λ x later rs us are.
          subst (λ xs. AreTerms x (xs ++ rs) (so.front (tree it.0.tree us))) (sym added)
          (more-terms x parts r rs (so.front (tree it.0.tree us)) (so.built x (keeps_then w u x keeps later) (r ∷ rs) (tree it.0.tree us) (later.terms r it.0.tree it.1.term, are)));
      sound = it.1.sound;
      made = it.1.made;
    }

pub one-more_put : {M : Type 0} (v w u : StoreView M) (ps : List Pattern) (i : ℕ) (before slots two : List (Option ℕ)) (parts more : List Ref) (p : Pattern) (r : Ref) → drop i ps ≡ p ∷ drop (i + 1) ps → Keeps w u → more ≡ parts ++ r ∷ [] →
    (IsState w.now.state → AreMade (next w.now.state) slots → PutsHead u (fact_term (pattern_tree p) (made_places slots) w.now.state) (Some r) two) → SoFar v w ps i before slots parts → SoFar v u ps (i + 1) before two more
one-more_put v w u ps i before slots two parts more p r at keeps added puts so =
    record {
      keeps = keeps_then v w u so.keeps keeps;
      behind = λ state made.
          (let b : Behind v w ps i before slots parts = so.behind state made in
          behind-more v w u ps i before slots two parts more p r at keeps added (puts b.sound b.made) b);
    }

none-behind : {M : Type 0} (u : StoreView M) (front : Trees → Trees) (p : Pattern) (rest : List Pattern) (o : Option Evaluated) (e : Places) (s : State) (two three : List (Option ℕ)) → fact_term (pattern_tree p) e s ≡ o → PutsHead u o None two →
    PutsHeads u (option_map (with_front front) (fact_terms (pattern_trees (p ∷ rest)) e s)) None three
unfolding fact_terms pattern_trees
none-behind u front p rest None e s two three is puts =
    subst (λ o. PutsHeads u (option_map (with_front front) (option_and_then (λ first. option_map (in_front first) (fact_terms (pattern_trees rest) first.slots first.state)) o)) None three) (sym is) tt
none-behind u front p rest (Some x) e s two three is puts = absurd puts

-- one has no term
pub none-more : {M : Type 0} (v w u : StoreView M) (ps : List Pattern) (i : ℕ) (before slots two : List (Option ℕ)) (parts : List Ref) (p : Pattern) → drop i ps ≡ p ∷ drop (i + 1) ps →
    (IsState w.now.state → AreMade (next w.now.state) slots → PutsHead u (fact_term (pattern_tree p) (made_places slots) w.now.state) None two) → SoFar v w ps i before slots parts →
    IsState v.now.state → AreMade (next v.now.state) before → PutsHeads u (fact_terms (pattern_trees ps) (made_places before) v.now.state) None two
none-more v w u ps i before slots two parts p at puts so state made =
    let b : Behind v w ps i before slots parts = so.behind state made in
    subst (λ o. PutsHeads u o None two) (sym (b.whole ∙ ap (λ qs. option_map (with_front b.front) (fact_terms (pattern_trees qs) (made_places slots) w.now.state)) at))
    (none-behind u b.front p (drop (i + 1) ps) (fact_term (pattern_tree p) (made_places slots) w.now.state) (made_places slots) w.now.state two two refl (puts b.sound b.made))

-- all are put
pub all-put : {M : Type 0} (v w : StoreView M) (ps : List Pattern) (i : ℕ) (before slots : List (Option ℕ)) (parts : Vec Ref Global) → length ps ≤ i → SoFar v w ps i before slots parts.items →
    IsState v.now.state → AreMade (next v.now.state) before → PutsHeads w (fact_terms (pattern_trees ps) (made_places before) v.now.state) (Some parts) slots
unfolding fact_terms pattern_trees AreTerms
all-put v w ps i before slots parts past so state made =
    let b : Behind v w ps i before slots parts.items = so.behind state made in
    subst (λ o. PutsHeads w o (Some parts) slots) (sym (b.whole ∙ ap (λ qs. option_map (with_front b.front) (fact_terms (pattern_trees qs) (made_places slots) w.now.state)) (drop_all i ps past)))
    (record {
      terms = subst (λ xs. AreTerms w xs (b.front no_trees)) (append-nil parts.items) (b.built w (keeps_none w) [] no_trees tt);
      state = refl;
      sound = b.sound;
      slots_are = refl;
      made = b.made;
    })

-- ---- the whole head against a call

one-of : {M : Type 0} (w : StoreView M) (ts : Trees) (o : Option EvaluatedAll) (slots : List (Option ℕ)) → PutsHeads w o None slots → option_and_then (unified_with ts) o ≡ None
one-of w ts None slots puts = refl
one-of w ts (Some x) slots puts = absurd puts

pub no-head : {M : Type 0} (v w : StoreView M) (ps : List Pattern) (count : ℕ) (ts : Trees) (slots : List (Option ℕ)) → PutsHeads w (fact_terms (pattern_trees ps) (made_places (replicate count None)) v.now.state) None slots →
    Answers (option_and_then (unified_with ts) (fact_terms (pattern_trees ps) (replicate count None) v.now.state)) false w.now.state
no-head v w ps count ts slots puts =
    subst (λ o. Answers o false w.now.state) (sym (one-of w ts (fact_terms (pattern_trees ps) (replicate count None) v.now.state) slots (subst (λ e. PutsHeads w (fact_terms (pattern_trees ps) e v.now.state) None slots) (none-places count) puts))) refl

head-by : {M : Type 0} (w x u : StoreView M) (ts : Trees) (o : Option EvaluatedAll) (rs : Vec Ref Global) (call fact : Ref) (slots : List (Option ℕ)) (one : Bool) → PutsHeads w o (Some rs) slots → Stays w x → ((us : Trees) → AreTerms w rs.items us → IsTerm x fact (comp [] us)) →
    IsTerm w call (comp [] ts) → ((q : Ref) (t : Tree) → IsTerm x q t → SpeaksBelow (next x.now.state) t) →
    ((t y : Tree) → IsState x.now.state → IsTerm x call t → IsTerm x fact y → SpeaksBelow (next x.now.state) t → SpeaksBelow (next x.now.state) y → Answers (unified x.now.state t y) one u.now.state) →
    Answers (option_and_then (unified_with ts) o) one u.now.state
head-by w x u ts None rs call fact slots one puts stays term asked below unifies = absurd puts
head-by w x u ts (Some all) rs call fact slots one puts stays term asked below unifies =
    let put : IsTerm x fact (comp [] all.trees) = term all.trees puts.terms in
    let also : IsTerm x call (comp [] ts) = stays.keeps.terms call (comp [] ts) asked in
    subst (λ s. Answers (unified s (comp [] ts) (comp [] all.trees)) one u.now.state) (stays.state ∙ puts.state)
    (unifies (comp [] ts) (comp [] all.trees) (subst IsState (sym stays.state) puts.sound) also put (below call (comp [] ts) also) (below fact (comp [] all.trees) put))

pub head-unifies : {M : Type 0} (v w x u : StoreView M) (ps : List Pattern) (count : ℕ) (ts : Trees) (rs : Vec Ref Global) (call fact : Ref) (slots : List (Option ℕ)) (one : Bool) → Keeps v w →
    PutsHeads w (fact_terms (pattern_trees ps) (made_places (replicate count None)) v.now.state) (Some rs) slots → Stays w x → ((us : Trees) → AreTerms w rs.items us → IsTerm x fact (comp [] us)) →
    IsTerm v call (comp [] ts) → ((q : Ref) (t : Tree) → IsTerm x q t → SpeaksBelow (next x.now.state) t) →
    ((t y : Tree) → IsState x.now.state → IsTerm x call t → IsTerm x fact y → SpeaksBelow (next x.now.state) t → SpeaksBelow (next x.now.state) y → Answers (unified x.now.state t y) one u.now.state) →
    Answers (option_and_then (unified_with ts) (fact_terms (pattern_trees ps) (replicate count None) v.now.state)) one u.now.state
head-unifies v w x u ps count ts rs call fact slots one keeps puts stays term asked below unifies =
    head-by w x u ts (fact_terms (pattern_trees ps) (replicate count None) v.now.state) rs call fact slots one (subst (λ e. PutsHeads w (fact_terms (pattern_trees ps) e v.now.state) (Some rs) slots) (none-places count) puts)
    stays term (keeps.terms call (comp [] ts) asked) below unifies

state-by : {M : Type 0} (w x : StoreView M) (o : Option EvaluatedAll) (rs : Vec Ref Global) (slots : List (Option ℕ)) → PutsHeads w o (Some rs) slots → Stays w x → IsState x.now.state
state-by w x None rs slots puts stays = absurd puts
state-by w x (Some all) rs slots puts stays = subst IsState (sym stays.state) puts.sound

parts-by : {M : Type 0} (w : StoreView M) (o : Option EvaluatedAll) (rs : Vec Ref Global) (slots : List (Option ℕ)) → PutsHeads w o (Some rs) slots → (us : Trees) × AreTerms w rs.items us
parts-by w None rs slots puts = absurd puts
parts-by w (Some all) rs slots puts = (all.trees, puts.terms)

-- the state after it is one
pub head-state : {M : Type 0} (v w x u : StoreView M) (ts : Trees) (o : Option EvaluatedAll) (rs : Vec Ref Global) (call fact : Ref) (slots : List (Option ℕ)) → Keeps v w → PutsHeads w o (Some rs) slots → Stays w x → ((us : Trees) → AreTerms w rs.items us → IsTerm x fact (comp [] us)) →
    IsTerm v call (comp [] ts) → ((q : Ref) (t : Tree) → IsTerm x q t → SpeaksBelow (next x.now.state) t) →
    ((t y : Tree) → IsState x.now.state → IsTerm x call t → IsTerm x fact y → SpeaksBelow (next x.now.state) t → SpeaksBelow (next x.now.state) y → IsState u.now.state) → IsState u.now.state
head-state v w x u ts o rs call fact slots keeps puts stays term asked below state =
    let parts : (us : Trees) × AreTerms w rs.items us = parts-by w o rs slots puts in
    let put : IsTerm x fact (comp [] parts.0) = term parts.0 parts.1 in
    let also : IsTerm x call (comp [] ts) = stays.keeps.terms call (comp [] ts) (keeps.terms call (comp [] ts) asked) in
    state (comp [] ts) (comp [] parts.0) (state-by w x o rs slots puts stays) also put (below call (comp [] ts) also) (below fact (comp [] parts.0) put)
