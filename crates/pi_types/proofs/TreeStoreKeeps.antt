-- What stays of a copying store when its present state changes, and when names are added.
use Rattle.std.proofs.Common.{◌≡◌, ℕ, zero, suc, ◌+◌, ◌<◌, ◌≤◌, Bool, true, false, List, [], ◌∷◌, ◌++◌, length, Some, refl, ap, sym, subst, ◌∙◌, arith, map, length-append}
use Rattle.std.specs.Prelude.{slice_get, slice_index_or, nat_lt}
use Rattle.std.proofs.lemmas.Bool.Decides.{nat_tests}
use Rattle.pi_terms.specs.Tree.{Tree}
use Rattle.pi_constraints.specs.State.{State, bound, on_ins, on_bound, on_dom, on_dom_any, on_posted}
use Rattle.pi_constraints.specs.Store.{StoreView, Keeps, Changes, Stays, Gives}
use Rattle.pi_types.specs.TreeStore.{tree_in, term_tree, grown, trees_of, known_of, variable_of, watch_of, agent_of, state_of, moment, moment_over, kept_count, store_view}
use Rattle.pi_types.specs.TreeStoreWalks.{AllWatchedBelow, watched_ref, changed}
use Rattle.pi_types.specs.TreeStoreSound.{IsSound, IsSoundState, IsKnownBelow, with_kept, IsAdvanced, IsSame}
use Rattle.pi_constraints.specs.declared.store.Ref.{Ref}
use Rattle.pi_constraints.specs.declared.event.Watch.{Watch}
use Rattle.pi_types.specs.declared.tree_store.state.StoredTerm.{StoredTerm}
use Rattle.pi_types.specs.declared.tree_store.state.Known.{Known}
use Rattle.pi_types.specs.declared.tree_store.state.StoredAgent.{StoredAgent}
use Rattle.pi_types.specs.declared.tree_store.state.TreeState.{TreeState}
use Rattle.pi_types.specs.declared.tree_store.state.Change.{Change}
use Rattle.pi_terms.proofs.GetLemmas.{get_append_left, get_append_last, map_same}
use Rattle.pi_types.proofs.TreeStoreTrees.{Names, trees_more, tree_in_more, trees_names, length_trees}
use Rattle.pi_types.proofs.TreeStoreSoundLemmas.{sound_at}

kept_at : (e : List TreeState) (p q : TreeState) (m : ℕ) → m < length e + 1 → slice_index_or (e ++ p ∷ []) m q ≡ slice_index_or e m p
kept_at [] p q zero h = refl
kept_at [] p q (suc m) h = absurd (omega arith)
kept_at (s ∷ e) p q zero h = refl
kept_at (s ∷ e) p q (suc m) h = kept_at e p q m (omega arith)

unkept_at : (e : List TreeState) (p q : TreeState) (m : ℕ) → m < length e + 0 → slice_index_or e m q ≡ slice_index_or e m p
unkept_at [] p q m h = absurd (omega arith)
unkept_at (s ∷ e) p q zero h = refl
unkept_at (s ∷ e) p q (suc m) h = unkept_at e p q m (omega arith)

pub below_from : (m n : ℕ) → nat_lt m n ≡ true → m < n
below_from m n h = grind (arith, nat_tests)

pub below_to : (m n : ℕ) → m < n → nat_lt m n ≡ true
below_to m n h = grind (arith, nat_tests)

good_kept : (e : List TreeState) (p : TreeState) (k : Bool) (m : ℕ) → nat_lt m (kept_count e k) ≡ true → nat_lt m (kept_count (with_kept e p k) false) ≡ true
good_kept e p true m h = let b : m < length e + 1 = below_from m (length e + 1) h in below_to m (length (e ++ p ∷ []) + 0) (omega (arith, length-append e (p ∷ [])))
good_kept e p false m h = h

at_kept : (e : List TreeState) (p q : TreeState) (k : Bool) (m : ℕ) → nat_lt m (kept_count e k) ≡ true → slice_index_or (with_kept e p k) m q ≡ slice_index_or e m p
at_kept e p q true m h = kept_at e p q m (below_from m (length e + 1) h)
at_kept e p q false m h = unkept_at e p q m (below_from m (length e + 0) h)

-- the terms of one state are those of another one, and maybe more
abbrev pub HasTerms : Names → TreeState → TreeState → Type 0
HasTerms names p q = (r : ℕ) (t : Tree) → slice_get (trees_of names p) r ≡ Some t → slice_get (trees_of names q) r ≡ Some t

keeps_change : (names : Names) (e : List TreeState) (p q : TreeState) (k : Bool) → HasTerms names p q → Keeps (store_view names e p k) (store_view names (with_kept e p k) q false)
keeps_change names e p q k h = record {
  good = λ m g. good_kept e p k m g;
  same = λ m g. ap (λ s. moment names s) (at_kept e p q k m g);
  beside = λ m. refl;
  terms = λ r t i. h r.number t i;
  names = λ j name i. i;
}

pub keeps_same : {M : Type 0} (v : StoreView M) → Keeps v v
keeps_same v = record { good = λ m g. g; same = λ m g. refl; beside = λ m. refl; terms = λ r t i. i; names = λ j name i. i }

pub keeps_then : {M : Type 0} (u v w : StoreView M) → Keeps u v → Keeps v w → Keeps u w
keeps_then u v w a b = record {
  good = λ m g. b.good m (a.good m g);
  same = λ m g. b.same m (a.good m g) ∙ a.same m g;
  beside = λ m. b.beside m ∙ a.beside m;
  terms = λ r t i. b.terms r t (a.terms r t i);
  names = λ j name i. b.names j name (a.names j name i);
}

pub stays_same : {M : Type 0} (v : StoreView M) → Stays v v
stays_same v = record { keeps = keeps_same v; state = refl }

pub changes_then : {M : Type 0} (u v w : StoreView M) (s t : State) → Stays u v → Changes v w s → s ≡ t → Changes u w t
changes_then u v w s t a b e = record { keeps = keeps_then u v w a.keeps b.keeps; state = b.state ∙ e }

pub stays_then : {M : Type 0} (u v w : StoreView M) → Stays u v → Stays v w → Stays u w
stays_then u v w a b = changes_then u v w v.now.state u.now.state a b a.state

-- A change that was made

pub changes_by : (names names' : Names) (e e' : List TreeState) (p p' : TreeState) (k k' : Bool) (q : TreeState) (s : State)
    → IsAdvanced names names' e e' p p' k k' q → HasTerms names p q → state_of (trees_of names q) q ≡ s → Changes (store_view names e p k) (store_view names' e' p' k') s
changes_by names names' e e' p p' k k' q s a h i =
    let P : Names → Type 0 = λ w. Changes (store_view names e p k) (store_view w e' p' k') s in
    let Q : List TreeState → Type 0 = λ w. Changes (store_view names e p k) (store_view names w p' k') s in
    let R : TreeState → Type 0 = λ w. Changes (store_view names e p k) (store_view names (with_kept e p k) w k') s in
    let S : Bool → Type 0 = λ w. Changes (store_view names e p k) (store_view names (with_kept e p k) q w) s in
    subst P (sym a.same_names) (subst Q (sym a.moved) (subst R (sym a.is_next) (subst S (sym a.unkept)
    (record { keeps = keeps_change names e p q k h; state = i }))))

-- a change that was refused
pub stays_by : (names names' : Names) (e e' : List TreeState) (p p' : TreeState) (k k' : Bool) → IsSame names names' e e' p p' k k' → Stays (store_view names e p k) (store_view names' e' p' k')
stays_by names names' e e' p p' k k' a =
    let P : Names → Type 0 = λ w. Stays (store_view names e p k) (store_view w e' p' k') in
    let Q : List TreeState → Type 0 = λ w. Stays (store_view names e p k) (store_view names w p' k') in
    let R : TreeState → Type 0 = λ w. Stays (store_view names e p k) (store_view names e w k') in
    let S : Bool → Type 0 = λ w. Stays (store_view names e p k) (store_view names e p w) in
    subst P (sym a.same_names) (subst Q (sym a.same_earlier) (subst R (sym a.same_present) (subst S (sym a.same_kept) (stays_same (store_view names e p k)))))

-- More names

moment_names : (names more : Names) (s : TreeState) → IsSoundState names s → moment (names ++ more) s ≡ moment names s
moment_names names more s h = ap (λ trees. moment_over trees s) (trees_names names more s h)

pub stays_names : (names more now : Names) (e : List TreeState) (p : TreeState) (k : Bool) → now ≡ names ++ more → IsSound names e p → Stays (store_view names e p k) (store_view now e p k)
stays_names names more now e p k f h =
    let P : Names → Type 0 = λ w. Stays (store_view names e p k) (store_view w e p k) in
    subst P (sym f) (record {
      keeps = record {
        good = λ m g. g;
        same = λ m g. moment_names names more (slice_index_or e m p) (sound_at names e p m h);
        beside = λ m. refl;
        terms = λ r t i. ap (λ trees. slice_get trees r.number) (trees_names names more p h.present_is) ∙ i;
        names = λ j name i. get_append_left names more j name i;
      };
      state = ap (λ trees. state_of trees p) (trees_names names more p h.present_is);
    })

-- One more term

known_more : (trees more : List Tree) (m : ℕ) (k : Known) → IsKnownBelow m k → m ≤ length trees → known_of (trees ++ more) k ≡ known_of trees k
known_more trees more m Known.Free h l = refl
known_more trees more m (Known.Within d) h l = refl
known_more trees more m (Known.Bound r) h l = let b : r.number < m = h in ap (λ t. bound t) (tree_in_more trees more r (omega arith))

watch_more : (trees more : List Tree) (w : Watch) → (watched_ref w).number < length trees → watch_of (trees ++ more) w ≡ watch_of trees w
watch_more trees more (Watch.Ins r) h = ap (λ t. on_ins t) (tree_in_more trees more r h)
watch_more trees more (Watch.Bound r) h = ap (λ t. on_bound t) (tree_in_more trees more r h)
watch_more trees more (Watch.Dom r slot) h = ap (λ t. on_dom t slot) (tree_in_more trees more r h)
watch_more trees more (Watch.DomAny r slot) h = ap (λ t. on_dom_any t slot) (tree_in_more trees more r h)
watch_more trees more (Watch.Posted r slot) h = ap (λ t. on_posted t slot) (tree_in_more trees more r h)

watches_more : (trees more : List Tree) (m : ℕ) (ws : List Watch) → AllWatchedBelow m ws → m ≤ length trees → map (watch_of (trees ++ more)) ws ≡ map (watch_of trees) ws
unfolding AllWatchedBelow
watches_more trees more m [] h l = refl
watches_more trees more m (w ∷ ws) h l =
    let here : (watched_ref w).number < m = h.0 in
    let a : watch_of (trees ++ more) w ≡ watch_of trees w = watch_more trees more w (omega arith) in
    let b : map (watch_of (trees ++ more)) ws ≡ map (watch_of trees) ws = watches_more trees more m ws h.1 l in
    cc

pub state_more : (names : Names) (s : TreeState) (more : List Tree) → IsSoundState names s → state_of (trees_of names s ++ more) s ≡ state_of (trees_of names s) s
state_more names s more h =
    let trees : List Tree = trees_of names s in
    let l : length (trees_of names s) ≡ length s.terms = length_trees names s in
    let vs : map (variable_of (trees ++ more)) s.variables ≡ map (variable_of trees) s.variables =
    map_same (variable_of (trees ++ more)) (variable_of trees) s.variables (λ n v e. known_more trees more (length s.terms) v.known (h.variables n v e).known (omega arith)) in
    let agent : (n : ℕ) (a : StoredAgent) → slice_get s.agents n ≡ Some a → agent_of (trees ++ more) a ≡ agent_of trees a = λ n a e.
    let call : a.call.number < length s.terms = (h.agents n a e).call in
    ap (λ t. record { call = t; rule = a.rule; watches = map (watch_of (trees ++ more)) a.watches; alive = a.is_alive }) (tree_in_more trees more a.call (omega arith))
    ∙ ap (λ ws. record { call = tree_in trees a.call; rule = a.rule; watches = ws; alive = a.is_alive }) (watches_more trees more (length s.terms) a.watches (h.agents n a e).watches (omega arith)) in
    let same_agents : map (agent_of (trees ++ more)) s.agents ≡ map (agent_of trees) s.agents = map_same (agent_of (trees ++ more)) (agent_of trees) s.agents agent in
    ap (λ ws. record { variables = ws; constraints = s.constraints; agents = map (agent_of (trees ++ more)) s.agents; waiting = s.waiting }) vs
    ∙ ap (λ bs. record { variables = map (variable_of trees) s.variables; constraints = s.constraints; agents = bs; waiting = s.waiting }) same_agents

pub terms_more : (names : Names) (p : TreeState) (c : StoredTerm) → HasTerms names p (changed p (Change.Term c))
terms_more names p c = λ r t e. ap (λ trees. slice_get trees r) (trees_more names p.terms c) ∙ get_append_left (trees_of names p) (term_tree names (trees_of names p) c ∷ []) r t e

term_is : (names : Names) (p : TreeState) (c : StoredTerm) → slice_get (grown names [] (p.terms ++ c ∷ [])) (length p.terms) ≡ Some (term_tree names (trees_of names p) c)
term_is names p c = ap (λ trees. slice_get trees (length p.terms)) (trees_more names p.terms c)
    ∙ (ap (λ j. slice_get (trees_of names p ++ term_tree names (trees_of names p) c ∷ []) j) (sym (length_trees names p)) ∙ get_append_last (trees_of names p) (term_tree names (trees_of names p) c))

-- the Ref that was given is that of the new term
pub given : (names names' : Names) (p p' q : TreeState) (made : Ref) (c : StoredTerm) → names' ≡ names → p' ≡ q → q.terms ≡ p.terms ++ c ∷ [] → made.number ≡ length p.terms → slice_get (trees_of names' p') made.number ≡ Some (term_tree names (trees_of names p) c)
given names names' p p' q made c a b t m =
    ap (λ w. slice_get (trees_of w p') made.number) a ∙ (ap (λ w. slice_get (trees_of names w) made.number) b
    ∙ (ap (λ cs. slice_get (grown names [] cs) made.number) t ∙ (ap (λ j. slice_get (grown names [] (p.terms ++ c ∷ [])) j) m ∙ term_is names p c)))

pub gives_term : (names names' : Names) (e e' : List TreeState) (p p' : TreeState) (k k' : Bool) (c : StoredTerm) (made : Ref)
    → IsAdvanced names names' e e' p p' k k' (changed p (Change.Term c)) → IsSoundState names p → made ≡ record { number = length p.terms }
    → Gives (store_view names e p k) (store_view names' e' p' k') (state_of (trees_of names p) p) made (term_tree names (trees_of names p) c)
gives_term names names' e e' p p' k k' c made a h m = record {
  changes = changes_by names names' e e' p p' k k' (changed p (Change.Term c)) (state_of (trees_of names p) p) a (terms_more names p c)
      (ap (λ trees. state_of trees p) (trees_more names p.terms c) ∙ state_more names p (term_tree names (trees_of names p) c ∷ []) h);
  term = given names names' p p' (changed p (Change.Term c)) made c a.same_names a.is_next refl (ap (λ r. r.number) m);
}
