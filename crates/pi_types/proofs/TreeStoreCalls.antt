-- The calls that change a copying store, each by its change.
use Rattle.std.proofs.Common.{◌≡◌, ℕ, zero, suc, ◌≤◌, Bool, false, List, [], ◌∷◌, ◌++◌, length, Some, None, refl, ap, sym, subst, ◌∙◌, arith, map, drop}
use Rattle.std.specs.Prelude.{slice_get, slice_set}
use Rattle.std.proofs.lemmas.List.{length-map, map-append}
use Rattle.pi_terms.specs.Tree.{Tree, var}
use Rattle.pi_constraints.specs.State.{Agent, with_new, with_ended, ended, end_agent, next}
use Rattle.pi_constraints.specs.Store.{Changes, Stays, Gives, TakesFirst}
use Rattle.pi_types.specs.TreeStore.{term_tree, trees_of, variable_of, agent_of, state_of, store_view}
use Rattle.pi_types.specs.TreeStoreWalks.{changed}
use Rattle.pi_types.specs.TreeStoreSound.{IsSound, IsSoundState, IsSoundAgent, IsAdvanced, IsSame}
use Rattle.pi_constraints.specs.declared.store.Ref.{Ref}
use Rattle.pi_constraints.specs.declared.event.Activation.{Activation}
use Rattle.pi_types.specs.declared.tree_store.state.StoredTerm.{StoredTerm}
use Rattle.pi_types.specs.declared.tree_store.state.StoredAgent.{StoredAgent}
use Rattle.pi_types.specs.declared.tree_store.state.TreeState.{TreeState}
use Rattle.pi_types.specs.declared.tree_store.state.Change.{Change}
use Rattle.pi_terms.proofs.GetLemmas.{get_append_left}
use Rattle.pi_types.proofs.TreeStoreTrees.{Names, trees_more}
use Rattle.pi_types.proofs.TreeStoreKeeps.{HasTerms, changes_by, stays_by, stays_names, stays_then, stays_same, changes_then, state_more, given, gives_term}

new_terms : (names : Names) (p : TreeState) → HasTerms names p (changed p Change.NewVariable)
new_terms names p = let c : StoredTerm = StoredTerm.Var (length p.variables) in
    λ r t e. ap (λ trees. slice_get trees r) (trees_more names p.terms c) ∙ get_append_left (trees_of names p) (term_tree names (trees_of names p) c ∷ []) r t e

state_new : (names : Names) (p : TreeState) → IsSoundState names p → state_of (trees_of names (changed p Change.NewVariable)) (changed p Change.NewVariable) ≡ with_new (state_of (trees_of names p) p)
state_new names p h =
    let q : TreeState = changed p Change.NewVariable in
    let more : List Tree = var (length p.variables) ∷ [] in
    let trees : List Tree = trees_of names p in
    ap (λ ts. state_of ts q) (trees_more names p.terms (StoredTerm.Var (length p.variables)))
    ∙ (ap (λ vs. record { variables = vs; constraints = p.constraints; agents = map (agent_of (trees ++ more)) p.agents; waiting = p.waiting }) (map-append (variable_of (trees ++ more)) p.variables _)
    ∙ ap with_new (state_more names p more h))

pub gives_new : (names names' : Names) (e e' : List TreeState) (p p' : TreeState) (k k' : Bool) (made : Ref)
    → IsAdvanced names names' e e' p p' k k' (changed p Change.NewVariable) → IsSoundState names p → made.number ≡ length p.terms
    → Gives (store_view names e p k) (store_view names' e' p' k') (with_new (state_of (trees_of names p) p)) made (var (next (state_of (trees_of names p) p)))
gives_new names names' e e' p p' k k' made a h m = record {
  changes = changes_by names names' e e' p p' k k' (changed p Change.NewVariable) _ a (new_terms names p) (state_new names p h);
  term = given names names' p p' (changed p Change.NewVariable) made (StoredTerm.Var (length p.variables)) a.same_names a.is_next refl m
      ∙ ap (λ n. Some (var n)) (sym (length-map p.variables (variable_of (trees_of names p))));
}

-- a term that is given after names were added
pub gives_named : (names more now names' : Names) (e e' : List TreeState) (p p' : TreeState) (k k' : Bool) (c : StoredTerm) (made : Ref) (t : Tree)
    → now ≡ names ++ more → IsSound names e p → IsSoundState now p
    → IsAdvanced now names' e e' p p' k k' (changed p (Change.Term c)) → made ≡ record { number = length p.terms }
    → term_tree now (trees_of now p) c ≡ t
    → Gives (store_view names e p k) (store_view names' e' p' k') (state_of (trees_of names p) p) made t
gives_named names more now names' e e' p p' k k' c made t f h g a m i =
    let v = gives_term now names' e e' p p' k k' c made a g m in
    let s : Stays (store_view names e p k) (store_view now e p k) = stays_names names more now e p k f h in
    record {
      changes = changes_then (store_view names e p k) (store_view now e p k) (store_view names' e' p' k') (state_of (trees_of now p) p) (state_of (trees_of names p) p) s v.changes s.state;
      term = v.term ∙ ap Some i;
    }

-- names were added, and nothing else was done
pub stays_named : (names more now names' : Names) (e e' : List TreeState) (p p' : TreeState) (k k' : Bool)
    → now ≡ names ++ more → IsSound names e p → IsSame now names' e e' p p' k k'
    → Stays (store_view names e p k) (store_view names' e' p' k')
stays_named names more now names' e e' p p' k k' f h a =
    stays_then (store_view names e p k) (store_view now e p k) (store_view names' e' p' k') (stays_names names more now e p k f h) (stays_by now names' e e' p p' k k' a)

pub same_terms : (names : Names) (p : TreeState) → HasTerms names p p
same_terms names p = λ r t e. e

-- Agents

ended_at : (f : StoredAgent → Agent) (xs : List StoredAgent) (n : ℕ) (a b : StoredAgent) → slice_get xs n ≡ Some a → f b ≡ ended (f a) → map f (slice_set xs n b) ≡ end_agent (map f xs) n
unfolding end_agent
ended_at f [] n a b e h = absurd (cc)
ended_at f (x ∷ xs) zero a b e h = let same : x ≡ a = cc in ap (λ y. y ∷ map f xs) (h ∙ ap (λ y. ended (f y)) (sym same))
ended_at f (x ∷ xs) (suc n) a b e h = ap (λ ys. f x ∷ ys) (ended_at f xs n a b e h)

ended_past : (xs : List Agent) (n : ℕ) → length xs ≤ n → end_agent xs n ≡ xs
unfolding end_agent
ended_past [] n h = refl
ended_past (x ∷ xs) zero h = absurd (omega arith)
ended_past (x ∷ xs) (suc n) h = ap (λ ys. x ∷ ys) (ended_past xs n (omega arith))

pub state_ended : (names : Names) (p : TreeState) (n : ℕ) (a b : StoredAgent) → slice_get p.agents n ≡ Some a → b ≡ record { call = a.call; rule = a.rule; watches = a.watches; is_alive = false }
    → state_of (trees_of names (changed p (Change.SetAgent n b))) (changed p (Change.SetAgent n b)) ≡ with_ended (state_of (trees_of names p) p) n
state_ended names p n a b e h = let trees : List Tree = trees_of names p in
    ap (λ bs. record { variables = map (variable_of trees) p.variables; constraints = p.constraints; agents = bs; waiting = p.waiting })
    (ended_at (agent_of trees) p.agents n a b e (ap (agent_of trees) h))

get_none : {X : Type 0} (xs : List X) (n : ℕ) → slice_get xs n ≡ None → length xs ≤ n
get_none [] n e = omega arith
get_none (x ∷ xs) zero e = absurd (cc)
get_none (x ∷ xs) (suc n) e = let h : length xs ≤ n = get_none xs n e in omega arith

pub ends_none : (names : Names) (e : List TreeState) (p : TreeState) (k : Bool) (n : ℕ) → slice_get p.agents n ≡ None → Changes (store_view names e p k) (store_view names e p k) (with_ended (state_of (trees_of names p) p) n)
ends_none names e p k n h =
    let l : length p.agents ≤ n = get_none p.agents n h in
    let s = stays_same (store_view names e p k) in
    let m : length (map (agent_of (trees_of names p)) p.agents) ≡ length p.agents = length-map p.agents (agent_of (trees_of names p)) in
    record {
      keeps = s.keeps;
      state = ap (λ bs. record { variables = map (variable_of (trees_of names p)) p.variables; constraints = p.constraints; agents = bs; waiting = p.waiting })
          (sym (ended_past (map (agent_of (trees_of names p)) p.agents) n (omega arith)));
    }

-- Activations that wait

first_of_all : {X : Type 0} (xs : List X) (x : X) → slice_get xs 0 ≡ Some x → xs ≡ x ∷ drop 1 xs
first_of_all [] x e = absurd (cc)
first_of_all (y ∷ xs) x e = let same : y ≡ x = cc in ap (λ z. z ∷ xs) same

none_first : {X : Type 0} (xs : List X) → slice_get xs 0 ≡ None → xs ≡ []
none_first [] e = refl
none_first (x ∷ xs) e = absurd (cc)

pub takes_none : (names : Names) (e : List TreeState) (p : TreeState) (k : Bool) → slice_get p.waiting 0 ≡ None → TakesFirst (store_view names e p k) (store_view names e p k) None
takes_none names e p k h = (none_first p.waiting h, stays_same (store_view names e p k))

pub takes_first : (names names' : Names) (e e' : List TreeState) (p p' : TreeState) (k k' : Bool) (a b : Activation) → slice_get p.waiting 0 ≡ Some a → b ≡ a
    → IsAdvanced names names' e e' p p' k k' (changed p Change.DropWaiting) → TakesFirst (store_view names e p k) (store_view names' e' p' k') (Some b)
takes_first names names' e e' p p' k k' a b h i g =
    (drop 1 p.waiting, first_of_all p.waiting a h ∙ ap (λ x. x ∷ drop 1 p.waiting) (sym i), changes_by names names' e e' p p' k k' (changed p Change.DropWaiting) _ g (same_terms names p) refl)

pub agent_ended : (m : ℕ) (a b : StoredAgent) → IsSoundAgent m a → b ≡ a → IsSoundAgent m (record { call = b.call; rule = b.rule; watches = b.watches; is_alive = false })
agent_ended m a b h e = let P : StoredAgent → Type 0 = λ x. IsSoundAgent m (record { call = x.call; rule = x.rule; watches = x.watches; is_alive = false }) in
    subst P (sym e) (record { call = h.call; watches = h.watches })
