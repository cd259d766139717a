-- Agents of a copying store, and the events that they wait for.
use Rattle.std.proofs.Common.{◌≡◌, ℕ, ◌<◌, Bool, true, List, [], ◌∷◌, ◌++◌, length, Some, None, refl, ap, sym, subst, ◌∙◌, arith, map}
use Rattle.std.specs.Prelude.{slice_get, option_map}
use Rattle.std.proofs.lemmas.List.{length-map, map-append}
use Rattle.std.proofs.lemmas.Option.{slice_get_within, slice_get-map}
use Rattle.pi_terms.specs.Tree.{Tree}
use Rattle.pi_constraints.specs.State.{Agent, WatchTree, on_ins, on_bound, on_dom, on_dom_any, on_posted}
use Rattle.pi_constraints.specs.Store.{IsWatch, AreWatches, ShowsAgent, Suspends}
use Rattle.pi_types.specs.TreeStore.{tree_in, trees_of, variable_of, watch_of, agent_of, store_view}
use Rattle.pi_types.specs.TreeStoreWalks.{AllWatchedBelow, watched_ref, changed}
use Rattle.pi_types.specs.TreeStoreSound.{IsSoundState, IsAdvanced}
use Rattle.pi_constraints.specs.declared.store.Ref.{Ref}
use Rattle.pi_constraints.specs.declared.event.Watch.{Watch}
use Rattle.pi_types.specs.declared.tree_store.state.StoredAgent.{StoredAgent}
use Rattle.pi_types.specs.declared.tree_store.state.TreeState.{TreeState}
use Rattle.pi_types.specs.declared.tree_store.state.Change.{Change}
use Rattle.pi_types.proofs.TreeStoreTrees.{Names, tree_in_is, length_trees}
use Rattle.pi_types.proofs.TreeStoreKeeps.{changes_by}
use Rattle.pi_types.proofs.TreeStoreCalls.{same_terms}
use Rattle.pi_types.proofs.TreeStoreGround.{valid_tree}

within : (names : Names) (p : TreeState) (r : Ref) (t : Tree) → slice_get (trees_of names p) r.number ≡ Some t → r.number < length p.terms
within names p r t e =
    let l : length (trees_of names p) ≡ length p.terms = length_trees names p in
    let w : r.number < length (trees_of names p) = slice_get_within (trees_of names p) r.number t e in omega arith

-- the events that a caller names

record Watched (names : Names) (p : TreeState) (w : Watch) (u : WatchTree) : Type 0 where
  below : (watched_ref w).number < length p.terms
  is : watch_of (trees_of names p) w ≡ u

watched_by : (names : Names) (e : List TreeState) (p : TreeState) (k : Bool) (w : Watch) (u : WatchTree) → IsWatch (store_view names e p k) w u → Watched names p w u
watched_by names e p k (Watch.Ins r) u h = record { below = within names p r h.0 h.1; is = ap (λ t. on_ins t) (tree_in_is (trees_of names p) r h.0 h.1) ∙ sym h.2 }
watched_by names e p k (Watch.Bound r) u h = record { below = within names p r h.0 h.1; is = ap (λ t. on_bound t) (tree_in_is (trees_of names p) r h.0 h.1) ∙ sym h.2 }
watched_by names e p k (Watch.Dom r slot) u h = record { below = within names p r h.0 h.1; is = ap (λ t. on_dom t slot) (tree_in_is (trees_of names p) r h.0 h.1) ∙ sym h.2 }
watched_by names e p k (Watch.DomAny r slot) u h = record { below = within names p r h.0 h.1; is = ap (λ t. on_dom_any t slot) (tree_in_is (trees_of names p) r h.0 h.1) ∙ sym h.2 }
watched_by names e p k (Watch.Posted r slot) u h = record { below = within names p r h.0 h.1; is = ap (λ t. on_posted t slot) (tree_in_is (trees_of names p) r h.0 h.1) ∙ sym h.2 }

pub watches_below : (names : Names) (e : List TreeState) (p : TreeState) (k : Bool) (ws : List Watch) (us : List WatchTree) → AreWatches (store_view names e p k) ws us → AllWatchedBelow (length p.terms) ws
unfolding AreWatches AllWatchedBelow
watches_below names e p k [] us h = tt
watches_below names e p k (w ∷ ws) [] h = absurd h
watches_below names e p k (w ∷ ws) (u ∷ us) h = let x : Watched names p w u = watched_by names e p k w u h.0 in (x.below, watches_below names e p k ws us h.1)

pub watches_are : (names : Names) (e : List TreeState) (p : TreeState) (k : Bool) (ws : List Watch) (us : List WatchTree) → AreWatches (store_view names e p k) ws us → map (watch_of (trees_of names p)) ws ≡ us
unfolding AreWatches
watches_are names e p k [] [] h = refl
watches_are names e p k [] (u ∷ us) h = absurd h
watches_are names e p k (w ∷ ws) [] h = absurd h
watches_are names e p k (w ∷ ws) (u ∷ us) h =
    let x : Watched names p w u = watched_by names e p k w u h.0 in
    ap (λ y. y ∷ map (watch_of (trees_of names p)) ws) x.is ∙ ap (λ ys. u ∷ ys) (watches_are names e p k ws us h.1)

-- the events that are stored

watch_shown : (names : Names) (e : List TreeState) (p : TreeState) (k : Bool) (w : Watch) → (watched_ref w).number < length p.terms → IsWatch (store_view names e p k) w (watch_of (trees_of names p) w)
watch_shown names e p k (Watch.Ins r) h = (tree_in (trees_of names p) r, valid_tree names p r h, refl)
watch_shown names e p k (Watch.Bound r) h = (tree_in (trees_of names p) r, valid_tree names p r h, refl)
watch_shown names e p k (Watch.Dom r slot) h = (tree_in (trees_of names p) r, valid_tree names p r h, refl)
watch_shown names e p k (Watch.DomAny r slot) h = (tree_in (trees_of names p) r, valid_tree names p r h, refl)
watch_shown names e p k (Watch.Posted r slot) h = (tree_in (trees_of names p) r, valid_tree names p r h, refl)

watches_shown : (names : Names) (e : List TreeState) (p : TreeState) (k : Bool) (ws : List Watch) → AllWatchedBelow (length p.terms) ws → AreWatches (store_view names e p k) ws (map (watch_of (trees_of names p)) ws)
unfolding AreWatches AllWatchedBelow
watches_shown names e p k [] h = tt
watches_shown names e p k (w ∷ ws) h = (watch_shown names e p k w h.0, watches_shown names e p k ws h.1)

agent_at : (names : Names) (p : TreeState) (n : ℕ) (a : StoredAgent) → slice_get p.agents n ≡ Some a → slice_get (map (agent_of (trees_of names p)) p.agents) n ≡ Some (agent_of (trees_of names p) a)
agent_at names p n a f = slice_get-map (agent_of (trees_of names p)) p.agents n ∙ ap (λ o. option_map (agent_of (trees_of names p)) o) f

pub watches_of : (names : Names) (e : List TreeState) (p : TreeState) (k : Bool) (h : IsSoundState names p) (n : ℕ) (b : StoredAgent) (found : List Watch) → slice_get p.agents n ≡ Some b → found ≡ b.watches
    → (a : Agent) → slice_get (map (agent_of (trees_of names p)) p.agents) n ≡ Some a → AreWatches (store_view names e p k) found a.watches
watches_of names e p k h n b found f g = λ a i.
    let same : agent_of (trees_of names p) b ≡ a = let j : slice_get (map (agent_of (trees_of names p)) p.agents) n ≡ Some (agent_of (trees_of names p) b) = agent_at names p n b f in cc in
    let P : List Watch → Type 0 = λ ws. AreWatches (store_view names e p k) ws a.watches in
    let Q : Agent → Type 0 = λ x. AreWatches (store_view names e p k) b.watches x.watches in
    subst P (sym g) (subst Q same (watches_shown names e p k b.watches (h.agents n b f).watches))

pub watches_none : (names : Names) (e : List TreeState) (p : TreeState) (k : Bool) (n : ℕ) (found : List Watch) → slice_get p.agents n ≡ None
    → (a : Agent) → slice_get (map (agent_of (trees_of names p)) p.agents) n ≡ Some a → AreWatches (store_view names e p k) found a.watches
watches_none names e p k n found f = λ a i.
    let j : slice_get (map (agent_of (trees_of names p)) p.agents) n ≡ None = slice_get-map (agent_of (trees_of names p)) p.agents n ∙ ap (λ o. option_map (agent_of (trees_of names p)) o) f in
    absurd (cc)

pub shows_agent : (names : Names) (e : List TreeState) (p : TreeState) (k : Bool) (h : IsSoundState names p) (n : ℕ) (b : StoredAgent) → slice_get p.agents n ≡ Some b → b.is_alive ≡ true
    → ShowsAgent (store_view names e p k) n (Some (record { call = b.call; rule = b.rule }))
shows_agent names e p k h n b f g = (agent_of (trees_of names p) b, agent_at names p n b f, g, valid_tree names p b.call (h.agents n b f).call, refl)

-- a call becomes an agent

pub suspends_by : (names names' : Names) (e e' : List TreeState) (p p' : TreeState) (k k' : Bool) (call : Ref) (rule : ℕ) (watches copied : List Watch) (made : ℕ)
    → IsAdvanced names names' e e' p p' k k' (changed p (Change.Suspend (record { call = call; rule = rule; watches = copied; is_alive = true }))) → copied ≡ watches → made ≡ length p.agents
    → Suspends (store_view names e p k) (store_view names' e' p' k') call rule watches made
suspends_by names names' e e' p p' k k' call rule watches copied made a f m = record {
  number = m ∙ sym (length-map p.agents (agent_of (trees_of names p)));
  agent = λ t us i j.
      let trees = trees_of names p in
      let new : agent_of (trees_of names p) (record { call = call; rule = rule; watches = copied; is_alive = true }) ≡ record { call = t; rule = rule; watches = us; alive = true } =
      ap (λ u. record { call = u; rule = rule; watches = map (watch_of (trees_of names p)) copied; alive = true }) (tree_in_is (trees_of names p) call t i)
      ∙ ap (λ vs. record { call = t; rule = rule; watches = vs; alive = true }) (ap (λ ws. map (watch_of (trees_of names p)) ws) f ∙ watches_are names e p k watches us j) in
      changes_by names names' e e' p p' k k' _ _ a (same_terms names p)
      (ap (λ bs. record { variables = map (variable_of (trees_of names p)) p.variables; constraints = p.constraints; agents = bs; waiting = p.waiting })
      (map-append (agent_of (trees_of names p)) p.agents _ ∙ ap (λ b. map (agent_of (trees_of names p)) p.agents ++ b ∷ []) new));
}

-- the call or one of the events was not given by this store
pub suspends_none : (names : Names) (e : List TreeState) (p : TreeState) (k : Bool) (call : Ref) (rule : ℕ) (watches : List Watch) (made : ℕ)
    → (call.number < length p.terms → AllWatchedBelow (length p.terms) watches → ⊥) → made ≡ length p.agents
    → Suspends (store_view names e p k) (store_view names e p k) call rule watches made
suspends_none names e p k call rule watches made h m = record {
  number = m ∙ sym (length-map p.agents (agent_of (trees_of names p)));
  agent = λ t us i j. absurd (h (within names p call t i) (watches_below names e p k watches us j));
}
