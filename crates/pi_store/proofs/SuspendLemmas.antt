-- What a call that becomes an agent changes, and one that ends an agent.
use Rattle.std.proofs.Common.{◌≡◌, ℕ, ◌-◌, ◌<◌, Bool, true, false, List, [], ◌∷◌, ◌++◌, length, map, slice_index, refl, ap, sym, subst, ◌∙◌, arith}
use Rattle.std.proofs.lemmas.List.{map-append, length-map}
use Rattle.pi_terms.specs.Tree.{Tree}
use Rattle.pi_constraints.specs.State.{WatchTree, Agent, end_agent}
use Rattle.pi_constraints.specs.State as state
use Rattle.pi_constraints.specs.Store.{AreWatches, IsTerm, Changes, Suspends}
use Rattle.pi_constraints.specs.declared.store.Ref.{Ref}
use Rattle.pi_constraints.specs.declared.event.Watch.{Watch}
use Rattle.pi_region.specs.Image.{Image}
use Rattle.pi_region.specs.Back.{Advances}
use Rattle.pi_store_blocks.specs.Form.{form_of}
use Rattle.pi_store_blocks.specs.Heap.{Heap, Grows}
use Rattle.pi_store_blocks.specs.Placed.{IsRefIn}
use Rattle.pi_store_blocks.proofs.HeapLemmas.{trees_stay}
use Rattle.pi_store_blocks.proofs.RefLemmas.{form_stays}
use Rattle.pi_store_blocks.specs.Agent.{call_at, rule_at, watches_at, agent_words}
use Rattle.pi_store_blocks.specs.AgentTable.{word_of, is_alive, AreEventsIn, IsAgentIn, AddsAgent, with_ended_if, with_ended}
use Rattle.pi_store_blocks.proofs.RightLemmas.{agent_right}
use Rattle.pi_store_blocks.proofs.AgentTables.{events_stay, added_at, added_is, end_of_word}
use Rattle.pi_store_blocks.specs.NameTable.{NameTable}
use Rattle.pi_store.specs.Heads.{taken_in}
use Rattle.pi_store.specs.Holding.{tree_of, heap_of, event_in, agent_in, state_of, view_of}
use Rattle.pi_store.specs.Sound.{IsSound}
use Rattle.pi_store.proofs.LookLemmas.{tree_is}
use Rattle.pi_store.proofs.NameLemmas.{keeps_itself}
use Rattle.pi_store.proofs.SoundLemmas.{has_agents, ref_has_term, term_is_ref, sound_words, sound_agent, sound_agent_for}
use Rattle.pi_store.proofs.AgentLemmas.{agent_with, alive_word, agent_is, is_agent, is_ended, agents_ended, dead_stays, events_are, events_given}
use Rattle.pi_store.proofs.KeepLemmas.{heap_grows, keeps_all, same_states, same_parts, parts_stay}

-- One that is made

-- the call and the events are Refs
pub record AreGiven (t : NameTable) (i : Image) (call : Ref) (watches : List Watch) : Type 0 where
  pub called : IsRefIn (heap_of t i) (form_of call.number)
  pub events : AreEventsIn (heap_of t i) watches

word_some : (end : ℕ) → 0 < word_of end
word_some end = omega arith

pub sound_added : (t : NameTable) (i j : Image) (call : Ref) (rule : ℕ) (watches : List Watch) → IsSound t i → AreGiven t i call watches → AddsAgent i j call rule watches → IsSound t j
sound_added t i j call rule watches s given a =
    let h : Heap = heap_of t i in
    let k : Heap = heap_of t j in
    let grows : Grows h k = heap_grows t t i j (keeps_itself t (length i.region)) a.advances in
    let ends = added_is i j call rule watches a k refl (form_stays h k grows (form_of call.number) given.called) (events_stay h k grows watches given.events) in
    let is = is_agent k (word_of a.end) a.end (word_some a.end) (end_of_word a.end) ends in
    let mid : IsSound t a.mid = subst (IsSound t) (sym a.written.words) (sound_words t i (agent_words call rule watches) (agent_right h call rule watches given.called given.events) s) in
    subst (IsSound t) (sym a.added) (sound_agent t a.mid (word_of a.end) (subst (λ (l : Image). IsAgentIn (heap_of t l) (word_of a.end)) a.added is) mid)

-- the agent that was asked for, by its word
added_agent : (t : NameTable) (i j : Image) (call : Ref) (rule : ℕ) (watches : List Watch) (a : AddsAgent i j call rule watches) (x : Tree) (ws : List WatchTree) → IsTerm (view_of t i) call x → AreWatches (view_of t i) watches ws
    → agent_in (heap_of t j) (word_of a.end) ≡ record { call = x; rule = rule; watches = ws; alive = true }
added_agent t i j call rule watches a x ws is are =
    let h : Heap = heap_of t i in
    let k : Heap = heap_of t j in
    let end : ℕ = a.end in
    let grows : Grows h k = heap_grows t t i j (keeps_itself t (length i.region)) a.advances in
    let at = added_at i j call rule watches a in
    let called : tree_of k (call_at k.words end).number ≡ x = ap (λ (r : Ref). tree_of k r.number) at.call ∙ tree_is k call.number x (trees_stay h k grows call.number x is) in
    let events : map (event_in k) (watches_at k.words end) ≡ ws = ap (map (event_in k)) at.watches ∙ events_given t i k grows watches ws are in
    agent_is k (word_of end) end true (word_some end) (end_of_word end) (alive_word end)
    ∙ (ap (λ y. agent_with y (rule_at k.words end) (map (event_in k) (watches_at k.words end)) true) called
    ∙ (ap (λ r. agent_with x r (map (event_in k) (watches_at k.words end)) true) at.rule
    ∙ ap (λ es. agent_with x rule es true) events))

pub suspends_to : (t : NameTable) (i j : Image) (call : Ref) (rule : ℕ) (watches : List Watch) (made : ℕ) → IsSound t i → AddsAgent i j call rule watches → made ≡ length i.agents → Suspends (view_of t i) (view_of t j) call rule watches made
suspends_to t i j call rule watches made s a many =
    let h : Heap = heap_of t i in
    let k : Heap = heap_of t j in
    let keeps = keeps_itself t (length i.region) in
    let p = parts_stay t t i j s (heap_grows t t i j keeps a.advances) in
    let word : ℕ = word_of a.end in
    let q = same_parts h k i j p in
    let vars : j.variables ≡ i.variables = ap (λ (l : Image). l.variables) a.added ∙ ap (λ (l : Image). l.variables) a.written.words in
    let others : j.constraints ≡ i.constraints = ap (λ (l : Image). l.constraints) a.added ∙ ap (λ (l : Image). l.constraints) a.written.words in
    let more : j.agents ≡ i.agents ++ word ∷ [] = ap (λ (l : Image). l.agents) a.added ∙ ap (λ (l : Image). l.agents ++ word ∷ []) a.written.words in
    let before : map (agent_in k) j.agents ≡ map (agent_in h) i.agents ++ agent_in k word ∷ [] =
    ap (map (agent_in k)) more ∙ (map-append (agent_in k) i.agents (word ∷ []) ∙ ap (λ made. made ++ agent_in k word ∷ []) p.agents) in
    record {
      number = many ∙ sym (length-map i.agents (agent_in h));
      agent = λ x ws is are. record {
        keeps = keeps_all t t i j keeps a.advances;
        state = same_states _ _ (q.variables vars) (q.constraints others) (before ∙ ap (λ b. map (agent_in h) i.agents ++ b ∷ []) (added_agent t i j call rule watches a x ws is are))
            (q.waiting (ap (λ (l : Image). l.waiting) a.added ∙ ap (λ (l : Image). l.waiting) a.written.words) (ap taken_in a.added ∙ ap taken_in a.written.words));
      };
    }

-- none is made where the call or an event is no term
pub suspends_none : (t : NameTable) (i : Image) (call : Ref) (rule : ℕ) (watches : List Watch) (made : ℕ) → IsSound t i → (AreGiven t i call watches → ⊥) → made ≡ length i.agents → Suspends (view_of t i) (view_of t i) call rule watches made
suspends_none t i call rule watches made s none many = record {
  number = many ∙ sym (length-map i.agents (agent_in (heap_of t i)));
  agent = λ x ws is are. absurd (none (record { called = term_is_ref t i s call.number x is; events = events_are t i (term_is_ref t i s) watches ws are }));
}

-- One that ends

sound_if : (t : NameTable) (i j : Image) (n : ℕ) (test : Bool) → IsSound t i → is_alive (slice_index i.agents n) ≡ test → Advances i j → j ≡ with_ended_if test i n (slice_index i.agents n) → IsSound t j
sound_if t i j n false s alive a is = subst (IsSound t) (sym is) s
sound_if t i j n true s alive a is =
    let w : ℕ = slice_index i.agents n in
    let grows : Grows (heap_of t i) (heap_of t j) = heap_grows t t i j (keeps_itself t (length i.region)) a in
    let ends = is_ended (heap_of t i) (heap_of t j) grows (ref_has_term t i s) w alive (has_agents t i s n) in
    subst (IsSound t) (sym is) (sound_agent_for t i n (w - 1) (subst (λ (l : Image). IsAgentIn (heap_of t l) (w - 1)) is ends) s)

pub sound_ended : (t : NameTable) (i j : Image) (n : ℕ) → IsSound t i → Advances i j → j ≡ with_ended i n → IsSound t j
sound_ended t i j n s a is = sound_if t i j n (is_alive (slice_index i.agents n)) s refl a is

-- what waits is left
waiting_if : (i j : Image) (n w : ℕ) (test : Bool) → j ≡ with_ended_if test i n w → (j.waiting ≡ i.waiting) × (taken_in j ≡ taken_in i)
waiting_if i j n w false is = (ap (λ (l : Image). l.waiting) is, ap taken_in is)
waiting_if i j n w true is = (ap (λ (l : Image). l.waiting) is, ap taken_in is)

agents_if : (t : NameTable) (i j : Image) (n : ℕ) (test : Bool) → IsSound t i → is_alive (slice_index i.agents n) ≡ test → Advances i j → j ≡ with_ended_if test i n (slice_index i.agents n)
    → (j.variables ≡ i.variables) × (j.constraints ≡ i.constraints) × (map (agent_in (heap_of t j)) j.agents ≡ end_agent (map (agent_in (heap_of t i)) i.agents) n)
agents_if t i j n false s alive a is =
    (ap (λ (l : Image). l.variables) is, ap (λ (l : Image). l.constraints) is, ap (λ (l : Image). map (agent_in (heap_of t l)) l.agents) is ∙ sym (dead_stays (heap_of t i) i.agents n alive))
agents_if t i j n true s alive a is =
    let grows : Grows (heap_of t i) (heap_of t j) = heap_grows t t i j (keeps_itself t (length i.region)) a in (
      ap (λ (l : Image). l.variables) is,
      ap (λ (l : Image). l.constraints) is,
      ap (λ (l : Image). map (agent_in (heap_of t j)) l.agents) is ∙ agents_ended (heap_of t i) (heap_of t j) grows (ref_has_term t i s) i.agents n (has_agents t i s) alive,
    )

pub ends_to : (t : NameTable) (i j : Image) (n : ℕ) → IsSound t i → Advances i j → j ≡ with_ended i n → Changes (view_of t i) (view_of t j) (state.with_ended (state_of (heap_of t i) i) n)
ends_to t i j n s a is =
    let keeps = keeps_itself t (length i.region) in
    let p = same_parts (heap_of t i) (heap_of t j) i j (parts_stay t t i j s (heap_grows t t i j keeps a)) in
    let q = agents_if t i j n (is_alive (slice_index i.agents n)) s refl a is in
    let left = waiting_if i j n (slice_index i.agents n) (is_alive (slice_index i.agents n)) is in
    record { keeps = keeps_all t t i j keeps a; state = same_states _ _ (p.variables q.0) (p.constraints q.1) q.2 (p.waiting left.0 left.1) }
