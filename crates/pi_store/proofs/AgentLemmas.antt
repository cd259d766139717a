-- Agents of a state by the words of their table: when there is more, and where one is made, shown or ended.
use Rattle.std.proofs.Common.{◌≡◌, ℕ, zero, suc, ◌-◌, ◌*◌, ◌/◌, ◌%◌, ◌<◌, ◌==◌, Bool, true, false, min, List, [], ◌∷◌, length, map, take, drop, Some, None, refl, ap, sym, subst, ◌∙◌, arith}
use Rattle.std.specs.Prelude.{slice_get, slice_index, slice_set}
use Rattle.std.proofs.lemmas.Bool.Decides.{nat_tests}
use Rattle.std.proofs.lemmas.Option.{get_or_from_slice_get}
use Rattle.pi_terms.specs.Tree.{Tree}
use Rattle.pi_terms.proofs.GetLemmas.{map_same, map_set}
use Rattle.pi_constraints.specs.State.{WatchTree, on_ins, on_bound, on_dom, on_dom_any, on_posted, Agent, ended, end_agent}
use Rattle.pi_constraints.specs.Store.{AreWatches, IsWatch, ShowsAgent}
use Rattle.pi_constraints.specs.declared.store.Ref.{Ref}
use Rattle.pi_constraints.specs.declared.event.Watch.{Watch}
use Rattle.pi_region.specs.Entry.{value_of}
use Rattle.pi_region.specs.Image.{Image}
use Rattle.pi_store_blocks.specs.Form.{form_of}
use Rattle.pi_store_blocks.specs.Heap.{Heap, term_at, Grows}
use Rattle.pi_store_blocks.specs.Placed.{IsRefIn}
use Rattle.pi_store_blocks.proofs.HeapLemmas.{trees_stay}
use Rattle.pi_store_blocks.specs.Events.{watched, watches_of}
use Rattle.pi_store_blocks.specs.Agent.{call_at, rule_at, watches_at}
use Rattle.pi_store_blocks.specs.AgentTable.{word_of, end_of, is_alive, AreEventsIn, EndsAgent, IsAgentIn}
use Rattle.pi_store_blocks.proofs.AgentTables.{in_grown, end_stays}
use Rattle.pi_store_blocks.specs.NameTable.{NameTable}
use Rattle.pi_store.specs.Holding.{tree_of, heap_of, event_in, agent_at, agent_in, view_of}
use Rattle.pi_store.proofs.LookLemmas.{tree_is}
use Rattle.pi_store.proofs.TableLemmas.{get_mapped, mapped}

-- The word of an agent

one_is : (n : ℕ) → n ≡ 1 → (n == 1) ≡ true
one_is n e = grind (arith, nat_tests)

is_one : (n : ℕ) → (n == 1) ≡ true → n ≡ 1
is_one n e = grind (arith, nat_tests)

pub alive_word : (end : ℕ) → is_alive (word_of end) ≡ true
alive_word end = one_is (word_of end % 2) (omega arith)

dead_word : (w : ℕ) → w % 2 ≡ 1 → is_alive (w - 1) ≡ false
dead_word w odd = not_one ((w - 1) % 2) (omega arith)
  where
    not_one : (n : ℕ) → n ≡ 0 → (n == 1) ≡ false
    not_one n e = grind (arith, nat_tests)

-- an agent by where its words end
pub agent_is : (h : Heap) (w end : ℕ) (alive : Bool) → 0 < w → end_of w ≡ end → is_alive w ≡ alive → agent_in h w ≡ agent_at h end alive
agent_is h zero end alive some e a = absurd (omega arith)
agent_is h (suc w) end alive some e a = ap (λ n. agent_at h n (is_alive (suc w))) e ∙ ap (agent_at h end) a

pub is_agent : (h : Heap) (w end : ℕ) → 0 < w → end_of w ≡ end → EndsAgent h end → IsAgentIn h w
is_agent h zero end some e is = absurd (omega arith)
is_agent h (suc w) end some e is = subst (EndsAgent h) (sym e) is

ends : (h : Heap) (w : ℕ) → 0 < w → IsAgentIn h w → EndsAgent h (end_of w)
ends h zero some is = absurd (omega arith)
ends h (suc w) some is = is

alive_is : (h : Heap) (w : ℕ) → (agent_in h w).alive ≡ is_alive w
alive_is h zero = refl
alive_is h (suc w) = refl

-- the words of an agent that is alive, and of the same that has ended
record Alive (h : Heap) (w : ℕ) : Type 0 where
  some : 0 < w
  odd : w % 2 ≡ 1
  ends : EndsAgent h (end_of w)
  less : 0 < w - 1
  end : end_of (w - 1) ≡ end_of w

is_living : (h : Heap) (w : ℕ) → is_alive w ≡ true → IsAgentIn h w → Alive h w
is_living h w alive is =
    let odd : w % 2 ≡ 1 = is_one (w % 2) alive in
    let some : 0 < w = omega arith in
    let there = ends h w some is in
    let low : 0 < w / 2 = there.some in
    record { some = some; odd = odd; ends = there; less = omega arith; end = omega arith }

alive_within : (ws : List ℕ) (n : ℕ) → is_alive (slice_index ws n) ≡ true → n < length ws
alive_within [] n e = absurd (cc)
alive_within (w ∷ ws) zero e = omega arith
alive_within (w ∷ ws) (suc n) e = let lt : n < length ws = alive_within ws n e in omega arith

set_ended : (h : Heap) (ws : List ℕ) (n : ℕ) → n < length ws → slice_set (map (agent_in h) ws) n (ended (agent_in h (slice_index ws n))) ≡ end_agent (map (agent_in h) ws) n
unfolding end_agent
set_ended h [] n lt = absurd (omega arith)
set_ended h (w ∷ ws) zero lt = refl
set_ended h (w ∷ ws) (suc n) lt = ap (λ made. agent_in h w ∷ made) (set_ended h ws n (omega arith))

-- When there is more

-- Refs have trees
abbrev pub RefsHaveTrees : Heap → Type 0
RefsHaveTrees h = (r : ℕ) → IsRefIn h (form_of r) → (x : Tree) × (term_at h r ≡ Some x)

abbrev pub agent_with : Tree → ℕ → List WatchTree → Bool → Agent
agent_with call rule watches alive = record { call = call; rule = rule; watches = watches; alive = alive }

-- of a heap that grew
module _ (h k : Heap) (grows : Grows h k) (has : RefsHaveTrees h) where
  pub tree_stays : (r : ℕ) → IsRefIn h (form_of r) → tree_of k r ≡ tree_of h r
  tree_stays r is = let x = has r is in tree_is k r x.0 (trees_stay h k grows r x.0 x.1) ∙ sym (tree_is h r x.0 x.1)

  event_stays : (w : Watch) → IsRefIn h (form_of (watched w).number) → event_in k w ≡ event_in h w
  event_stays (Watch.Ins r) is = ap on_ins (tree_stays r.number is)
  event_stays (Watch.Bound r) is = ap on_bound (tree_stays r.number is)
  event_stays (Watch.Dom r slot) is = ap (λ x. on_dom x slot) (tree_stays r.number is)
  event_stays (Watch.DomAny r slot) is = ap (λ x. on_dom_any x slot) (tree_stays r.number is)
  event_stays (Watch.Posted r slot) is = ap (λ x. on_posted x slot) (tree_stays r.number is)

  events_stay : (ws : List Watch) → AreEventsIn h ws → map (event_in k) ws ≡ map (event_in h) ws
  events_stay [] are = refl
  events_stay (w ∷ ws) are = ap (λ e. e ∷ map (event_in k) ws) (event_stays w are.0) ∙ ap (λ es. event_in h w ∷ es) (events_stay ws are.1)

  at_stays : (end : ℕ) (alive : Bool) → EndsAgent h end → agent_at k end alive ≡ agent_at h end alive
  at_stays end alive is =
      let same = in_grown h k grows end is.some is.within in
      let call : tree_of k (call_at k.words end).number ≡ tree_of h (call_at h.words end).number = ap (λ (r : Ref). tree_of k r.number) same.call ∙ tree_stays (call_at h.words end).number is.call in
      let events : map (event_in k) (watches_at k.words end) ≡ map (event_in h) (watches_at h.words end) = ap (map (event_in k)) same.watches ∙ events_stay (watches_at h.words end) is.events in
      ap (λ x. agent_with x (rule_at k.words end) (map (event_in k) (watches_at k.words end)) alive) call
      ∙ (ap (λ r. agent_with (tree_of h (call_at h.words end).number) r (map (event_in k) (watches_at k.words end)) alive) same.rule
      ∙ ap (λ es. agent_with (tree_of h (call_at h.words end).number) (rule_at h.words end) es alive) events)

  agent_stays : (w : ℕ) → IsAgentIn h w → agent_in k w ≡ agent_in h w
  agent_stays zero is = refl
  agent_stays (suc w) is = at_stays (end_of (suc w)) (is_alive (suc w)) is

  pub agents_stay : (ws : List ℕ) → ((n : ℕ) → IsAgentIn h (slice_index ws n)) → map (agent_in k) ws ≡ map (agent_in h) ws
  agents_stay ws are = map_same (agent_in k) (agent_in h) ws (λ n w e. agent_stays w (subst (IsAgentIn h) (get_or_from_slice_get ws n w 0 e) (are n)))

  -- one that is alive, and has ended then
  ended_is : (w : ℕ) → is_alive w ≡ true → IsAgentIn h w → agent_in k (w - 1) ≡ ended (agent_in h w)
  ended_is w alive is =
      let a = is_living h w alive is in
      agent_is k (w - 1) (end_of w) false a.less a.end (dead_word w a.odd) ∙ (at_stays (end_of w) false a.ends ∙ sym (ap ended (agent_is h w (end_of w) true a.some refl alive)))

  pub is_ended : (w : ℕ) → is_alive w ≡ true → IsAgentIn h w → IsAgentIn k (w - 1)
  is_ended w alive is =
      let a = is_living h w alive is in
      is_agent k (w - 1) (end_of w) a.less a.end (end_stays h k grows (end_of w) a.ends)

  pub agents_ended : (ws : List ℕ) (n : ℕ) → ((m : ℕ) → IsAgentIn h (slice_index ws m)) → is_alive (slice_index ws n) ≡ true
      → map (agent_in k) (slice_set ws n (slice_index ws n - 1)) ≡ end_agent (map (agent_in h) ws) n
  agents_ended ws n are alive =
      let w : ℕ = slice_index ws n in
      map_set (agent_in k) ws n (w - 1)
      ∙ (ap (λ made. slice_set made n (agent_in k (w - 1))) (agents_stay ws are)
      ∙ (ap (slice_set (map (agent_in h) ws) n) (ended_is w alive (are n))
      ∙ set_ended h ws n (alive_within ws n alive)))

-- one that isn't alive stays as it is
pub dead_stays : (h : Heap) (ws : List ℕ) (n : ℕ) → is_alive (slice_index ws n) ≡ false → end_agent (map (agent_in h) ws) n ≡ map (agent_in h) ws
unfolding end_agent
dead_stays h [] n e = refl
dead_stays h (w ∷ ws) zero e = ap (λ a. a ∷ map (agent_in h) ws) (ap (λ b. agent_with (agent_in h w).call (agent_in h w).rule (agent_in h w).watches b) (sym (alive_is h w ∙ e)))
dead_stays h (w ∷ ws) (suc n) e = ap (λ made. agent_in h w ∷ made) (dead_stays h ws n e)

-- What is shown

pub shows_none : (t : NameTable) (i : Image) (n : ℕ) → is_alive (slice_index i.agents n) ≡ false → ShowsAgent (view_of t i) n None
shows_none t i n dead = λ a e. ap (λ (b : Agent). b.alive) (mapped (agent_in (heap_of t i)) i.agents n a e).1 ∙ (alive_is (heap_of t i) (slice_index i.agents n) ∙ dead)

pub shows_agent : (t : NameTable) (i : Image) → RefsHaveTrees (heap_of t i) → (n end : ℕ) (call : Ref) (rule : ℕ) → IsAgentIn (heap_of t i) (slice_index i.agents n) → is_alive (slice_index i.agents n) ≡ true
    → end ≡ end_of (slice_index i.agents n) → call ≡ call_at i.region end → rule ≡ rule_at i.region end → ShowsAgent (view_of t i) n (Some (record { call = call; rule = rule }))
shows_agent t i has n end call rule is alive at call_is rule_is =
    let h : Heap = heap_of t i in
    let w : ℕ = slice_index i.agents n in
    let a = is_living h w alive is in
    let same : agent_in h w ≡ agent_at h end true = agent_is h w end true a.some (sym at) alive in
    let there = subst (EndsAgent h) (sym at) a.ends in
    let x = has (call_at i.region end).number there.call in
    let tree : term_at h call.number ≡ Some (tree_of h (call_at i.region end).number) = ap (λ (r : Ref). term_at h r.number) call_is ∙ (x.1 ∙ ap Some (sym (tree_is h (call_at i.region end).number x.0 x.1))) in
    (agent_at h end true, get_mapped (agent_in h) i.agents n (alive_within i.agents n alive) ∙ ap Some same, refl, tree, rule_is)

-- events by their Refs
are_shown : (t : NameTable) (i : Image) → RefsHaveTrees (heap_of t i) → (ws : List Watch) → AreEventsIn (heap_of t i) ws → AreWatches (view_of t i) ws (map (event_in (heap_of t i)) ws)
unfolding AreWatches
are_shown t i has [] are = tt
are_shown t i has (w ∷ ws) are = (one w are.0, are_shown t i has ws are.1)
  where
    h : Heap
    h = heap_of t i

    tree : (r : Ref) → IsRefIn h (form_of r.number) → term_at h r.number ≡ Some (tree_of h r.number)
    tree r is = let x = has r.number is in x.1 ∙ ap Some (sym (tree_is h r.number x.0 x.1))

    one : (w : Watch) → IsRefIn h (form_of (watched w).number) → IsWatch (view_of t i) w (event_in h w)
    one (Watch.Ins r) is = (tree_of h r.number, tree r is, refl)
    one (Watch.Bound r) is = (tree_of h r.number, tree r is, refl)
    one (Watch.Dom r slot) is = (tree_of h r.number, tree r is, refl)
    one (Watch.DomAny r slot) is = (tree_of h r.number, tree r is, refl)
    one (Watch.Posted r slot) is = (tree_of h r.number, tree r is, refl)

drop_none : (n : ℕ) → drop {A = ℕ} n [] ≡ []
drop_none zero = refl
drop_none (suc n) = refl

none_at : (words : List ℕ) → watches_at words 0 ≡ []
none_at words =
    let last : min (0 - 4) (length words) ≡ 0 = omega arith in
    ap (λ l. watches_of (drop (l - 2 * value_of (slice_index words (0 - 1))) (take l words))) last ∙ ap watches_of (drop_none (0 - 2 * value_of (slice_index words (0 - 1))))

shows_by : (t : NameTable) (i : Image) → RefsHaveTrees (heap_of t i) → (w : ℕ) → IsAgentIn (heap_of t i) w → AreWatches (view_of t i) (watches_at i.region (end_of w)) (agent_in (heap_of t i) w).watches
unfolding AreWatches
shows_by t i has zero is = subst (λ ws. AreWatches (view_of t i) ws []) (sym (none_at i.region)) tt
shows_by t i has (suc w) is = are_shown t i has (watches_at i.region (end_of (suc w))) is.events

pub shows_watches : (t : NameTable) (i : Image) → RefsHaveTrees (heap_of t i) → (n : ℕ) (watches : List Watch) → IsAgentIn (heap_of t i) (slice_index i.agents n) → watches ≡ watches_at i.region (end_of (slice_index i.agents n))
    → (a : Agent) → slice_get (view_of t i).now.state.agents n ≡ Some a → AreWatches (view_of t i) watches a.watches
shows_watches t i has n watches is at a e =
    subst (λ (b : Agent). AreWatches (view_of t i) watches b.watches) (sym (mapped (agent_in (heap_of t i)) i.agents n a e).1)
    (subst (λ ws. AreWatches (view_of t i) ws (agent_in (heap_of t i) (slice_index i.agents n)).watches) (sym at) (shows_by t i has (slice_index i.agents n) is))

-- What is asked for

-- events whose Refs have terms
pub events_are : (t : NameTable) (i : Image) → ((r : ℕ) (x : Tree) → term_at (heap_of t i) r ≡ Some x → IsRefIn (heap_of t i) (form_of r)) → (ws : List Watch) (us : List WatchTree) → AreWatches (view_of t i) ws us → AreEventsIn (heap_of t i) ws
unfolding AreWatches
events_are t i refs [] us are = tt
events_are t i refs (w ∷ ws) [] are = absurd are
events_are t i refs (w ∷ ws) (u ∷ us) are = (one w are.0, events_are t i refs ws us are.1)
  where
    one : (w : Watch) → IsWatch (view_of t i) w u → IsRefIn (heap_of t i) (form_of (watched w).number)
    one (Watch.Ins r) is = refs r.number is.0 is.1
    one (Watch.Bound r) is = refs r.number is.0 is.1
    one (Watch.Dom r slot) is = refs r.number is.0 is.1
    one (Watch.DomAny r slot) is = refs r.number is.0 is.1
    one (Watch.Posted r slot) is = refs r.number is.0 is.1

-- read in a heap that grew they are the same
pub events_given : (t : NameTable) (i : Image) (k : Heap) → Grows (heap_of t i) k → (ws : List Watch) (us : List WatchTree) → AreWatches (view_of t i) ws us → map (event_in k) ws ≡ us
unfolding AreWatches
events_given t i k grows [] [] are = refl
events_given t i k grows [] (u ∷ us) are = absurd are
events_given t i k grows (w ∷ ws) [] are = absurd are
events_given t i k grows (w ∷ ws) (u ∷ us) are = ap (λ e. e ∷ map (event_in k) ws) (one w are.0) ∙ ap (λ es. u ∷ es) (events_given t i k grows ws us are.1)
  where
    tree : (r : Ref) (x : Tree) → term_at (heap_of t i) r.number ≡ Some x → tree_of k r.number ≡ x
    tree r x e = tree_is k r.number x (trees_stay (heap_of t i) k grows r.number x e)

    one : (w : Watch) → IsWatch (view_of t i) w u → event_in k w ≡ u
    one (Watch.Ins r) is = ap on_ins (tree r is.0 is.1) ∙ sym is.2
    one (Watch.Bound r) is = ap on_bound (tree r is.0 is.1) ∙ sym is.2
    one (Watch.Dom r slot) is = ap (λ x. on_dom x slot) (tree r is.0 is.1) ∙ sym is.2
    one (Watch.DomAny r slot) is = ap (λ x. on_dom_any x slot) (tree r is.0 is.1) ∙ sym is.2
    one (Watch.Posted r slot) is = ap (λ x. on_posted x slot) (tree r is.0 is.1) ∙ sym is.2
