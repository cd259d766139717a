-- Agents in their table stay right when there is more, and one that is added is the one that was asked for.
use Rattle.std.proofs.Common.{◌≡◌, ℕ, zero, suc, ◌+◌, ◌<◌, ◌≤◌, List, [], ◌∷◌, length, drop, get_or, ap, sym, subst, ◌∙◌, arith, length-append}
use Rattle.std.proofs.lemmas.List.{drop_more}
use Rattle.pi_constraints.specs.declared.store.Ref.{Ref}
use Rattle.pi_constraints.specs.declared.event.Watch.{Watch}
use Rattle.pi_region.specs.Image.{Image, pushed}
use Rattle.pi_region.specs.declared.entry.Table.{Table}
use Rattle.pi_region.proofs.ChangeLemmas.{push_word}
use Rattle.pi_store_blocks.specs.Form.{form_of}
use Rattle.pi_store_blocks.specs.Heap.{Heap, Grows}
use Rattle.pi_store_blocks.specs.Placed.{IsRefIn}
use Rattle.pi_store_blocks.proofs.RefLemmas.{form_stays}
use Rattle.pi_store_blocks.specs.Events.{watched, watch_words}
use Rattle.pi_store_blocks.specs.Agent.{call_at, rule_at, watches_at, call_words, agent_words, IsAgentAt}
use Rattle.pi_store_blocks.specs.AgentTable.{word_of, end_of, AreEventsIn, EndsAgent, IsAgentIn, AddsAgent}
use Rattle.pi_store_blocks.proofs.AgentLemmas.{in_more, read_back}

-- Events, one by one

pub event_at : (h : Heap) (ws : List Watch) (k : ℕ) (d : Watch) → k < length ws → AreEventsIn h ws → IsRefIn h (form_of (watched (get_or ws k d)).number)
event_at h [] k d lt are = absurd (omega arith)
event_at h (w ∷ ws) zero d lt are = are.0
event_at h (w ∷ ws) (suc k) d lt are = event_at h ws k d (omega arith) are.1

pub events_from : (h : Heap) (ws : List Watch) (k : ℕ) (d : Watch) → k < length ws → IsRefIn h (form_of (watched (get_or ws k d)).number) → AreEventsIn h (drop (k + 1) ws) → AreEventsIn h (drop k ws)
events_from h ws k d lt is are = subst (AreEventsIn h) (sym (drop_more ws k d lt)) (is, are)

-- When there is more

pub in_grown : (h k : Heap) → Grows h k → (end : ℕ) → 0 < end → end ≤ length h.words → IsAgentAt k.words end (call_at h.words end) (rule_at h.words end) (watches_at h.words end)
in_grown h k grows end some le =
    subst (λ (ws : List ℕ). IsAgentAt ws end (call_at h.words end) (rule_at h.words end) (watches_at h.words end)) (sym grows.words.1) (in_more h.words grows.words.0 end some le)

pub events_stay : (h k : Heap) → Grows h k → (ws : List Watch) → AreEventsIn h ws → AreEventsIn k ws
events_stay h k grows [] are = tt
events_stay h k grows (w ∷ ws) are = (form_stays h k grows (form_of (watched w).number) are.0, events_stay h k grows ws are.1)

pub end_stays : (h k : Heap) → Grows h k → (end : ℕ) → EndsAgent h end → EndsAgent k end
end_stays h k grows end is =
    let same = in_grown h k grows end is.some is.within in
    let long : length k.words ≡ length h.words + length grows.words.0 = ap length grows.words.1 ∙ length-append h.words grows.words.0 in
    let below : end ≤ length h.words = is.within in
    record {
      some = is.some;
      within = omega arith;
      call = subst (λ (r : Ref). IsRefIn k (form_of r.number)) (sym same.call) (form_stays h k grows (form_of (call_at h.words end).number) is.call);
      events = subst (AreEventsIn k) (sym same.watches) (events_stay h k grows (watches_at h.words end) is.events);
    }

pub agent_stays : (h k : Heap) → Grows h k → (w : ℕ) → IsAgentIn h w → IsAgentIn k w
agent_stays h k grows zero is = tt
agent_stays h k grows (suc w) is = end_stays h k grows (end_of (suc w)) is

-- an agent that was added

pub added_some : (old new : Image) (call : Ref) (rule : ℕ) (watches : List Watch) (a : AddsAgent old new call rule watches) → 0 < a.end
added_some old new call rule watches a =
    let l : length a.mid.region ≡ length old.region + length (agent_words call rule watches) = ap (λ (i : Image). length i.region) a.written.words ∙ length-append old.region (agent_words call rule watches) in
    let m : length (agent_words call rule watches) ≡ length (watch_words watches) + 4 = length-append (watch_words watches) (call_words call rule (length watches)) in
    let e : a.end ≡ length a.mid.region = a.written.end in
    omega arith

pub added_at : (old new : Image) (call : Ref) (rule : ℕ) (watches : List Watch) (a : AddsAgent old new call rule watches) → IsAgentAt new.region a.end call rule watches
added_at old new call rule watches a =
    let end : ℕ = a.end in
    let mid : Image = a.mid in
    let e : a.end ≡ length a.mid.region = a.written.end in
    let there = read_back old mid call rule watches end a.written in
    let here = in_more mid.region (push_word mid Table.Agents ∷ []) end (added_some old new call rule watches a) (omega arith) in
    let both : IsAgentAt (pushed mid Table.Agents (word_of end)).region end call rule watches =
    record { call = here.call ∙ there.call; rule = here.rule ∙ there.rule; watches = here.watches ∙ there.watches } in
    subst (λ (i : Image). IsAgentAt i.region end call rule watches) (sym a.added) both

pub end_of_word : (end : ℕ) → end_of (word_of end) ≡ end
end_of_word end = omega arith

-- and its word is such, where the heap has the call and the events as Refs
pub added_is : (old new : Image) (call : Ref) (rule : ℕ) (watches : List Watch) (a : AddsAgent old new call rule watches) (k : Heap) → k.words ≡ new.region → IsRefIn k (form_of call.number) → AreEventsIn k watches
    → EndsAgent k a.end
added_is old new call rule watches a k same is are =
    let at = subst (λ (ws : List ℕ). IsAgentAt ws a.end call rule watches) (sym same) (added_at old new call rule watches a) in
    let l : length new.region ≡ length a.mid.region + 1 = ap (λ (i : Image). length i.region) a.added ∙ length-append a.mid.region (push_word a.mid Table.Agents ∷ []) in
    let m : length k.words ≡ length new.region = ap length same in
    let e : a.end ≡ length a.mid.region = a.written.end in
    record {
      some = added_some old new call rule watches a;
      within = omega arith;
      call = subst (λ (r : Ref). IsRefIn k (form_of r.number)) (sym at.call) is;
      events = subst (AreEventsIn k) (sym at.watches) are;
    }
