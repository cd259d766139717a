-- What an activation does (A User's Guide to Picat, 'Action Rules'): where the agent's own rule is still the first that applies to its call, the rule's
-- body runs with the event's value, and the agent stays. Else the agent ends and its call is made anew. Rules behind its own one aren't tried. How rules
-- apply is a parameter, so that this serves the meaning over names and the core meaning. (That the agent ends is own.)
use Rattle.std.specs.Prelude.{ℕ, zero, suc, Option, Some, None, slice_get}
use Rattle.pi_terms.specs.Tree.{Tree}
use Rattle.pi_traces.specs.Trace.{Trace}
use Rattle.pi_traces.specs.Control.{chosen}
use Rattle.pi_constraints.specs.State.{State, Agent, WatchTree, on_dom, on_dom_any, on_posted, with_ended}
use Rattle.pi_constraints.specs.declared.event.Activation.{Activation}

-- a slot and the value that an event gives it
pub record SlotValue : Type 0 where
  pub slot : ℕ
  pub value : Tree

-- The rules of calls, by number. X is a place in a run behind a rule's condition.
pub record Rules (X : Type 0) : Type 0 where
  -- a call matched with a rule, whose condition is taken: no answer where the rule doesn't apply, and of several answers the first counts. The condition is a strict place: what
  -- waits is run before its answer counts, the later activations with it
  pub applies : ℕ → Tree → State → Trace X
  -- the rule's body from there, where an event may have given a slot its value. The condition knew nothing of that value
  pub body : ℕ → Tree → Option SlotValue → X → Trace State
  -- a call that is made anew: its Tick, and then its rules. It is no goal of a body, so nothing that waits is run before that Tick
  pub anew : Tree → State → Trace State

-- the rules from this number on, so many before the agent's own one, and then that one: the first that applies decides
unfoldable pub decided : {X : Type 0} → (ℕ → Trace X) → ℕ → ℕ → (X → Trace State) → Trace State → Trace State
decided applies i zero own other = chosen (applies i) own other
decided applies i (suc before) own other = chosen (applies i) (λ x. other) (decided applies (suc i) before own other)

-- the value of an event, in the slot that the agent's pattern names
abbrev pub slot_value : Option WatchTree → Option Tree → Option SlotValue
slot_value (Some (on_dom t slot)) (Some v) = Some (record { slot = slot; value = v })
slot_value (Some (on_dom_any t slot)) (Some v) = Some (record { slot = slot; value = v })
slot_value (Some (on_posted t slot)) (Some v) = Some (record { slot = slot; value = v })
slot_value w v = None

abbrev pub event_value : Agent → Activation → Option SlotValue
event_value agent a = slot_value (slice_get agent.watches a.watch) a.value

-- an agent that is alive, woken by an activation
unfoldable pub fired : {X : Type 0} → Rules X → State → Activation → Agent → Trace State
fired rules s a agent =
    decided (λ i. rules.applies i agent.call s) 0 agent.rule (rules.body agent.rule agent.call (event_value agent a)) (rules.anew agent.call (with_ended s a.agent))
