-- The paths of draining: what an activation runs keeps its choices, that of a body and those of a call that is made anew. That an agent's own rule is still the first that
-- applies is no choice. (Own.)
use Rattle.std.specs.Prelude.{ℕ, zero, suc, List, [], ◌∷◌, Option, Some, None}
use Rattle.pi_terms.specs.Tree.{Tree}
use Rattle.pi_constraints.specs.State.{State, Agent, with_waiting, with_ended}
use Rattle.pi_constraints.specs.declared.event.Activation.{Activation}
use Rattle.pi_traces.specs.Trace.{Trace}
use Rattle.pi_settling.specs.Fire.{Rules, SlotValue, event_value}
use Rattle.pi_settling.specs.Drain.{Lower as PlainLower, living}
use Rattle.pi_resume_spec.specs.Resumed.{Search, sequence, chosen_search, ticked}
use Rattle.pi_resume_spec.specs.Searches.{only, too_deep, without_paths}

-- the rules of calls, by number, with the paths of what they run
pub record RuleRuns (X : Type 0) : Type 0 where
  pub applies : ℕ → Tree → State → Trace X
  pub body : ℕ → Tree → Option SlotValue → X → Search State
  pub anew : Tree → State → Search State

abbrev pub plain_rules : {X : Type 0} → RuleRuns X → Rules X
plain_rules r = record {
  applies = r.applies;
  body = λ i t v x. without_paths (r.body i t v x);
  anew = λ t s. without_paths (r.anew t s);
}

unfoldable pub decided : {X : Type 0} → (ℕ → Trace X) → ℕ → ℕ → (X → Search State) → Search State → Search State
decided applies i zero own other = chosen_search (applies i) own other
decided applies i (suc before) own other = chosen_search (applies i) (λ x. other) (decided applies (suc i) before own other)

-- an agent that is alive, woken by an activation
unfoldable pub fired : {X : Type 0} → RuleRuns X → State → Activation → Agent → Search State
fired rules s a agent =
    decided (λ i. rules.applies i agent.call s) 0 agent.rule (rules.body agent.rule agent.call (event_value agent a)) (rules.anew agent.call (with_ended s a.agent))

-- what the next lower depth does
pub record Lower (X : Type 0) : Type 0 where
  pub rules : RuleRuns X
  pub drains : State → Search State

abbrev pub plain_lower : {X : Type 0} → Lower X → PlainLower X
plain_lower l = record { rules = plain_rules l.rules; drains = λ s. without_paths (l.drains s) }

abbrev pub woken : {X : Type 0} → Option (Lower X) → State → Activation → Option Agent → Search State → Search State
woken below s a None later = later
woken None s a (Some agent) later = too_deep
woken (Some l) s a (Some agent) later = ticked (sequence (fired l.rules s a agent) l.drains)

unfoldable pub drained_from : {X : Type 0} → Option (Lower X) → State → List Activation → Search State
drained_from below s [] = only (with_waiting s [])
drained_from below s (a ∷ rest) = woken below (with_waiting s rest) a (living s a.agent) (drained_from below s rest)

-- what runs what waits in a state
abbrev pub drained : {X : Type 0} → Option (Lower X) → State → Search State
drained below s = drained_from below s s.waiting
