-- An agent as words of a region: the events that it waits for, and behind them its call, the number of its rule in two halves, and how
-- many events stand below. The call and the terms of the events are Refs, as terms of a compound are; the other words say nothing.
use Rattle.std.specs.Prelude.{◌≡◌, ℕ, ◌-◌, ◌*◌, ◌^◌, ◌<◌, ◌≤◌, min, List, [], ◌∷◌, ◌++◌, length, take, drop, slice_index}
use Rattle.pi_constraints.specs.declared.store.Ref.{Ref}
use Rattle.pi_constraints.specs.declared.event.Watch.{Watch}
use Rattle.pi_region.specs.Entry.{data_of, value_of}
use Rattle.pi_region.specs.Image.{Image, appended}
use Rattle.pi_region.specs.Back.{Advances}
use Rattle.pi_store_blocks.specs.Numbers.{first_half, second_half, whole}
use Rattle.pi_store_blocks.specs.Events.{watch_words, watches_of, HaveSlots}

abbrev pub call_words : Ref → ℕ → ℕ → List ℕ
call_words call rule count = call.number ∷ data_of (first_half rule) ∷ data_of (second_half rule) ∷ data_of count ∷ []

abbrev pub agent_words : Ref → ℕ → List Watch → List ℕ
agent_words call rule watches = watch_words watches ++ call_words call rule (length watches)

-- an agent's words at the end of the region, and nothing else; they end where the region does
pub record WritesAgent (old new : Image) (call : Ref) (rule : ℕ) (watches : List Watch) (place : ℕ) : Type 0 where
  pub words : new ≡ appended old (agent_words call rule watches)
  pub end : place ≡ length new.region
  pub small : rule < 2 ^ 64
  pub slots : HaveSlots watches
  pub advances : Advances old new

-- the agent whose words end at a place
abbrev pub call_at : List ℕ → ℕ → Ref
call_at words end = record { number = slice_index words (end - 4) }

abbrev pub rule_at : List ℕ → ℕ → ℕ
rule_at words end = whole (value_of (slice_index words (end - 3))) (value_of (slice_index words (end - 2)))

abbrev pub watches_at : List ℕ → ℕ → List Watch
watches_at words end =
    let last = min (end - 4) (length words) in
    let start = last - 2 * value_of (slice_index words (end - 1)) in
    watches_of (drop start (take last words))

-- the agent whose words end there is this one
pub record IsAgentAt (words : List ℕ) (end : ℕ) (goal : Ref) (number : ℕ) (events : List Watch) : Type 0 where
  pub call : call_at words end ≡ goal
  pub rule : rule_at words end ≡ number
  pub watches : watches_at words end ≡ events

-- what was written reads back
abbrev pub AgentsReadBack : Type 0
AgentsReadBack = (old new : Image) (call : Ref) (rule : ℕ) (watches : List Watch) (end : ℕ) → WritesAgent old new call rule watches end → IsAgentAt new.region end call rule watches

-- and is the same behind whatever changes follow
abbrev pub AgentsOutlast : Type 0
AgentsOutlast = (old new : Image) (end : ℕ) → Advances old new → 0 < end → end ≤ length old.region → IsAgentAt new.region end (call_at old.region end) (rule_at old.region end) (watches_at old.region end)
