-- Agents in their table: the word of one is twice the place where its words end, and 1 more while it is alive. 0 is no agent's word.
use Rattle.std.specs.Prelude.{◌≡◌, ℕ, zero, suc, ◌+◌, ◌-◌, ◌*◌, ◌/◌, ◌%◌, ◌<◌, ◌≤◌, ◌==◌, Bool, cond, List, [], ◌∷◌, length, slice_index, ⊤}
use Rattle.pi_constraints.specs.declared.store.Ref.{Ref}
use Rattle.pi_constraints.specs.declared.event.Watch.{Watch}
use Rattle.pi_region.specs.Image.{Image, pushed, replaced}
use Rattle.pi_region.specs.Back.{Advances}
use Rattle.pi_region.specs.declared.entry.Table.{Table}
use Rattle.pi_store_blocks.specs.Form.{form_of}
use Rattle.pi_store_blocks.specs.Heap.{Heap}
use Rattle.pi_store_blocks.specs.Placed.{IsRefIn}
use Rattle.pi_store_blocks.specs.Events.{watched}
use Rattle.pi_store_blocks.specs.Agent.{WritesAgent, call_at, watches_at}

abbrev pub word_of : ℕ → ℕ
word_of end = 2 * end + 1

abbrev pub end_of : ℕ → ℕ
end_of w = w / 2

abbrev pub is_alive : ℕ → Bool
is_alive w = w % 2 == 1

-- the terms of events are Refs
abbrev pub AreEventsIn : Heap → List Watch → Type 0
AreEventsIn h [] = ⊤
AreEventsIn h (w ∷ ws) = IsRefIn h (form_of (watched w).number) × AreEventsIn h ws

-- the words of an agent end at a place, and what they say are Refs
pub record EndsAgent (h : Heap) (end : ℕ) : Type 0 where
  pub some : 0 < end
  pub within : end ≤ length h.words
  pub call : IsRefIn h (form_of (call_at h.words end).number)
  pub events : AreEventsIn h (watches_at h.words end)

-- the word of an agent, alive or not, or that of none
abbrev pub IsAgentIn : Heap → ℕ → Type 0
IsAgentIn h zero = ⊤
IsAgentIn h (suc w) = EndsAgent h (end_of (suc w))

-- one more agent: its words, and then its word in the table
pub record AddsAgent (old new : Image) (call : Ref) (rule : ℕ) (watches : List Watch) : Type 0 where
  pub mid : Image
  pub end : ℕ
  pub written : WritesAgent old mid call rule watches end
  pub added : new ≡ pushed mid Table.Agents (word_of end)
  pub advances : Advances old new

-- the agent with this number ended, where it is alive
abbrev pub with_ended_if : Bool → Image → ℕ → ℕ → Image
with_ended_if test i n w = cond test (replaced i Table.Agents n (w - 1)) i

abbrev pub with_ended : Image → ℕ → Image
with_ended i n = with_ended_if (is_alive (slice_index i.agents n)) i n (slice_index i.agents n)
