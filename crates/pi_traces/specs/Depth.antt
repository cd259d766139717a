-- More depth only adds, and traces that are cut before a Tick.
use Rattle.std.specs.Prelude.{◌≢◌, ℕ, zero, suc, List, [], ◌∷◌, ◌++◌}
use Rattle.pi_traces.specs.Trace.{Trace, end, note, ans, End, Deep, Note, Tick, Load, Out, Emitted, noted, answered}

-- the second trace is the first one, save that where the first ends in Deep the second may go on
pub data Below {A : Type 0} : Trace A → Trace A → Type 0 where
  deeper : (u : Trace A) → Below (end Deep) u
  same_end : (e : End) → Below (end e) (end e)
  same_note : (n : Note) {t u : Trace A} → Below t u → Below (note n t) (note n u)
  same_answer : (x : A) {t u : Trace A} → Below t u → Below (ans x t) (ans x u)

-- the same of what follows
abbrev pub BelowAfter : {A X : Type 0} → (X → Trace A) → (X → Trace A) → Type 0
BelowAfter {X = X} f g = (x : X) → Below (f x) (g x)

-- each depth adds to the one before
abbrev pub DepthOnlyAdds : {A : Type 0} → (ℕ → Trace A) → Type 0
DepthOnlyAdds trace = (depth : ℕ) → Below (trace depth) (trace (suc depth))

-- where a cut stops: at the trace's own end, or before a Tick
pub data Stop : Type 0 where
  Ended : End → Stop
  Spent : Stop

-- the events before a cut, and what stands there
pub record Cut (A : Type 0) : Type 0 where
  pub events : List (Emitted A)
  pub stop : Stop

-- one more event in front
abbrev pub with_event : {A : Type 0} → Emitted A → Cut A → Cut A
with_event event c = record { events = event ∷ c.events; stop = c.stop }

-- more events in front
abbrev pub with_events : {A : Type 0} → List (Emitted A) → Cut A → Cut A
with_events events c = record { events = events ++ c.events; stop = c.stop }

-- a trace cut just before its Tick number n + 1
unfoldable pub cut : {A : Type 0} → ℕ → Trace A → Cut A
cut n (end e) = record { events = []; stop = Ended e }
cut zero (note Tick t) = record { events = []; stop = Spent }
cut (suc n) (note Tick t) = with_event (noted Tick) (cut n t)
cut n (note (Load k) t) = with_event (noted (Load k)) (cut n t)
cut n (note (Out text) t) = with_event (noted (Out text)) (cut n t)
cut n (ans x t) = with_event (answered x) (cut n t)

-- the depth reaches to the cut
abbrev pub CutWithoutDeep : {A : Type 0} → ℕ → Trace A → Type 0
CutWithoutDeep n t = (cut n t).stop ≢ Ended Deep
