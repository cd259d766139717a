-- Resumed runs that are cut just before a Tick, as a trace is: the Ticks and the loads on the way count, and then what stands behind the answer of the path, which itself isn't
-- given. (Own.)
use Rattle.std.specs.Prelude.{◌≡◌, ◌≢◌, ℕ, zero, suc, List, [], ◌∷◌}
use Rattle.pi_traces.specs.Trace.{End, Deep, Tick, Load, Emitted, noted}
use Rattle.pi_traces.specs.Depth.{Stop, Ended, Spent, Cut, cut}
use Rattle.pi_resume_spec.specs.Ways.{Way}
use Rattle.pi_resume_spec.specs.Resumed.{Passing, a_tick, a_load, Following, on_way, reached, cut_off, bad}

-- where it stops: where a run does, at an end or before a Tick; or where its way ends without the answer of the path
pub data ResumedStop : Type 0 where
  stops : Stop → ResumedStop
  bad_path : ResumedStop

-- the events before that; those on the way are Ticks and loads, since what is written there is dropped
pub record ResumedCut (A : Type 0) : Type 0 where
  pub events : List (Emitted A)
  pub stop : ResumedStop

-- what counts on the way, as an event
abbrev pub passing_event : {A : Type 0} → Passing → Emitted A
passing_event a_tick = noted Tick
passing_event (a_load k) = noted (Load k)

abbrev pub with_passing : {A : Type 0} → Passing → ResumedCut A → ResumedCut A
with_passing p c = record { events = passing_event p ∷ c.events; stop = c.stop }

-- no event, and a stop
abbrev pub stopped_at : {A : Type 0} → ResumedStop → ResumedCut A
stopped_at stop = record { events = []; stop = stop }

-- a cut behind the way
abbrev pub behind_way : {A : Type 0} → Cut A → ResumedCut A
behind_way c = record { events = c.events; stop = stops c.stop }

-- cut just before Tick number n + 1
unfoldable pub resumed_cut : {A : Type 0} → ℕ → Following A → ResumedCut (Way A)
resumed_cut n (reached made x left later) = behind_way (cut n later)
resumed_cut n (cut_off e) = stopped_at (stops (Ended e))
resumed_cut n bad = stopped_at bad_path
resumed_cut zero (on_way a_tick f) = stopped_at (stops Spent)
resumed_cut (suc n) (on_way a_tick f) = with_passing a_tick (resumed_cut n f)
resumed_cut n (on_way (a_load k) f) = with_passing (a_load k) (resumed_cut n f)

-- the depth reaches to the cut
abbrev pub ResumedWithoutDeep : {A : Type 0} → ℕ → Following A → Type 0
ResumedWithoutDeep n f = (resumed_cut n f).stop ≢ stops (Ended Deep)

-- what counts on the way, in order, and how many of it are Ticks
unfoldable pub passings : {A : Type 0} → Following A → List Passing
passings (on_way p f) = p ∷ passings f
passings (reached made x left later) = []
passings (cut_off e) = []
passings bad = []

unfoldable pub ticks_among : List Passing → ℕ
ticks_among [] = 0
ticks_among (a_tick ∷ ps) = suc (ticks_among ps)
ticks_among (a_load k ∷ ps) = ticks_among ps

-- a cut behind all this
unfoldable pub with_passings : {A : Type 0} → List Passing → ResumedCut A → ResumedCut A
with_passings [] c = c
with_passings (p ∷ ps) c = with_passing p (with_passings ps c)

-- the way ends without the answer of the path
unfoldable pub IsBad : {A : Type 0} → Following A → Type 0
IsBad (on_way p f) = IsBad f
IsBad (reached made x left later) = ⊥
IsBad (cut_off e) = ⊥
IsBad bad = Unit {0}

-- the way ends so where a call is missing, or the depth doesn't reach further
unfoldable pub IsCutOff : {A : Type 0} → Following A → End → Type 0
IsCutOff (on_way p f) e = IsCutOff f e
IsCutOff (reached made x left later) e = ⊥
IsCutOff (cut_off end) e = end ≡ e
IsCutOff bad e = ⊥
