-- How a query ends: when, with which line and with which status.
use Rattle.std.specs.Prelude.{◌≡◌, ◌<◌, ℕ, suc, List, [], ◌∷◌, ◌++◌, true, ◌≢◌}
use lib.Chars.{codes}
use Rattle.pi_terms.specs.Tree.{Tree}
use Rattle.pi_traces.specs.Trace.{Done, Raise, Load, Emitted, noted, answered}
use Rattle.pi_traces.specs.Depth.{Cut, Stop, Ended, Spent}
use Rattle.pi_meaning.specs.OverNames.Telling.{Told}
use Rattle.pi_syntax.specs.PrintTerm.{text_of}
use Rattle.pi_top.specs.Prefix.{IsPrefix}

-- As many answers were written as are asked for; the trace ended, with an answer or without one; it ended in an exception that
-- nothing caught; the Ticks are spent; the work is.
pub data QueryEnd : Type 0 where
  Stopped : QueryEnd
  NoMore : QueryEnd
  No : QueryEnd
  Exception : Tree → QueryEnd
  StepsSpent : QueryEnd
  WorkSpent : QueryEnd

abbrev pub line_of : QueryEnd → List ℕ
line_of Stopped = codes "stopped\n"
line_of NoMore = codes "no more\n"
line_of No = codes "no\n"
line_of (Exception ball) = codes "exception: " ++ (text_of true ball ++ codes "\n")
line_of StepsSpent = codes "steps spent\n"
line_of WorkSpent = codes "work spent\n"

abbrev pub status_of : QueryEnd → ℕ
status_of Stopped = 0
status_of NoMore = 0
status_of No = 1
status_of (Exception ball) = 4
status_of StepsSpent = 5
status_of WorkSpent = 6

-- how many answers a part of a run has
unfoldable pub count_answers : {A : Type 0} → List (Emitted A) → ℕ
count_answers [] = 0
count_answers (noted n ∷ events) = count_answers events
count_answers (answered x ∷ events) = suc (count_answers events)

-- a part ends with the last answer that is asked for
pub record EndsWithLast {A : Type 0} (asked : ℕ) (part : List (Emitted A)) : Type 0 where
  pub front : List (Emitted A)
  pub last : A
  pub is : part ≡ front ++ answered last ∷ []
  pub all : count_answers part ≡ asked

-- a part is the whole of a run, with fewer answers than are asked for, and there the run stops so
pub record IsWhole {A : Type 0} (asked : ℕ) (part : List (Emitted A)) (run : Cut A) (stop : Stop) : Type 0 where
  pub fewer : count_answers part < asked
  pub whole : run.events ≡ part
  pub stops : run.stop ≡ stop

-- a part has fewer answers than are asked for, and the run goes on behind it with a propagation
pub record IsBeforeLoad {A : Type 0} (asked : ℕ) (part : List (Emitted A)) (run : Cut A) : Type 0 where
  pub fewer : count_answers part < asked
  pub load : ℕ
  pub next : IsPrefix (part ++ noted (Load load) ∷ []) run.events

-- when a query ends so, where a part of its run was written
abbrev pub Ends : {A : Type 0} → ℕ → List (Emitted A) → Cut A → QueryEnd → Type 0
Ends asked part run Stopped = EndsWithLast asked part
Ends asked part run NoMore = IsWhole asked part run (Ended Done) × (0 < count_answers part)
Ends asked part run No = IsWhole asked part run (Ended Done) × (count_answers part ≡ 0)
Ends asked part run (Exception ball) = IsWhole asked part run (Ended (Raise ball))
Ends asked part run StepsSpent = IsWhole asked part run Spent
Ends asked part run WorkSpent = IsBeforeLoad asked part run

-- no two of them fit
abbrev pub EndingIsOne : Type 0
EndingIsOne = (asked : ℕ) (part : List (Emitted Told)) (run : Cut Told) (e f : QueryEnd) → Ends asked part run e → Ends asked part run f → e ≡ f

-- a goal was run: its end has none of the statuses of what comes before a run
pub record IsRun (status : ℕ) : Type 0 where
  pub below : status < 7
  pub no_usage : status ≢ 2
  pub no_fault : status ≢ 3
