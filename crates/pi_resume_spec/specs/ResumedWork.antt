-- A resumed run as a query: the calls that it wants and the loads that bound its work are those of its way, and of what stands behind the answer of its path. (Own.)
use Rattle.std.specs.Prelude.{ℕ, ◌+◌, List, [], ◌∷◌, ◌++◌}
use Rattle.pi_core.specs.CoreTree.{PredTree, QueryTree}
use Rattle.pi_traces.specs.Trace.{Done}
use Rattle.pi_traces.specs.Depth.{Stop, Ended, Cut}
use Rattle.pi_meaning.specs.Shared.View.{query_view}
use Rattle.pi_meaning.specs.CoreMeaning.Run.{Solution}
use Rattle.pi_solve_spec.specs.Calls.{Query}
use Rattle.pi_resume_spec.specs.Ways.{Way}
use Rattle.pi_resume_spec.specs.Resumed.{Passing, a_tick, a_load}
use Rattle.pi_resume_spec.specs.ResumedCut.{ResumedStop, stops, bad_path, ResumedCut, resumed_cut}
use Rattle.pi_resume_spec.specs.ByName.{LaterSearches, all_names}
use Rattle.pi_resume_spec.specs.Queries.{resumed_query}

-- Where the way ends without the answer of the path nothing follows, and no call is missing.
abbrev pub stop_of : ResumedStop → Stop
stop_of (stops s) = s
stop_of bad_path = Ended Done

abbrev pub as_run : {A : Type 0} → ResumedCut A → Cut A
as_run c = record { events = c.events; stop = stop_of c.stop }

-- A query of a program that begins behind the answer of a path and may take so many Ticks, those of its way among them, where no planner call is being answered. That a path is too long
-- to be told is no matter of the query.
abbrev pub query_behind : LaterSearches → List PredTree → QueryTree → List ℕ → ℕ → Query (Way Solution)
query_behind later program q path steps = λ log d. as_run (resumed_cut steps (resumed_query (all_names (query_view log) later (program ++ q.helpers)) program q d path))

-- the sum of the loads on a way
unfoldable pub loads_among : List Passing → ℕ
loads_among [] = 0
loads_among (a_tick ∷ ps) = loads_among ps
loads_among (a_load k ∷ ps) = k + loads_among ps
