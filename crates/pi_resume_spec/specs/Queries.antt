-- A query as a search: its answers have the paths by which they can be named, and from each of them its run can be resumed. (Own.)
use Rattle.std.specs.Prelude.{ℕ, List, ◌++◌, None, replicate}
use Rattle.pi_constraints.specs.State.{empty_state}
use Rattle.pi_core.specs.CoreTree.{PredTree, QueryTree}
use Rattle.pi_core.specs.declared.core_program.NameSlot.{NameSlot}
use Rattle.pi_traces.specs.Trace.{one}
use Rattle.pi_meaning.specs.CoreMeaning.Run.{Solution, told}
use Rattle.pi_resume_spec.specs.Resumed.{Following, Search, simple, sequence, resumed}
use Rattle.pi_resume_spec.specs.Searches.{SearchLevel, Spot, strictly}
use Rattle.pi_resume_spec.specs.ByName.{Offers}
use Rattle.pi_resume_spec.specs.Goals.{search}
use Rattle.pi_resume_spec.specs.Rules.{search_level}

abbrev pub solution : Spot → Solution
solution p = record { slots = p.slots; state = p.state }

abbrev pub answered_with : List NameSlot → Spot → Search Solution
answered_with names p = simple (told names (solution p) (one (solution p)))

abbrev pub query_start : SearchLevel → QueryTree → Spot
query_start l q = record { level = l; slots = replicate q.slots None; state = empty_state }

-- the search of a query at a depth
unfoldable pub query_search : Offers → List PredTree → QueryTree → ℕ → Search Solution
query_search b program q depth =
    sequence (strictly (search b q.goal) (query_start (search_level b (program ++ q.helpers) depth) q)) (answered_with q.names)

-- its run that goes on behind the answer of a path
abbrev pub resumed_query : Offers → List PredTree → QueryTree → ℕ → List ℕ → Following Solution
resumed_query b program q depth path = resumed ((query_search b program q depth).follows path)
