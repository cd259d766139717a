-- What `solve` does at a level, as a search: labelling with its paths, as `Shared.Solve` of the meaning has it. With an objective it is a strict place, and makes no choice, nor does what it raises. (Own.)
use Rattle.std.specs.Prelude.{ℕ, List, Option, Some, None, option_map, unwrap_or}
use Rattle.pi_terms.specs.Tree.{Trees, tree_count}
use Rattle.pi_constraints.specs.declared.constraint.Item.{Item}
use Rattle.pi_constraints.specs.State.{State}
use Rattle.pi_traces.specs.Trace.{end, Raise}
use Rattle.pi_settling.specs.Options.{Options, Objective}
use Rattle.pi_settling.specs.Asked.{Asked, labels, raises}
use Rattle.pi_settling.specs.SolveCalls.{solve_asked}
use Rattle.pi_settling.specs.Confined.{confined}
use Rattle.pi_meaning.specs.Shared.Settle.{settled}
use Rattle.pi_meaning.specs.Shared.Calls.{unknown_name}
use Rattle.pi_meaning.specs.Shared.Solve.{sought_in}
use Rattle.pi_resume_spec.specs.Resumed.{Search, simple}
use Rattle.pi_resume_spec.specs.Searches.{SearchLevel, bottom, above, plain_level, searches_at}
use Rattle.pi_resume_spec.specs.Label.{labelled}

-- these variables are labelled from a state, where each of them has a domain or is bound; an alternative takes one from the level
unfoldable pub labelled_in : Options → List Item → SearchLevel → State → Search State
labelled_in o items (bottom c) s = labelled settled None o items s
labelled_in o items (above c l) s = labelled settled (Some (record { drains = (searches_at l).drained; labels = labelled_in o items l })) o items s

-- labelling begins in the state in which its variables are confined, and a search in the call's
abbrev pub solved_for : Option Objective → Options → List Item → SearchLevel → State → Search State
solved_for None o items l s = labelled_in o items l (confined s items)
solved_for (Some b) o items l s = simple (sought_in o items b (plain_level l) s)

-- what a call does that asks for this
abbrev pub solve_search : SearchLevel → State → Asked → Search State
solve_search l s (labels o items) = solved_for o.objective o items l s
solve_search l s (raises ball) = simple (end (Raise ball))

-- what a call of `solve` does
abbrev pub solve_or_unknown : SearchLevel → List ℕ → Trees → State → Search State
solve_or_unknown l name ts s = unwrap_or (option_map (solve_search l s) (solve_asked name ts s)) (simple (unknown_name name (tree_count ts)))
