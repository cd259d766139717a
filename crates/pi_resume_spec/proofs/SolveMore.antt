-- More depth only adds to `solve`, in both runs.
use Rattle.std.specs.Prelude.{ℕ, List, Option, Some, None, option_map, unwrap_or}
use Rattle.pi_terms.specs.Tree.{Trees, tree_count}
use Rattle.pi_constraints.specs.State.{State}
use Rattle.pi_constraints.specs.declared.constraint.Item.{Item}
use Rattle.pi_settling.specs.Options.{Options, Objective}
use Rattle.pi_settling.specs.Asked.{Asked, labels, raises}
use Rattle.pi_settling.specs.SolveCalls.{solve_asked}
use Rattle.pi_settling.specs.Confined.{confined}
use Rattle.pi_meaning.specs.Shared.Calls.{unknown_name}
use Rattle.pi_meaning.specs.Shared.Settle.{settled}
use Rattle.pi_meaning.specs.Shared.Solve.{sought_in}
use Rattle.pi_meaning.proofs.Shared.SolveBelow.{for-below}
use Rattle.pi_traces.specs.Trace.{Trace}
use Rattle.pi_traces.proofs.RelatedLemmas.{Same, by-below}
use Rattle.pi_resume_spec.specs.Resumed.{simple}
use Rattle.pi_resume_spec.specs.Searches.{SearchLevel, bottom, above, plain_level, searches_at}
use Rattle.pi_resume_spec.specs.Label.{Lower}
use Rattle.pi_resume_spec.specs.Solve.{labelled_in, solved_for, solve_search, solve_or_unknown}
use Rattle.pi_resume_spec.specs.More.{SearchBelow, SearchLevelBelow}
use Rattle.pi_resume_spec.proofs.MoreLemmas.{search-below, search-itself, simple-by}
use Rattle.pi_resume_spec.proofs.MoreGoals.{searches-below, plain-below}
use Rattle.pi_resume_spec.proofs.MoreStages.{labelled-more}

abbrev lower_of : Options → List Item → SearchLevel → Lower
lower_of o items l = record { drains = (searches_at l).drained; labels = labelled_in o items l }

level-more : (o : Options) (items : List Item) (l m : SearchLevel) → SearchLevelBelow l m → (s : State) → SearchBelow (labelled_in o items l s) (labelled_in o items m s)
unfolding labelled_in
level-more o items (bottom c) (bottom d) h s = labelled-more settled None None tt o items s
level-more o items (bottom c) (above d m) h s = labelled-more settled None (Some (lower_of o items m)) tt o items s
level-more o items (above c l) (bottom d) h s = absurd h
level-more o items (above c l) (above d m) h s =
    labelled-more settled (Some (lower_of o items l)) (Some (lower_of o items m)) (λ r. (searches-below l m h.1).drained r, λ r. level-more o items l m h.1 r) o items s

for-more : (objective : Option Objective) (o : Options) (items : List Item) (l m : SearchLevel) → SearchLevelBelow l m → (s : State) → SearchBelow (solved_for objective o items l s) (solved_for objective o items m s)
for-more None o items l m h s = level-more o items l m h (confined s items)
for-more (Some b) o items l m h s =
    let t : Trace State = sought_in o items b (plain_level l) s in
    let u : Trace State = sought_in o items b (plain_level m) s in
    search-below (simple t) (simple u) (simple-by Same t u (by-below t u (for-below (Some b) o items (plain_level l) (plain_level m) (plain-below l m h) s)))

asked-more : (l m : SearchLevel) → SearchLevelBelow l m → (s : State) (a : Asked) → SearchBelow (solve_search l s a) (solve_search m s a)
asked-more l m h s (labels o items) = for-more o.objective o items l m h s
asked-more l m h s (raises ball) = search-itself (solve_search l s (raises ball))

pub solve-more : (l m : SearchLevel) → SearchLevelBelow l m → (name : List ℕ) (ts : Trees) (s : State) → SearchBelow (solve_or_unknown l name ts s) (solve_or_unknown m name ts s)
solve-more l m h name ts s = go (solve_asked name ts s)
  where
    go : (o : Option Asked) →
        SearchBelow (unwrap_or (option_map (solve_search l s) o) (simple (unknown_name name (tree_count ts)))) (unwrap_or (option_map (solve_search m s) o) (simple (unknown_name name (tree_count ts))))
    go None = search-itself (simple (unknown_name name (tree_count ts)))
    go (Some a) = asked-more l m h s a
