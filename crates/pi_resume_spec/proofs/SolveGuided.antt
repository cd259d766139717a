-- `solve` is guided at a level that is.
use Rattle.std.specs.Prelude.{ℕ, zero, suc, ℤ, List, Option, Some, None, option_map, unwrap_or}
use Rattle.pi_terms.specs.Tree.{Trees, tree_count}
use Rattle.pi_constraints.specs.State.{State}
use Rattle.pi_constraints.specs.declared.constraint.Item.{Item}
use Rattle.pi_traces.specs.Trace.{Trace, Done, Raise, done, one}
use Rattle.pi_settling.specs.Options.{Options, Objective}
use Rattle.pi_settling.specs.Asked.{Asked, labels, raises}
use Rattle.pi_settling.specs.SolveCalls.{solve_asked}
use Rattle.pi_settling.specs.Confined.{confined}
use Rattle.pi_settling.specs.Choices.{pending, picked}
use Rattle.pi_settling.specs.Rounds.{begins, betters, worth, weighed, count_better}
use Rattle.pi_meaning.specs.Shared.Level.{Level}
use Rattle.pi_meaning.specs.Shared.Solve.{searching, round_in, bettered_in, sought_in}
use Rattle.pi_meaning.specs.Shared.Calls.{unknown_name}
use Rattle.pi_meaning.specs.Shared.Settle.{settled}
use Rattle.pi_resume_spec.specs.Resumed.{simple}
use Rattle.pi_resume_spec.specs.Searches.{SearchLevel, bottom, above, plain_level, searches_at}
use Rattle.pi_resume_spec.specs.LanguageLaws.{OneAtMost, IsGuided, IsGuidedLevel}
use Rattle.pi_resume_spec.specs.Solve.{labelled_in, solved_for, solve_search, solve_or_unknown}
use Rattle.pi_resume_spec.proofs.GuidedGoals.{guided-at, one-settled}
use Rattle.pi_resume_spec.proofs.GuidedNames.{unknown-guided, end-guided}
use Rattle.pi_resume_spec.proofs.StageLemmas.{by-guided, one-weighed}
use Rattle.pi_resume_spec.proofs.GuidedLemmas.{one-one, one-end, one-chosen, simple-guided}

labelled-guided : (o : Options) (items : List Item) (l : SearchLevel) → IsGuidedLevel l → (s : State) → IsGuided (labelled_in o items l s)
unfolding labelled_in IsGuidedLevel
labelled-guided o items (bottom c) h s = by-guided settled one-settled None tt o s (picked (pending s items) o.variable)
labelled-guided o items (above c l) h s =
    by-guided settled one-settled (Some (record { drains = (searches_at l).drained; labels = labelled_in o items l }))
    (λ r. (guided-at l h.1).drained r, λ r. labelled-guided o items l h.1 r) o s (picked (pending s items) o.variable)

-- ---- with an objective there is one answer at most

one-bettered : (o : Options) (items : List Item) (b : Objective) (l : Level) (s : State) (n : ℕ) (r : State) (v : ℤ) → OneAtMost (bettered_in o items b l s n r v)
unfolding bettered_in
one-bettered o items b l s zero r v = one-one r
one-bettered o items b l s (suc n) r v =
    one-chosen (round_in o items l (betters (searching o items) b v s)) (λ q. weighed b q (worth (searching o items) b q) (bettered_in o items b l s n q)) (one r)
    (λ q. one-weighed b q (worth (searching o items) b q) (bettered_in o items b l s n q) (one-bettered o items b l s n q)) (one-one r)

one-sought : (o : Options) (items : List Item) (b : Objective) (l : Level) (s : State) → OneAtMost (sought_in o items b l s)
one-sought o items b l s =
    let later : State → ℤ → Trace State = λ q v. bettered_in o items b l s (count_better b.greatest v) q v in
    one-chosen (round_in o items l (begins (searching o items) b s)) (λ q. weighed b q (worth (searching o items) b q) (later q)) done
    (λ q. one-weighed b q (worth (searching o items) b q) (later q) (λ v. one-bettered o items b l s (count_better b.greatest v) q v)) (one-end State Done)

-- ---- `solve`

for-guided : (objective : Option Objective) (o : Options) (items : List Item) (l : SearchLevel) → IsGuidedLevel l → (s : State) → IsGuided (solved_for objective o items l s)
for-guided None o items l h s = labelled-guided o items l h (confined s items)
for-guided (Some b) o items l h s = simple-guided (sought_in o items b (plain_level l) s) (one-sought o items b (plain_level l) s)

asked-guided : (l : SearchLevel) → IsGuidedLevel l → (s : State) (a : Asked) → IsGuided (solve_search l s a)
asked-guided l h s (labels o items) = for-guided o.objective o items l h s
asked-guided l h s (raises ball) = end-guided (Raise ball)

pub solve-guided : (l : SearchLevel) → IsGuidedLevel l → (name : List ℕ) (ts : Trees) (s : State) → IsGuided (solve_or_unknown l name ts s)
solve-guided l h name ts s = go (solve_asked name ts s)
  where
    go : (o : Option Asked) → IsGuided (unwrap_or (option_map (solve_search l s) o) (simple (unknown_name name (tree_count ts))))
    go None = unknown-guided name (tree_count ts)
    go (Some a) = asked-guided l h s a
