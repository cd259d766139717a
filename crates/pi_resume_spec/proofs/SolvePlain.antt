-- `solve` without its paths is that of the meaning; and which goals of later stages it is.
use Rattle.std.specs.Prelude.{◌≡◌, ℕ, Bool, true, false, not, is_some, List, Option, Some, None, option_map, unwrap_or, refl}
use Rattle.std.proofs.Common.{sym, ◌∙◌, ap}
use Rattle.pi_terms.specs.Tree.{Trees, tree_count}
use Rattle.pi_constraints.specs.State.{State}
use Rattle.pi_constraints.specs.declared.constraint.Item.{Item}
use Rattle.pi_effects.specs.Effect.{Effect}
use Rattle.pi_effects.specs.Rows.{has_line}
use Rattle.pi_effects.proofs.RowLemmas.{lines-fit}
use Rattle.pi_traces.specs.Trace.{end, Raise}
use Rattle.pi_settling.specs.Options.{Options, Objective}
use Rattle.pi_settling.specs.Asked.{Asked, labels, raises}
use Rattle.pi_settling.specs.SolveCalls.{solve_calls, solve_asked, is_solve}
use Rattle.pi_settling.specs.Confined.{confined}
use Rattle.pi_settling.specs.Goals.{constraint_goals, constraint_effect, is_constraint_goal}
use Rattle.pi_settling.specs.Label as plain_label
use Rattle.pi_meaning.specs.Shared.View.{View}
use Rattle.pi_meaning.specs.Shared.Builtin.{settled_effect}
use Rattle.pi_meaning.specs.Shared.Calls.{unknown_name}
use Rattle.pi_meaning.specs.Shared.Level.{Level}
use Rattle.pi_meaning.specs.Shared.Settle.{settled}
use Rattle.pi_meaning.specs.Shared.Solve as over_levels
use Rattle.pi_meaning.specs.CoreMeaning.Instances as whole_language
use Rattle.pi_meaning.specs.CoreMeaning.Instances.{built_later}
use Rattle.pi_meaning.proofs.Shared.TableLemmas.{body-holds, each-line, lines-hold}
use Rattle.pi_resume_spec.specs.Resumed.{simple}
use Rattle.pi_resume_spec.specs.Searches.{SearchLevel, bottom, above, searches_at, plain_level, without_paths}
use Rattle.pi_resume_spec.specs.Solve.{labelled_in, solved_for, solve_search, solve_or_unknown}
use Rattle.pi_resume_spec.proofs.PlainGoals.{plain-simple, calls-plain}
use Rattle.pi_resume_spec.proofs.StageLemmas.{labelled-same}

-- ---- without paths

level-plain : (o : Options) (items : List Item) (l : SearchLevel) (s : State) → without_paths (labelled_in o items l s) ≡ over_levels.labelled_in o items (plain_level l) s
unfolding labelled_in over_levels.labelled_in plain_level
level-plain o items (bottom c) s = labelled-same settled None o items s
level-plain o items (above c l) s =
    labelled-same settled (Some (record { drains = (searches_at l).drained; labels = labelled_in o items l })) o items s
    ∙ (λ i. plain_label.labelled settled (Some (record { drains = (sym (calls-plain l) i).drained; labels = λ r. level-plain o items l r i })) o items s)

for-plain : (objective : Option Objective) (o : Options) (items : List Item) (l : SearchLevel) (s : State) → without_paths (solved_for objective o items l s) ≡ over_levels.solved_for objective o items (plain_level l) s
for-plain None o items l s = level-plain o items l (confined s items)
for-plain (Some b) o items l s = plain-simple (over_levels.sought_in o items b (plain_level l) s)

asked-plain : (l : SearchLevel) (s : State) (a : Asked) → without_paths (solve_search l s a) ≡ over_levels.solve_trace (plain_level l) s a
asked-plain l s (labels o items) = for-plain o.objective o items l s
asked-plain l s (raises ball) = plain-simple (end (Raise ball))

solve-plain : (l : SearchLevel) (name : List ℕ) (ts : Trees) (s : State) → without_paths (solve_or_unknown l name ts s) ≡ whole_language.solve_or_unknown (plain_level l) name ts s
solve-plain l name ts s = go (solve_asked name ts s)
  where
    go : (o : Option Asked) →
        without_paths (unwrap_or (option_map (solve_search l s) o) (simple (unknown_name name (tree_count ts)))) ≡ unwrap_or (option_map (over_levels.solve_trace (plain_level l) s) o) (unknown_name name (tree_count ts))
    go None = plain-simple (unknown_name name (tree_count ts))
    go (Some a) = asked-plain l s a

-- ---- by names

none-there : {A : Type 0} (o : Option A) (b : Bool) → is_some o ≡ b → b ≡ false → o ≡ None
none-there None b is none = refl
none-there (Some x) b is none = absurd cc

no-goal : (b : Bool) → not b ≡ true → b ≡ false
no-goal true is = absurd cc
no-goal false is = refl

-- it is none of the goals of constraints
solve-apart : (name : List ℕ) (k : ℕ) → is_solve name k ≡ true → is_constraint_goal name k ≡ false
unfolding solve_calls constraint_goals each-line body-holds has_line
solve-apart name k is = no-goal (is_constraint_goal name k) (lines-hold (λ n j. not (is_constraint_goal n j)) solve_calls refl name k is)

solve-alone : (v : View) (l : Level) (name : List ℕ) (ts : Trees) (s : State) → is_solve name (tree_count ts) ≡ true → built_later.predicate v l name ts s ≡ whole_language.solve_or_unknown l name ts s
solve-alone v l name ts s is =
    ap (λ (o : Option Effect). unwrap_or (option_map (settled_effect v s) o) (whole_language.solve_or_unknown l name ts s))
    (none-there (constraint_effect name ts s) (is_constraint_goal name (tree_count ts)) (lines-fit constraint_goals name ts s) (solve-apart name (tree_count ts) is))

pub built-plain : (v : View) (l : SearchLevel) (name : List ℕ) (ts : Trees) (s : State) → is_solve name (tree_count ts) ≡ true → without_paths (solve_or_unknown l name ts s) ≡ built_later.predicate v (plain_level l) name ts s
built-plain v l name ts s is = solve-plain l name ts s ∙ sym (solve-alone v (plain_level l) name ts s is)

-- any other name asks for no labelling
pub others-alone : (v : View) (l : Level) (name : List ℕ) (ts : Trees) (s : State) → is_solve name (tree_count ts) ≡ false →
    built_later.predicate v l name ts s ≡ unwrap_or (option_map (settled_effect v s) (constraint_effect name ts s)) (unknown_name name (tree_count ts))
others-alone v l name ts s is =
    ap (λ (o : Option Asked). unwrap_or (option_map (settled_effect v s) (constraint_effect name ts s)) (unwrap_or (option_map (over_levels.solve_trace l s) o) (unknown_name name (tree_count ts))))
    (none-there (solve_asked name ts s) (is_solve name (tree_count ts)) (lines-fit solve_calls name ts s) is)
