-- What is built of later stages does the same at two levels at which calls do: of these labelling and its rounds ask draining alone.
use Rattle.std.proofs.Common.{◌≡◌, ℕ, zero, suc, List, refl, ap}
use Rattle.std.specs.Prelude.{ℤ, Option, Some, None, option_map, unwrap_or}
use Rattle.pi_terms.specs.Tree.{Trees, tree_count}
use Rattle.pi_constraints.specs.State.{State}
use Rattle.pi_constraints.specs.declared.constraint.Item.{Item}
use Rattle.pi_traces.specs.Trace.{Trace, done, one, then}
use Rattle.pi_traces.specs.Control.{chosen}
use Rattle.pi_settling.specs.Options.{Options, Objective}
use Rattle.pi_settling.specs.Asked.{Asked, labels, raises}
use Rattle.pi_settling.specs.SolveCalls.{solve_asked}
use Rattle.pi_settling.specs.Confined.{confined}
use Rattle.pi_settling.specs.Goals.{constraint_effect}
use Rattle.pi_settling.specs.Label.{labelled}
use Rattle.pi_settling.specs.Rounds.{begins, betters, worth, weighed, count_better}
use Rattle.pi_meaning.specs.Shared.Builtin.{settled_effect}
use Rattle.pi_meaning.specs.Shared.Calls.{unknown_name}
use Rattle.pi_meaning.specs.Shared.Level.{Level, lowest, over, calls_at}
use Rattle.pi_meaning.specs.Shared.Settle.{settled}
use Rattle.pi_meaning.specs.Shared.Solve.{labelled_in, plain, searching, round_in, bettered_in, sought_in, solved_for, solve_trace}
use Rattle.pi_meaning.specs.CoreMeaning.Instances.{solve_or_unknown, built_later}
use Rattle.pi_rewrite_spec.specs.Forms.{Knows}
use Rattle.pi_rewrite_laws.specs.Levels.{SameCalls, SameLevels, GoesByCalls}
use Rattle.pi_rewrite_laws.proofs.AlikeLemmas.{calls-same}

labelled-same : (known : Knows) (o : Options) (items : List Item) (l m : Level) → SameLevels known l m → (s : State) → labelled_in o items l s ≡ labelled_in o items m s
unfolding SameLevels labelled_in
labelled-same known o items (lowest c) (lowest d) same s = refl
labelled-same known o items (lowest c) (over d m) same s = absurd same
labelled-same known o items (over c l) (lowest d) same s = absurd same
labelled-same known o items (over c l) (over d m) same s =
    let there : SameCalls known (calls_at l) (calls_at m) = calls-same known l m same.1 in
    λ i. labelled settled (Some (record { drains = λ r. there.drained r i; labels = λ r. labelled-same known o items l m same.1 r i })) o items s

-- ---- with an objective

round-same : (known : Knows) (o : Options) (items : List Item) (l m : Level) → SameLevels known l m → (t : Trace State) → round_in o items l t ≡ round_in o items m t
round-same known o items l m same t =
    let there : SameCalls known (calls_at l) (calls_at m) = calls-same known l m same in
    λ i. then (then t (λ s. there.drained s i)) (λ s. labelled-same known (plain o) items l m same (confined s items) i)

-- so many later rounds
bettered-same : (known : Knows) (o : Options) (items : List Item) (b : Objective) (l m : Level) → SameLevels known l m → (s : State) (n : ℕ) (r : State) (v : ℤ) →
    bettered_in o items b l s n r v ≡ bettered_in o items b m s n r v
unfolding bettered_in
bettered-same known o items b l m same s zero r v = refl
bettered-same known o items b l m same s (suc n) r v = λ i.
    chosen (round-same known o items l m same (betters (searching o items) b v s) i)
    (λ q. weighed b q (worth (searching o items) b q) (λ w. bettered-same known o items b l m same s n q w i)) (one r)

sought-same : (known : Knows) (o : Options) (items : List Item) (b : Objective) (l m : Level) → SameLevels known l m → (s : State) → sought_in o items b l s ≡ sought_in o items b m s
sought-same known o items b l m same s = λ i.
    chosen (round-same known o items l m same (begins (searching o items) b s) i)
    (λ q. weighed b q (worth (searching o items) b q) (λ w. bettered-same known o items b l m same s (count_better b.greatest w) q w i)) done

-- ---- `solve`

for-same : (known : Knows) (objective : Option Objective) (o : Options) (items : List Item) (l m : Level) → SameLevels known l m → (s : State) → solved_for objective o items l s ≡ solved_for objective o items m s
for-same known None o items l m same s = labelled-same known o items l m same (confined s items)
for-same known (Some b) o items l m same s = sought-same known o items b l m same s

asked-same : (known : Knows) (l m : Level) → SameLevels known l m → (s : State) (a : Asked) → solve_trace l s a ≡ solve_trace m s a
asked-same known l m same s (labels o items) = for-same known o.objective o items l m same s
asked-same known l m same s (raises ball) = refl

solve-same : (known : Knows) (l m : Level) → SameLevels known l m → (name : List ℕ) (ts : Trees) (s : State) → solve_or_unknown l name ts s ≡ solve_or_unknown m name ts s
solve-same known l m same name ts s = go (solve_asked name ts s)
  where
    go : (o : Option Asked) → unwrap_or (option_map (solve_trace l s) o) (unknown_name name (tree_count ts)) ≡ unwrap_or (option_map (solve_trace m s) o) (unknown_name name (tree_count ts))
    go None = refl
    go (Some a) = asked-same known l m same s a

pub built-goes-by-calls : (known : Knows) → GoesByCalls known built_later
built-goes-by-calls known v l m same name ts s =
    ap (λ (t : Trace State). unwrap_or (option_map (settled_effect v s) (constraint_effect name ts s)) t) (solve-same known l m same name ts s)
