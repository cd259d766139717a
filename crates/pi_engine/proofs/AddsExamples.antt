-- Runs of propagators that a call may count, and some that it may not, by small budgets.
use Rattle.std.proofs.Common.{◌≡◌, ◌≤◌, ◌+◌, ℕ, [], refl, arith}
use Rattle.pi_traces.specs.Trace.{count_ticks}
use Rattle.pi_meaning.specs.declared.happening.Budget.{Budget}
use Rattle.pi_meaning.specs.declared.happening.Happening.{Happening}
use Rattle.std.specs.Prelude.{pos}
use Rattle.pi_meaning.specs.declared.happening.Mode.{Mode}
use Rattle.pi_engine.specs.Happens.{AreTicksAndLoads, sum_of_loads, Adds}

-- so many runs were counted
with_runs : ℕ → Budget
with_runs runs = record { ticks = 0; steps = 0; work = record { goals = 0; runs = runs; expansions = 0 }; limit = 10 }

-- work was spent in a propagation, which has no load then
cut-off-counts : Adds (Mode.Inner (pos 0)) (with_runs 0) (with_runs 3) Happening.WorkSpent []
unfolding with_runs AreTicksAndLoads count_ticks
cut-off-counts = record { kinds = tt; ticks = refl; finished = 0; cut_off = 3; runs = refl; loads = omega arith; others = tt }

-- at an end of the meaning each propagation is finished, and its runs are no more than its load
runs-without-load : Adds (Mode.Inner (pos 0)) (with_runs 0) (with_runs 3) Happening.Done [] → ⊥
unfolding with_runs sum_of_loads
runs-without-load it =
    let none : it.finished ≤ 0 = it.loads in
    let runs : 3 ≡ 0 + it.finished + it.cut_off = it.runs in
    omega (arith, none, runs, it.others)

-- a count never falls
fewer-runs : Adds (Mode.Inner (pos 0)) (with_runs 3) (with_runs 0) Happening.Memory [] → ⊥
unfolding with_runs
fewer-runs it =
    let runs : 0 ≡ 3 + it.finished + it.cut_off = it.runs in
    omega (arith, runs)
