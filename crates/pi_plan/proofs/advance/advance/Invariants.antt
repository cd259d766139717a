use Rattle.std.proofs.Common.{◌≡◌, ◌-◌, List}
use Rattle.pi_plan.specs.declared.given.GivenState.{GivenState}
use Rattle.pi_plan.specs.Plan.{Wanted}
use Rattle.pi_plan.specs.Planner.{IsReady}
use Rattle.pi_plan.proofs.advance.advance.Given as goal

abbrev pub invariant-loop-way : goal.invariant-loop-way
invariant-loop-way l = (l.search.by_rest ≡ l.fn.search.by_rest)
    × ((w : Wanted) (given : List GivenState) → w.start ≡ l.start → w.limit ≡ l.limit → IsReady w given l.fn.search → IsReady w given l.search)

abbrev pub decreases-loop-way : goal.decreases-loop-way
decreases-loop-way l = l.limit - l.search.whole
