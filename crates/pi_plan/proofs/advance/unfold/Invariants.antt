use Rattle.std.proofs.Common.{◌≡◌, ◌-◌, List, Some, length, false}
use Rattle.std.specs.Prelude.{slice_get}
use Rattle.pi_plan.specs.declared.given.GivenState.{GivenState}
use Rattle.pi_plan.specs.Plan.{Wanted}
use Rattle.pi_plan.specs.Planner.{IsAnswered}
use Rattle.pi_plan.proofs.AdvanceLemmas.{Unfolding}
use Rattle.pi_plan.proofs.advance.unfold.Given as goal

abbrev pub invariant-loop-successor : goal.invariant-loop-successor
invariant-loop-successor l = (l.search.by_rest ≡ l.fn.search.by_rest)
    × ((w : Wanted) (given : List GivenState) → (h : IsAnswered w given l.fn.search l.fn.parent) → slice_get given (length given - 1) ≡ Some l.entry → l.entry.is_final ≡ false →
    Unfolding w given h.before h.entry h.way l.parent l.search l.successor-index)
