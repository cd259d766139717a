-- Where there is no plan, no state is left to be asked for.
use Rattle.std.proofs.Common.{◌≡◌, ◌≤◌, ℕ, Bool, true, false, refl, sym, subst}
use Rattle.pi_terms.specs.Tree.{Tree}
use Rattle.pi_plan.specs.Plan.{Bodies, Exhausted, NoneAs}
use Rattle.pi_plan.specs.Given.{over}
use Rattle.pi_plan.specs.Laws.{NoPlanLeavesNothing}

exhausted_there : (b : Bodies) (best : Bool) (start : Tree) (limit whole : ℕ) → NoneAs best b start limit → whole ≤ limit → (best ≡ false → whole ≡ limit) → Exhausted b start whole
exhausted_there b true start limit whole none within all = none whole within
exhausted_there b false start limit whole none within all = subst (λ (n : ℕ). Exhausted b start n) (sym (all refl)) none

pub nothing_left : NoPlanLeavesNothing
nothing_left given by_rest w s r none asks =
    asks.open_yet ((exhausted_there (over given by_rest) w.best w.start w.limit asks.whole none asks.within asks.of_any).done s r asks.reached).is_given
