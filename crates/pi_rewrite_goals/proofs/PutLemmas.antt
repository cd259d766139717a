-- A goal that was made stands behind the others.
use Rattle.std.proofs.Common.{◌≡◌, Result, Ok, Err, IfOk, List, [], ◌∷◌, ◌++◌, ◌∙◌, ap}
use Rattle.pi_core.specs.GoalTree.{GoalTree}
use Rattle.pi_rewrite_goals.specs.Put.{IsPut}

-- it is the one that its maker promises
pub put-as-made : {E : Type 0} (r : Result GoalTree E) (g : GoalTree) (old new : List GoalTree) → IsPut r old new → IfOk r (λ made. made ≡ g) → new ≡ old ++ g ∷ []
put-as-made (Ok x) g old new put is = put ∙ ap (λ (z : GoalTree). old ++ z ∷ []) is
put-as-made (Err e) g old new put is = absurd put
