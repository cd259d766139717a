-- A branch before those behind it.
use Rattle.std.proofs.Common.{◌≡◌, List, [], ◌∷◌, ◌++◌, reverse, sym, ◌∙◌, ap}
use Rattle.std.proofs.lemmas.List.{reverse-append}
use Rattle.pi_core.specs.GoalTree.{GoalTree, if_else}
use Rattle.pi_rewrite_spec.specs.Goals.{either_of}
use Rattle.pi_rewrite_goals.specs.Joined.{closed}
use Rattle.pi_rewrite_goals.specs.declared.branches.Branch.{Branch}
use Rattle.pi_rewrite_goals.specs.declared.branches.Branch.TheVariants.{Goal, Choice}

-- ---- a branch before those behind it, which stand with the last one first

pub before-goal : (b : Branch) (g : GoalTree) (behind new : List GoalTree) → b ≡ Goal g → new ≡ behind ++ g ∷ [] → reverse new ≡ closed (b ∷ []) (reverse behind)
before-goal b g behind new is put = ap reverse put ∙ (reverse-append behind (g ∷ []) ∙ sym (ap (λ c. closed (c ∷ []) (reverse behind)) is))

pub before-choice : (b : Branch) (test body other choice : GoalTree) (behind turned new : List GoalTree) → b ≡ Choice test body → turned ≡ reverse behind → other ≡ either_of turned → choice ≡ if_else test body other → new ≡ choice ∷ [] → reverse new ≡ closed (b ∷ []) (reverse behind)
before-choice b test body other choice behind turned new is back either made one =
    ap reverse one ∙ (ap (λ (x : GoalTree). x ∷ []) (made ∙ ap (λ (x : GoalTree). if_else test body x) (either ∙ ap either_of back)) ∙ sym (ap (λ c. closed (c ∷ []) (reverse behind)) is))
