use Rattle.std.proofs.Common.{◌≡◌, ℕ, ◌<◌, Option}
use Rattle.pi_terms.specs.Tree.{Tree}
use Rattle.pi_core.specs.GoalTree.{GoalTree, child_count}
use Rattle.pi_engine_code.specs.Code.{tables_of, StandsAt, child_place}
use Rattle.pi_engine_code.proofs.code.Code.child.Given as goal

-- so many child goals are passed
abbrev pub invariant-loop-k : goal.invariant-loop-k
invariant-loop-k l =
    (terms : ℕ → Option Tree) (g : GoalTree) → StandsAt (tables_of terms l.self) l.self.steps.items l.place g → l.number < child_count g → l.at ≡ child_place g l.place l._k
