use Rattle.std.proofs.Common.{◌≡◌, ◌+◌, ◌<◌}
use Rattle.pi_core.specs.GoalTree.{GoalTree, nodes}
use Rattle.pi_core.proofs.GoalPlaces.{place_of}
use Rattle.pi_engine_code.specs.Laid.{Sized}
use Rattle.pi_engine_code.proofs.build.sizes.size_at.Given as goal

-- so many child goals are passed
abbrev pub invariant-loop-k : goal.invariant-loop-k
invariant-loop-k l = (g : GoalTree) → l.i < nodes g → Sized g l.sizes (l.i + 1) → l.at ≡ place_of g l.i l._k
