use Rattle.std.proofs.Common.{◌≡◌, ◌-◌, length}
use Rattle.pi_types.specs.TreeStoreWalks.{steps_in, followed_in}
use Rattle.pi_types.proofs.tree_store.state.TreeState.followed.Given as goal

abbrev pub invariant-loop : goal.invariant-loop
invariant-loop l = steps_in (length l.self.variables - l.counter) l.self l.at ≡ followed_in l.self l.fn.r
