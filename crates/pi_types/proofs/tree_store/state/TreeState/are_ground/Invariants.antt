use Rattle.std.proofs.Common.{◌≡◌, drop}
use Rattle.pi_types.specs.TreeStoreWalks.{all_ground_in}
use Rattle.pi_types.proofs.tree_store.state.TreeState.are_ground.Given as goal

abbrev pub invariant-loop-r : goal.invariant-loop-r
invariant-loop-r l = all_ground_in l.self (drop l.r-index l.terms) ≡ all_ground_in l.self l.terms
