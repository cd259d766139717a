use Rattle.std.proofs.Common.{◌≡◌, ◌-◌, length}
use Rattle.pi_types.specs.TreeStoreWalks.{leads_for, leads_in}
use Rattle.pi_types.proofs.tree_store.state.TreeState.variable_leads_to.Given as goal

abbrev pub invariant-loop : goal.invariant-loop
invariant-loop l = leads_for (length l.self.variables - l.counter) l.self l.at l.v ≡ leads_in l.self l.fn.n l.v
