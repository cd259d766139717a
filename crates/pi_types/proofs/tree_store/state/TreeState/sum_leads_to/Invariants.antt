use Rattle.std.proofs.Common.{◌≡◌, drop}
use Rattle.pi_types.specs.TreeStoreWalks.{sum_leads}
use Rattle.pi_types.proofs.tree_store.state.TreeState.sum_leads_to.Given as goal

abbrev pub invariant-loop-term : goal.invariant-loop-term
invariant-loop-term l = sum_leads l.self (drop l.term-index l.terms) l.v ≡ sum_leads l.self l.terms l.v
