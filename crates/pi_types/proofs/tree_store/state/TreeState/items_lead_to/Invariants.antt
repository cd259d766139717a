use Rattle.std.proofs.Common.{◌≡◌, drop}
use Rattle.pi_types.specs.TreeStoreWalks.{items_lead}
use Rattle.pi_types.proofs.tree_store.state.TreeState.items_lead_to.Given as goal

abbrev pub invariant-loop-item : goal.invariant-loop-item
invariant-loop-item l = items_lead l.self (drop l.item-index l.items) l.v ≡ items_lead l.self l.items l.v
