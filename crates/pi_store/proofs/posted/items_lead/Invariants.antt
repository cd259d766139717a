use Rattle.std.proofs.Common.{◌≡◌, drop}
use Rattle.pi_store.specs.Posted.{items_lead}
use Rattle.pi_store.proofs.posted.items_lead.Given as goal

abbrev pub invariant-loop-item : goal.invariant-loop-item
invariant-loop-item l = items_lead l.words.variables (drop l.item-index l.items) l.v ≡ items_lead l.words.variables l.items l.v
