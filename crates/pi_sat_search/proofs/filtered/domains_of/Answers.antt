use Rattle.std.proofs.lemmas.List.{get_or_default}
use Rattle.pi_sat_spec.proofs.StepLemmas.{item-at}
use Rattle.pi_sat_search.proofs.filtered.domains_of.Goals as goal

pub item_domain-requires : goal.item_domain-requires
item_domain-requires c = item-at c.args.items.now c.loop-i.i _ c.loop-i-test.true c.requires (get_or_default c.args.items.now c.loop-i.i _ _ c.loop-i-test.true)
