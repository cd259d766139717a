use Rattle.pi_prop_filters.proofs.ApartLemmas.{element_apart}
use Rattle.pi_prop_filters.proofs.apart.is_element_apart.Goals as goal

pub returns : goal.returns
returns c = λ t.
    element_apart c.args.index c.args.items.now c.args.value (c.are_apart.ensures t) (c.is_new-2.ensures c.if-not-is_new-2.false) (c.is_new-3.ensures c.if-not-is_new-3.false) (c.is_new.ensures c.if-not-is_new.false)
