use Rattle.pi_prop_filters.proofs.ElementLemmas.{element_filtered}
use Rattle.pi_prop_filters.proofs.element.filter_element.Goals as goal

pub returns : goal.returns
returns g c =
    element_filtered c.args.count (g.P.Places.domains c.args.places.now) _ _ _ _ _ _ _ c.requires.places c.in_ok-numbers.ensures c.in_ok-values.ensures
    c.in_ok-numbers-2.ensures c.in_ok-values-2.ensures c.in_ok-keep_item.ensures c.in_ok-keep.ensures c.in_ok-keep-2.ensures
