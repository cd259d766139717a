use Rattle.pi_prop_filters.proofs.CornerLemmas.{value_back}
use Rattle.pi_prop_filters.proofs.AbsoluteLemmas.{absolute_filtered, least_size_back, greatest_size_back, negative_end}
use Rattle.pi_prop_filters.proofs.absolutes.filter_absolute.Goals as goal

pub returns : goal.returns
returns g c =
    let ds = g.P.Places.domains c.args.places.now in
    let x = c.at.ensures in
    absolute_filtered ds _ _ c.at.result.lo c.at.result.hi _ _ _ _ c.at-value.result.hi c.requires c.in_ok-keep_between.ensures c.in_ok-keep_between-2.ensures x.ordered x.lo x.hi
    (least_size_back c.magnitudes-sizes.result.lo c.at.result.lo c.at.result.hi x.low x.high c.magnitudes-sizes.ensures.lo) (greatest_size_back c.magnitudes-sizes.result.hi c.at.result.lo c.at.result.hi x.low x.high c.magnitudes-sizes.ensures.hi) c.at-value.ensures.hi (negative_end c.at-value.result.hi c.at-value.ensures.high) (value_back c.at-value.result.hi c.at-value.ensures.high)
