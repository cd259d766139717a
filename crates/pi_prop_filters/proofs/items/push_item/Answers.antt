use Rattle.std.proofs.Common.{arith}
use Rattle.std.proofs.lemmas.Int.{ints}
use Rattle.pi_prop_filters.proofs.ItemLemmas.{adds_all, adds_none_above, adds_none_below}
use Rattle.pi_prop_filters.proofs.items.push_item.Goals as goal

pub returns-then-hi-least : goal.returns-then-hi-least
returns-then-hi-least g c =
    let is = c.least.ensures.is in
    let test = c.if-hi-least.true in
    adds_none_above c.args.lo c.args.hi _ c.args.spans.now.items c.least.ensures.spans (omega (arith, ints))

pub returns-then-greatest-lo : goal.returns-then-greatest-lo
returns-then-greatest-lo g c =
    let is = c.greatest.ensures.is in
    let test = c.if-greatest-lo.true in
    adds_none_below c.args.lo c.args.hi _ c.args.spans.now.items c.least.ensures.spans (omega (arith, ints))

pub returns : goal.returns
returns g c = adds_all c.args.lo c.args.hi _ c.args.spans.now.items _ c.least.ensures.spans c.in_ok-push_spans.ensures
