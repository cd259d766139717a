use Rattle.std.proofs.Common.{rules, arith, pos}
use Rattle.std.proofs.lemmas.Int.{ints}
use Rattle.pi_prop_places.proofs.NarrowedCuts.{from_to}
use Rattle.pi_prop_places.proofs.SharedLemmas.{none_are, one_more, all_are}
use Rattle.pi_prop_places.proofs.shared.are_within.Goals as goal

pub loop-i-init : goal.loop-i-init
loop-i-init c = none_are c.args.spans.now c.args.others.now

pub loop-i-preserved : goal.loop-i-preserved
loop-i-preserved c =
    let inside = c.lies_in.ensures.0 c.if-not-lies_in.false in
    one_more c.args.spans.now c.args.others.now c.loop-i.i c.loop-i.j (from_to (pos 0) (pos 0)) c.loop-i-test.true (omega arith) (search (rules, ints)) (search (rules, ints)) c.loop-i.invariant

pub returns : goal.returns
returns c = λ t. all_are c.args.spans.now c.args.others.now c.loop-i.i c.loop-i-test.false c.loop-i.invariant
