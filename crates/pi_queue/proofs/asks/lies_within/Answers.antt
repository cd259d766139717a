use Rattle.std.proofs.Common.{arith, rules, pos}
use Rattle.std.proofs.lemmas.Int.{ints}
use Rattle.pi_prop_places.proofs.NarrowedCuts.{from_to}
use Rattle.pi_prop_places.proofs.SharedLemmas.{none_are, all_are}
use Rattle.pi_queue.proofs.AskedLemmas.{one-within}
use Rattle.pi_queue.proofs.asks.lies_within.Goals as goal

pub loop-i-init : goal.loop-i-init
loop-i-init g c = none_are c.args.held.now c.args.others.now

pub loop-i-preserved : goal.loop-i-preserved
loop-i-preserved g c =
    let inside = c.lies_in.ensures.0 c.if-not-lies_in.false in
    one-within c.args.held.now c.args.others.now c.loop-i.i c.loop-i.j (from_to (pos 0) (pos 0)) c.span-span.result (omega (arith, c.loop-i-test.true, c.len.ensures.count)) (omega arith) (c.span-span.ensures (omega (arith, c.loop-i-test.true, c.len.ensures.count))) (search (rules, ints)) (search (rules, ints)) c.loop-i.invariant

pub returns : goal.returns
returns g c = λ t. all_are c.args.held.now c.args.others.now c.loop-i.i (omega (arith, c.loop-i-test.false, c.len.ensures.count)) c.loop-i.invariant
