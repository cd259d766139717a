use Rattle.std.proofs.Common.{◌≡◌, length, sym, arith}
use Rattle.pi_store.specs.Heads.{none_more}
use Rattle.pi_store.proofs.AddLemmas.{pads_advance, pads_more, pads_refused}
use Rattle.pi_store.proofs.heads.pad.Goals as goal

pub loop-init : goal.loop-init
loop-init c = (c.len-len.ensures.sound, none_more, sym c.count-counter.ensures.len)

pub loop-preserved : goal.loop-preserved
loop-preserved c =
    let more = pads_more c.args.words.now c.loop.words c.push.new.self c.loop.counter c.loop.invariant.1 c.loop.invariant.2 c.in_ok-push.ensures.ok in
    (c.loop.invariant.0, more.0, more.1)

pub returns-in_err-push-clause-pads : goal.returns-in_err-push-clause-pads
returns-in_err-push-clause-pads c = pads_refused c.args.words.now c.loop.words c.push.new.self c.loop.invariant.1 c.in_err-push.ensures.err

pub returns-in_err-push-clause-advances : goal.returns-in_err-push-clause-advances
returns-in_err-push-clause-advances c = pads_advance c.args.words.now c.loop.invariant.0 (pads_refused c.args.words.now c.loop.words c.push.new.self c.loop.invariant.1 c.in_err-push.ensures.err)

pub returns-clause-ok : goal.returns-clause-ok
returns-clause-ok c = let many : length c.loop.words.heads ≡ c.loop.counter = c.loop.invariant.2 in omega arith

pub returns-clause-pads : goal.returns-clause-pads
returns-clause-pads c = c.loop.invariant.1

pub returns-clause-advances : goal.returns-clause-advances
returns-clause-advances c = pads_advance c.args.words.now c.loop.invariant.0 c.loop.invariant.1
