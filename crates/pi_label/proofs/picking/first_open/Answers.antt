use Rattle.std.proofs.Common.{arith, ◌<◌, ◌≤◌, length}
use Rattle.std.specs.Prelude.{None}
use Rattle.pi_settling.specs.Options.{forward}
use Rattle.pi_label.proofs.PickLemmas.{picked-at_first, wide-here, closed-here, first-taken, passed, picked-at_last}
use Rattle.pi_label.proofs.picking.first_open.Goals as goal

pub loop-i-init : goal.loop-i-init
loop-i-init c = picked-at_first forward c.args.domains.now

pub returns-then-is_open : goal.returns-then-is_open
returns-then-is_open c =
    let ds = c.args.domains.now in
    let i = c.loop-i.i in
    let x = c.index-domains-i.result in
    let low : i < length ds = omega (arith, c.loop-i-test.true) in
    first-taken ds i low (wide-here ds i x low c.index-domains-i.is (c.is_open.ensures.0 c.if-is_open.true)) c.loop-i.invariant

pub loop-i-preserved : goal.loop-i-preserved
loop-i-preserved c =
    let ds = c.args.domains.now in
    let i = c.loop-i.i in
    let x = c.index-domains-i.result in
    let low : i < length ds = omega (arith, c.loop-i-test.true) in
    passed forward ds None i low (closed-here ds i x c.is_open.result low c.index-domains-i.is c.is_open.ensures.1 c.if-is_open.false) c.loop-i.invariant

pub returns : goal.returns
returns c =
    let past : length c.args.domains.now ≤ c.loop-i.i = omega (arith, c.loop-i-test.false) in
    picked-at_last forward c.args.domains.now None c.loop-i.i past c.loop-i.invariant
