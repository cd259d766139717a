use Rattle.std.proofs.Common.{◌≡◌, ◌<◌, ◌-◌, suc, length, get_or, arith}
use Rattle.std.proofs.lemmas.List.{get_or_default}
use Rattle.pi_constraints.specs.declared.store.Ref.{Ref}
use Rattle.pi_prop_read.proofs.LoopLemmas.{none-wait, one-waits}
use Rattle.pi_prop_read.proofs.operands.turns.push_items.Goals as goal

pub loop-i-init : goal.loop-i-init
loop-i-init c = none-wait c.args.frames.now.items c.args.items.now (length c.args.items.now) (omega arith)

pub loop-i-preserved : goal.loop-i-preserved
loop-i-preserved c =
    let rs = c.args.items.now in
    let i = c.loop-i.i - 1 in
    let up : c.loop-i.i ≡ suc i = omega (arith, c.loop-i-test.true) in
    let low : i < length rs = omega (arith, c.loop-i-test.true, c.loop-i.auto.i) in
    let none : Ref = record { number = 0 } in
    let r : Ref = get_or rs i none in
    one-waits c.args.frames.now.items c.loop-i.frames.items c.push.new.self.items rs i c.loop-i.i r up low (get_or_default rs i none r low) c.loop-i.invariant c.in_ok-push.ensures.items
