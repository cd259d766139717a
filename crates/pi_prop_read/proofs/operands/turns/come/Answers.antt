-- What waits last takes the sum.
use Rattle.std.specs.Prelude.{◌≡◌, length}
use Rattle.std.proofs.Common.{arith, sym, subst}
use Rattle.pi_prop_read.specs.declared.operands.frames.Frame.{Frame}
use Rattle.pi_prop_read.specs.OperandFrames.{ShowsNext}
use Rattle.pi_prop_read.proofs.OperandTurns.{come-left, come-right, come-under, come-done}
use Rattle.pi_prop_read.proofs.LoopLemmas.{turn-shown, next-shown, waited, popped, none-left}
use Rattle.pi_prop_read.proofs.operands.turns.come.Goals as goal

pub returns-in-None : goal.returns-in-None
returns-in-None c = λ w whole t.
    let none : length c.args.frames.now.items ≡ 0 = omega (arith, c.in-None.ensures.cases) in
    come-done w c.args.making.now c.args.sum c.args.frames.now.items whole (none-left c.args.frames.now.items none) t

pub returns-in-Some-Left : goal.returns-in-Some-Left
returns-in-Some-Left c = λ w whole t.
    let a = c.args.making.now in
    let fs = c.pop.new.self.items in
    let gs = c.wait.new.frames.items in
    let f : Frame = Frame.Left c.in-Some-Left.sign c.in-Some-Left.right in
    let own = popped w a c.args.sum c.args.frames.now.items fs c.in-Some-Left.field-0 f whole c.in-Some-Left.ensures.items c.in-Some-Left.field-0-is t in
    subst (λ x. ShowsNext w a x gs whole) (sym c.next_turn.ensures)
    (turn-shown w a c.wait.result gs whole (waited w a c.wait.result fs gs (Frame.Right c.in-Some-Left.sign c.args.sum) c.in-Some-Left.right whole c.wait.ensures (λ e. come-left w a c.in-Some-Left.sign c.in-Some-Left.right c.args.sum fs gs whole e own)))

pub returns-in-Some-Right : goal.returns-in-Some-Right
returns-in-Some-Right c = λ w whole t.
    let a = c.args.making.now in
    let b = c.combine.new.making in
    let fs = c.pop.new.self.items in
    let f : Frame = Frame.Right c.in-Some-Right.sign c.in-Some-Right.left in
    let own = popped w a c.args.sum c.args.frames.now.items fs c.in-Some-Right.field-0 f whole c.in-Some-Right.ensures.items c.in-Some-Right.field-0-is t in
    subst (λ x. ShowsNext w b x fs whole) (sym c.next_of.ensures)
    (next-shown w b c.combine.result fs whole (come-right w a b c.in-Some-Right.sign c.in-Some-Right.left c.args.sum c.combine.result fs whole c.combine.ensures own))

pub returns-in-Some-Under : goal.returns-in-Some-Under
returns-in-Some-Under c = λ w whole t.
    let a = c.args.making.now in
    let b = c.changed.new.making in
    let fs = c.pop.new.self.items in
    let f : Frame = Frame.Under c.in-Some-Under.change in
    let own = popped w a c.args.sum c.args.frames.now.items fs c.in-Some-Under.field-0 f whole c.in-Some-Under.ensures.items c.in-Some-Under.field-0-is t in
    subst (λ x. ShowsNext w b x fs whole) (sym c.next_of-in-Some-Under.ensures)
    (next-shown w b c.changed.result fs whole (come-under w a b c.in-Some-Under.change c.args.sum c.changed.result fs whole c.changed.ensures own))
