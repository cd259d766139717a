-- What waits last takes the truth.
use Rattle.std.specs.Prelude.{◌≡◌, length}
use Rattle.std.proofs.Common.{arith, sym, subst}
use Rattle.pi_prop_read.specs.declared.truths.frames.TruthFrame.{TruthFrame}
use Rattle.pi_prop_read.specs.TruthFrames.{ShowsNext}
use Rattle.pi_prop_read.proofs.TruthTurns.{come-left, come-right, come-negation, come-done, turn-shown, waited, popped, none-left}
use Rattle.pi_prop_read.proofs.truths.turns.come.Goals as goal

pub returns-in-None : goal.returns-in-None
returns-in-None c = λ w whole t.
    let none : length c.args.frames.now.items ≡ 0 = omega (arith, c.in-None.ensures.cases) in
    come-done w c.args.making.now c.args.truth c.args.frames.now.items whole (none-left c.args.frames.now.items none) t

pub returns-in-Some-Left : goal.returns-in-Some-Left
returns-in-Some-Left c = λ w whole t.
    let a = c.args.making.now in
    let fs = c.pop.new.self.items in
    let gs = c.wait.new.frames.items in
    let k = c.in-Some-Left.connective in
    let r = c.in-Some-Left.right in
    let own = popped w a c.args.truth c.args.frames.now.items fs c.in-Some-Left.field-0 (TruthFrame.Left k r) whole c.in-Some-Left.ensures.items c.in-Some-Left.field-0-is t in
    subst (λ x. ShowsNext w a x gs whole) (sym c.next_turn.ensures) (turn-shown w a c.wait.result gs whole (waited w a c.wait.result fs gs (TruthFrame.Right k c.args.truth) r whole c.wait.ensures (λ e. come-left w a k r c.args.truth fs gs whole e own)))

pub returns-in-Ok : goal.returns-in-Ok
returns-in-Ok c = λ w whole t.
    let a = c.args.making.now in
    let fs = c.pop.new.self.items in
    let k = c.in-Some-Right.connective in
    let x = c.in-Some-Right.left in
    let own = popped w a c.args.truth c.args.frames.now.items fs c.in-Some-Right.field-0 (TruthFrame.Right k x) whole c.in-Some-Right.ensures.items c.in-Some-Right.field-0-is t in
    come-right w a c.truth_of_joined.new.making k x c.args.truth c.in-Ok.truth fs whole c.in-Ok.ensures own

pub returns-in-Ok-truth_of_negation : goal.returns-in-Ok-truth_of_negation
returns-in-Ok-truth_of_negation c = λ w whole t.
    let a = c.args.making.now in
    let fs = c.pop.new.self.items in
    let own = popped w a c.args.truth c.args.frames.now.items fs c.in-Some-Negation.field-0 TruthFrame.Negation whole c.in-Some-Negation.ensures.items c.in-Some-Negation.field-0-is t in
    come-negation w a c.truth_of_negation.new.making c.args.truth c.in-Ok-truth_of_negation.truth fs whole c.in-Ok-truth_of_negation.ensures own
