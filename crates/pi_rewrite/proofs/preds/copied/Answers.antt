-- One list after the other.
use Rattle.std.proofs.Common.{◌++◌, ap}
use Rattle.pi_rewrite.proofs.GroupLemmas.{copied-more, copied-all}
use Rattle.pi_rewrite.proofs.preds.copied.Goals as goal

pub loop-modes-init : goal.loop-modes-init
loop-modes-init c = ap (λ xs. xs ++ c.args.lists.now) c.in_ok-made.ensures

pub loop-modes-preserved : goal.loop-modes-preserved
loop-modes-preserved c =
    copied-more c.args.lists.now c.loop-modes.made c.push.new.self c.loop-modes.modes-index c.modes-item.result c.in_ok-copy.copy c.loop-modes-test.true c.modes-item.is c.in_ok-copy.ensures.ok c.in_ok-push.ensures.ok c.loop-modes.invariant

pub returns : goal.returns
returns c = copied-all c.args.lists.now c.loop-modes.made c.loop-modes.modes-index c.loop-modes-test.false c.loop-modes.invariant
