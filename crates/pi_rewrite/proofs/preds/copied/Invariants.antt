use Rattle.std.proofs.Common.{◌≡◌, ◌++◌, drop}
use Rattle.pi_rewrite.proofs.preds.copied.Given as goal

-- what is made so far, and the lists ahead
abbrev pub invariant-loop-modes : goal.invariant-loop-modes
invariant-loop-modes l = l.made ++ drop l.modes-index l.lists ≡ l.lists
