use Rattle.std.proofs.Common.{◌≡◌, ◌++◌, drop}
use Rattle.pi_prop_read.specs.OperandFrames.{stacked}
use Rattle.pi_prop_read.proofs.operands.turns.push_items.Given as goal

-- the items from one on wait behind what waited before
abbrev pub invariant-loop-i : goal.invariant-loop-i
invariant-loop-i l = l.frames.items ≡ l.fn.frames.items ++ stacked (drop l.i l.items)
