use Rattle.std.proofs.Common.{List, ◌++◌, take}
use Rattle.pi_core.specs.declared.core_program.CorePred.{CorePred as Pred}
use Rattle.pi_engine_code.specs.Numbers.{IsNumbering}
use Rattle.pi_engine_code.proofs.build.numbers.Numbers.add.Given as goal

-- the first so many have numbers
abbrev pub invariant-loop-pred : goal.invariant-loop-pred
invariant-loop-pred l = (front : List Pred) → IsNumbering l.initial.self front → IsNumbering l.self (front ++ take l.pred-index l.preds)
