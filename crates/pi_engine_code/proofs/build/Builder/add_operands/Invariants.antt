use Rattle.pi_engine_code.proofs.LaidOperands.{OperandsAdded}
use Rattle.pi_engine_code.proofs.build.Builder.add_operands.Given as goal

-- so many operands were added
abbrev pub invariant-loop-arg : goal.invariant-loop-arg
invariant-loop-arg g l = OperandsAdded (g.S.StateStore.seen l.initial.store) (g.S.StateStore.seen l.store) l.initial.code l.code l.args l.arg-index
