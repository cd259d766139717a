use Rattle.pi_engine_code.proofs.LaidSteps.{StepsAdded}
use Rattle.pi_engine_code.proofs.build.Builder.add_steps.Given as goal

-- so many steps were added
abbrev pub invariant-loop-i : goal.invariant-loop-i
invariant-loop-i g l =
    StepsAdded l.self.numbers (g.S.StateStore.seen l.initial.store) (g.S.StateStore.seen l.store) l.initial.code l.code l.shape.first_slot l.shape.slots l.goal l.initial.is_last l.marks.items l.i
