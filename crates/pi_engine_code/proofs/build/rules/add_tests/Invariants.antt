use Rattle.pi_engine_code.proofs.LaidTests.{TestsAdded}
use Rattle.pi_engine_code.proofs.build.rules.add_tests.Given as goal

-- so many tests were added
abbrev pub invariant-loop-pattern : goal.invariant-loop-pattern
invariant-loop-pattern g l = TestsAdded (g.S.StateStore.seen l.initial.store) (g.S.StateStore.seen l.store) l.initial.code l.code l.head l.is_deep l.pattern-index
