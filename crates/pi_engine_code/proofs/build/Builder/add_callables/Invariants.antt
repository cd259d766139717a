use Rattle.pi_lib_builtin.specs.Resolved.{rows_shown}
use Rattle.pi_engine_code.proofs.LaidNames.{PlacesAdded}
use Rattle.pi_engine_code.proofs.build.Builder.add_callables.Given as goal

-- the goals of the first so many names were added
abbrev pub invariant-loop-named : goal.invariant-loop-named
invariant-loop-named g l = PlacesAdded l.self.numbers (g.S.StateStore.seen l.initial.store) (g.S.StateStore.seen l.store) l.initial.code l.code (rows_shown l.named-items) l.callables l.named-index
