use Rattle.std.proofs.Common.{◌≡◌}
use Rattle.pi_terms.specs.Places.{Places}
use Rattle.pi_constraints.specs.Store.{Terms, Extend}
use Rattle.pi_engine_arenas.specs.Arenas.{view_of}
use Rattle.pi_engine_code.specs.Code.{tables_of}
use Rattle.pi_engine_stands.specs.Here.{Block, Holds, AreReadable}
use Rattle.pi_engine_arenas.specs.Frames.{slot_number}
use Rattle.pi_engine_stands.proofs.ArgumentsStand.{EvaluatesFirst}
use Rattle.pi_engine_steps.proofs.calls.take_arguments.Given as goal

-- the first arguments are evaluated
abbrev pub invariant-loop-i : goal.invariant-loop-i
invariant-loop-i g l =
    (t : Terms) (b : Block) (e : Places) → l.first ≡ slot_number b.base b.first → AreReadable (tables_of t l.code) b l.start l.arity → Extend t (g.S.StateStore.seen l.initial.run.store).now.terms →
    Holds (g.S.StateStore.seen l.initial.run.store).now.terms l.initial.run.arenas.blocks.slots b e →
    EvaluatesFirst b (g.S.StateStore.seen l.initial.run.store) (g.S.StateStore.seen l.run.store) (view_of l.initial.run.arenas) (view_of l.run.arenas) (tables_of t l.code) l.start l.i e l.run.terms.items
