use Rattle.std.proofs.Common.{◌≡◌, ◌≤◌, length}
use Rattle.pi_terms.specs.Places.{Places}
use Rattle.pi_constraints.specs.Store.{Terms}
use Rattle.pi_engine_arenas.specs.Arenas.{view_of, between}
use Rattle.pi_engine_code.specs.Code.{tables_of}
use Rattle.pi_engine_stands.specs.Here.{Block, Holds}
use Rattle.pi_engine_arenas.specs.Frames.{slot_number}
use Rattle.pi_engine_stands.specs.Evaluates.{parts_between, AreReadableParts, WritesFilling}
use Rattle.pi_engine_stands.proofs.FillLemmas.{filling}
use Rattle.pi_engine_steps.proofs.values.fill_slots.Given as goal

-- the slots of the parts in front are filled
abbrev pub invariant-loop-i : goal.invariant-loop-i
invariant-loop-i g l =
    (l.run.terms ≡ l.initial.run.terms)
    × ((t : Terms) (b : Block) (e : Places) → l.first ≡ slot_number b.base b.first → l.from ≤ l.to → l.to ≤ length l.code.parts.items →
    AreReadableParts (tables_of t l.code) b (parts_between (tables_of t l.code) l.from l.to) → Holds (g.S.StateStore.seen l.initial.run.store).now.terms l.initial.run.arenas.blocks.slots b e →
    WritesFilling b (between (g.S.StateStore.seen l.initial.run.store) (g.S.StateStore.seen l.run.store) (view_of l.initial.run.arenas) (view_of l.run.arenas))
    (filling (tables_of t l.code) l.from l.to l.i e (g.S.StateStore.seen l.initial.run.store).now.state))
