use Rattle.std.proofs.Common.{◌≡◌, ◌≤◌, length}
use Rattle.pi_terms.specs.Places.{Places}
use Rattle.pi_constraints.specs.Store.{Terms, Extend}
use Rattle.pi_unify.specs.Copying.{AreBuilt}
use Rattle.pi_engine_arenas.specs.Arenas.{view_of, between}
use Rattle.pi_engine_code.specs.Code.{tables_of}
use Rattle.pi_engine_stands.specs.Here.{Block, Holds}
use Rattle.pi_engine_arenas.specs.Frames.{slot_number}
use Rattle.pi_engine_stands.specs.Evaluates.{Writes, parts_between, AreReadableParts, AreFilledParts}
use Rattle.pi_engine_stands.proofs.BuiltLemmas.{built_from}
use Rattle.pi_engine_steps.proofs.values.put_together.Given as goal

-- what the parts from one on come to is made
abbrev pub invariant-loop-i : goal.invariant-loop-i
invariant-loop-i g l =
    (l.run.terms ≡ l.initial.run.terms) × (l.from ≤ l.to → l.from ≤ l.i)
    × ((t : Terms) (b : Block) (f : Places) → l.first ≡ slot_number b.base b.first → l.from ≤ l.to → l.to ≤ length l.code.parts.items → Extend t (g.S.StateStore.seen l.initial.run.store).now.terms →
    AreReadableParts (tables_of t l.code) b (parts_between (tables_of t l.code) l.from l.to) → AreFilledParts f (parts_between (tables_of t l.code) l.from l.to) →
    Holds (g.S.StateStore.seen l.initial.run.store).now.terms l.initial.run.arenas.blocks.slots b f →
    Writes b (between (g.S.StateStore.seen l.initial.run.store) (g.S.StateStore.seen l.run.store) (view_of l.initial.run.arenas) (view_of l.run.arenas)) f (g.S.StateStore.seen l.initial.run.store).now.state
    × AreBuilt (g.S.StateStore.seen l.run.store) l.run.made.items (built_from (tables_of t l.code) l.i l.to f (g.S.StateStore.seen l.initial.run.store).now.state))
