use Rattle.std.proofs.Common.{◌<◌, ◌∙◌, sym, ap, subst}
use Rattle.pi_engine_code.specs.declared.code.Part.{Part}
use Rattle.pi_engine_arenas.specs.Arenas.{view_of, between}
use Rattle.pi_engine_stands.specs.Here.{IsReadablePart}
use Rattle.pi_engine_arenas.specs.Frames.{slot_number}
use Rattle.pi_engine_stands.specs.Evaluates.{Writes, filled_one}
use Rattle.pi_engine_stands.proofs.SlotsStand.{writes-none}
use Rattle.pi_engine_steps.proofs.values.fill_part.Goals as goal

pub returns-in_ok-slot_value-in-Slot-clause-ok : goal.returns-in_ok-slot_value-in-Slot-clause-ok
returns-in_ok-slot_value-in-Slot-clause-ok g c = λ t b e at readable holds.
    let v = g.S.StateStore.seen c.args.run.now.store in
    let w = g.S.StateStore.seen c.slot_value.new.run.store in
    let k = c.in-Slot.k in
    let less : k < b.count = subst (λ (p : Part). IsReadablePart t b p) c.in-Slot.is readable in
    subst (λ (p : Part). Writes b (between v w (view_of c.args.run.now.arenas) (view_of c.slot_value.new.run.arenas)) (filled_one p (record { slots = e; state = v.now.state })).slots (filled_one p (record { slots = e; state = v.now.state })).state)
    (sym c.in-Slot.is)
    (c.in_ok-slot_value-in-Slot.ensures.ok b k e (c.slot_at.ensures ∙ ap (λ n. slot_number n k) at) less holds).writes

pub returns-in-Known-clause-ok : goal.returns-in-Known-clause-ok
returns-in-Known-clause-ok g c = λ t b e at readable holds.
    let v = g.S.StateStore.seen c.args.run.now.store in
    let a = view_of c.args.run.now.arenas in
    subst (λ (p : Part). Writes b (between v v a a) (filled_one p (record { slots = e; state = v.now.state })).slots (filled_one p (record { slots = e; state = v.now.state })).state) (sym c.in-Known.is)
    (writes-none b v a e holds)

pub returns-in-Compound-clause-ok : goal.returns-in-Compound-clause-ok
returns-in-Compound-clause-ok g c = λ t b e at readable holds.
    let v = g.S.StateStore.seen c.args.run.now.store in
    let a = view_of c.args.run.now.arenas in
    subst (λ (p : Part). Writes b (between v v a a) (filled_one p (record { slots = e; state = v.now.state })).slots (filled_one p (record { slots = e; state = v.now.state })).state) (sym c.in-Compound.is)
    (writes-none b v a e holds)
