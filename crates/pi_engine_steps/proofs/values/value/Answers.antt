use Rattle.std.proofs.Common.{◌<◌, ◌≤◌, ◌∙◌, ap, subst, arith}
use Rattle.std.proofs.lemmas.Result.{IfOk-weaker}
use Rattle.pi_engine_code.specs.declared.code.Operand.{Operand}
use Rattle.pi_engine_arenas.specs.Arenas.{view_of}
use Rattle.pi_engine_code.specs.Code.{tables_of}
use Rattle.pi_engine_stands.specs.Here.{IsReadable}
use Rattle.pi_engine_arenas.specs.Frames.{slot_number}
use Rattle.pi_engine_stands.specs.Evaluates.{filled_by, parts_between, AreReadableParts}
use Rattle.pi_constraints.proofs.StateLemmas.{extends}
use Rattle.pi_engine_stands.proofs.ValuesStand.{known-value, slot-operand, readable-parts, slots-of, made-filled, made-value}
use Rattle.pi_engine_steps.proofs.values.value.Goals as goal

pub returns-in-Known-clause-ok : goal.returns-in-Known-clause-ok
returns-in-Known-clause-ok g c = λ t b e at readable extend holds.
    known-value b (g.S.StateStore.seen c.args.run.now.store) (view_of c.args.run.now.arenas) (tables_of t c.args.code.now) e c.args.operand c.in-Known.term c.in-Known.is readable extend holds

pub returns-in-Slot-clause-ok : goal.returns-in-Slot-clause-ok
returns-in-Slot-clause-ok g c = IfOk-weaker c.slot_value.result _ _ (λ r so t b e at readable extend holds.
    let k = c.in-Slot.k in
    let less : k < b.count = subst (λ (q : Operand). IsReadable (tables_of t c.args.code.now) b q) c.in-Slot.is readable in
    slot-operand b (g.S.StateStore.seen c.args.run.now.store) (g.S.StateStore.seen c.slot_value.new.run.store) (view_of c.args.run.now.arenas) (view_of c.slot_value.new.run.arenas) (tables_of t c.args.code.now) e c.args.operand k
    r c.in-Slot.is (so b k e (c.slot_at.ensures ∙ ap (λ n. slot_number n k) at) less holds)) c.slot_value.ensures.ok

pub returns-in_ok-fill_slots-in-Made-clause-ok : goal.returns-in_ok-fill_slots-in-Made-clause-ok
returns-in_ok-fill_slots-in-Made-clause-ok g c = IfOk-weaker c.put_together.result _ _ (λ r so t b e at readable extend holds.
    let v = g.S.StateStore.seen c.args.run.now.store in
    let w = g.S.StateStore.seen c.fill_slots.new.run.store in
    let T = tables_of t c.args.code.now in
    let from = c.in-Made.from in
    let to = c.in-Made.to in
    let it : IsReadable T b (Operand.Made from to) = subst (λ (q : Operand). IsReadable T b q) c.in-Made.is readable in
    let parts : AreReadableParts T b (parts_between T from to) = readable-parts T b from to it.1 it.2 in
    let many = slots-of v.now.terms c.args.run.now.arenas.blocks.slots b e holds in
    let order : from ≤ to = omega (arith, it.0) in
    let fills = c.in_ok-fill_slots-in-Made.ensures.ok t b e at order it.1 parts holds in
    made-value b v w (g.S.StateStore.seen c.put_together.new.run.store) (view_of c.args.run.now.arenas) (view_of c.fill_slots.new.run.arenas) (view_of c.put_together.new.run.arenas) T e c.args.operand from to it.3.0 r
    c.in-Made.is parts it.3.1 many fills
    (so t b (filled_by (parts_between T from to) (record { slots = e; state = v.now.state })).slots it.3.0 at order it.1 (λ n y is. extends v w fills.keeps n y (extend n y is)) parts
    (made-filled T b from to e v.now.state parts many) it.3.1 fills.holds)) c.put_together.ensures.ok
