use Rattle.std.proofs.Common.{sym, ◌∙◌}
use Rattle.pi_engine_arenas.specs.Arenas.{view_of}
use Rattle.pi_engine_stands.proofs.SlotsStand.{slot-is, slot-read, slot-filled}
use Rattle.pi_engine_steps.proofs.values.slot_value.Goals as goal

pub returns-in-Some-clause-ok : goal.returns-in-Some-clause-ok
returns-in-Some-clause-ok g c = λ b k e at within holds.
    let a = view_of c.args.run.now.arenas in
    slot-read b (g.S.StateStore.seen c.args.run.now.store) a e k c.args.slot c.in-Some.term
    (slot-is b k c.args.slot _ at within holds.within c.get.ensures.most) within holds (sym c.get.ensures.is ∙ c.in-Some.is)

pub returns-in_ok-set-in-None-clause-ok : goal.returns-in_ok-set-in-None-clause-ok
returns-in_ok-set-in-None-clause-ok g c = λ b k e at within holds.
    let a = view_of c.args.run.now.arenas in
    slot-filled b (g.S.StateStore.seen c.args.run.now.store) (g.S.StateStore.seen c.new_var.new.self) a c.set.new.self e k c.args.slot c.in_ok-term-in-None.term
    (slot-is b k c.args.slot _ at within holds.within c.get.ensures.most) within holds (sym c.get.ensures.is ∙ c.in-None.is)
    c.in_ok-term-in-None.ensures.ok c.in_ok-set-in-None.ensures.ok c.set.ensures.kept c.set.ensures.keeps
