use Rattle.std.proofs.Common.{Some, None}
use Rattle.pi_engine_arenas.specs.Arenas.{view_of}
use Rattle.pi_engine_steps.proofs.NamesStand.{name-read, read-named, none-named}
use Rattle.pi_engine_steps.proofs.answers.named_value.Goals as goal

pub returns-in_default : goal.returns-in_default
returns-in_default g c = λ b e base first within holds state.
    name-read b (g.S.StateStore.seen c.args.run.now.store) (g.S.StateStore.seen c.slot_value.new.run.store) (view_of c.args.run.now.arenas) (view_of c.slot_value.new.run.arenas) c.args.named.now e c.slot_at.result c.in_ok-term.term c.in_ok-value.field-0 None
    base first within holds state c.slot_at.ensures c.in_ok-term.ensures.ok c.in_ok-value.ensures (λ t read. none-named c.args.named.now c.in_ok-value.field-0 t c.in_default.is read)

pub returns : goal.returns
returns g c = λ b e base first within holds state.
    name-read b (g.S.StateStore.seen c.args.run.now.store) (g.S.StateStore.seen c.slot_value.new.run.store) (view_of c.args.run.now.arenas) (view_of c.slot_value.new.run.arenas) c.args.named.now e c.slot_at.result c.in_ok-term.term c.in_ok-value.field-0 (Some (record { name = c.in_ok-name.name; value = c.in-Some.value }))
    base first within holds state c.slot_at.ensures c.in_ok-term.ensures.ok c.in_ok-value.ensures (λ t read. read-named c.args.named.now c.in_ok-name.name c.in_ok-value.field-0 c.in-Some.value t c.in-Some.is c.in_ok-name.ensures.ok read)
