-- By what the term is as an operand.
use Rattle.std.specs.Prelude.{◌≡◌}
use Rattle.std.specs.Int.{w128}
use Rattle.std.proofs.Common.{rules, ◌∙◌, ap, to_z, of_z}
use Rattle.pi_prop_spec.specs.PostingSums.{of_number}
use Rattle.pi_prop_read.specs.declared.operands.frames.Frame.{Frame}
use Rattle.pi_prop_read.proofs.OperandTurns.{begin-variable, begin-number, begin-one, begin-two, begin-other}
use Rattle.pi_prop_read.proofs.LoopLemmas.{waited}
use Rattle.pi_prop_read.proofs.operands.turns.begin.Goals as goal

pub returns-in-Ok : goal.returns-in-Ok
returns-in-Ok g c = λ a whole s t.
    let v = g.S.StateStore.seen c.args.s.now in
    begin-variable v.now a c.args.operand c.in-Variable.variable c.in-Ok.sum c.args.frames.now.items whole (c.in-Variable.ensures s t.is_here) c.in-Ok.ensures.0 t

pub returns-in-Number : goal.returns-in-Number
returns-in-Number g c = λ a whole s t.
    let v = g.S.StateStore.seen c.args.s.now in
    let bits : to_z w128 (of_z w128 c.in-Number.number) ≡ c.in-Number.number = search rules in
    begin-number v.now a c.args.operand c.in-Number.number c.number.result c.args.frames.now.items whole (c.in-Number.ensures s t.is_here) (c.number.ensures ∙ ap of_number bits) t

pub returns-in-One : goal.returns-in-One
returns-in-One g c = λ a whole s t.
    let v = g.S.StateStore.seen c.args.s.now in
    let old = c.args.frames.now.items in
    let new = c.wait.new.frames.items in
    let change = c.in-One.change in
    waited v.now a c.wait.result old new (Frame.Under change) c.in-One.part whole c.wait.ensures (λ e. begin-one v.now a c.args.operand c.in-One.part change old new whole (c.in-One.ensures s t.is_here) e t)

pub returns-in-Two : goal.returns-in-Two
returns-in-Two g c = λ a whole s t.
    let v = g.S.StateStore.seen c.args.s.now in
    let old = c.args.frames.now.items in
    let new = c.wait-in-Two.new.frames.items in
    let sign = c.in-Two.sign in
    waited v.now a c.wait-in-Two.result old new (Frame.Left sign c.in-Two.right) c.in-Two.left whole c.wait-in-Two.ensures
    (λ e. begin-two v.now a c.args.operand c.in-Two.left c.in-Two.right sign old new whole (c.in-Two.ensures s t.is_here) e t)

pub returns-in-Other : goal.returns-in-Other
returns-in-Other g c = λ a whole s t.
    let v = g.S.StateStore.seen c.args.s.now in
    begin-other v.now a c.args.operand c.args.frames.now.items whole (c.in-Other.ensures s t.is_here) t
