use Rattle.std.proofs.Common.{◌+◌}
use Rattle.std.proofs.lemmas.Result.{IfOk-weaker}
use Rattle.pi_engine_arenas.specs.Arenas.{view_of}
use Rattle.pi_engine_stands.proofs.CallEntries.{arenas-renamed, keeps-own, keeps-new}
use Rattle.pi_engine_steps.proofs.rules.keep.Goals as goal

pub returns-then-is_again : goal.returns-then-is_again
returns-then-is_again g c = λ fit.
    let is = c.set_newest.ensures in
    keeps-own g.S.StateStore.order (g.S.StateStore.seen c.args.run.now.store) (view_of c.args.run.now.arenas) (view_of c.set_newest.new.self) (c.args.call.now.base + c.args.arity) c.args.call.now.base c.args.call.now.frame
    c.args.kind c.args.is_again c.if-is_again.true
    (λ x newest. arenas-renamed (view_of c.args.run.now.arenas) (view_of c.set_newest.new.self) x c.args.kind (is.entries x newest) is.blocks is.frames is.level is.collected)

pub returns : goal.returns
returns g c = IfOk-weaker c.push_entry_at.result _ _ (λ _ so fit.
    keeps-new g.S.StateStore.order (g.S.StateStore.seen c.args.run.now.store) (g.S.StateStore.seen c.push_entry_at.new.run.store) (view_of c.args.run.now.arenas) (view_of c.push_entry_at.new.run.arenas)
    (c.args.call.now.base + c.args.arity) c.first_slot-slots.result c.args.call.now.base c.args.call.now.frame c.args.kind c.args.is_again c.if-is_again.false (c.first_slot-slots.ensures fit) so) c.push_entry_at.ensures
