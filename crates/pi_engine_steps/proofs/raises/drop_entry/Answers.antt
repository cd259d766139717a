use Rattle.std.proofs.Common.{◌∙◌, ◌-◌, take, sym, ap, subst}
use Rattle.pi_engine_arenas.specs.Arenas.{view_of, LeavesLevel, with_collected}
use Rattle.pi_meaning.specs.Machine.Step.{raise_step}
use Rattle.pi_engine_stands.specs.Stands.{world}
use Rattle.pi_engine_stands.specs.Fails.{ComesTo}
use Rattle.pi_engine_stands.specs.Raises.{collected_below}
use Rattle.pi_engine_stands.proofs.RaisesStand.{raise-drops}
use Rattle.pi_engine_steps.proofs.raises.drop_entry.Goals as goal

pub returns : goal.returns
returns g c = λ l drops x at back_is ball es raising stands balanced.
    let v = g.S.StateStore.seen c.args.run.now.store in
    let a = view_of c.args.run.now.arenas in
    let b = view_of c.leave.new.self in
    let values = c.truncate.new.self.items in
    let w = world l v g.S.StateStore.order a in
    subst (λ n. ComesTo (world l v g.S.StateStore.order b) n (raise_step ball es)) (sym raising)
    (raise-drops w values b c.args.back x ball es stands at back_is drops
    (c.truncate.ensures.items ∙ ap (λ n. take n a.collected) (c.collected_before-first.ensures ∙ ap (collected_below c.args.back.kind) c.count_collected.ensures))
    (subst (λ n. LeavesLevel (with_collected a values) b (n - 1) c.args.back) c.count-number.ensures c.leave.ensures.leaves))
