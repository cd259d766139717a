use Rattle.std.proofs.Common.{rules, ◌∙◌, sym, ap, subst}
use Rattle.std.specs.Prelude.{pos}
use Rattle.pi_terms.specs.Tree.{int}
use Rattle.pi_constraints.specs.Store.{Gives}
use Rattle.pi_engine_arenas.specs.declared.run.Now.{Now}
use Rattle.pi_engine_arenas.specs.Arenas.{view_of}
use Rattle.pi_engine_arenas.specs.Frames.{slot_number}
use Rattle.pi_engine_stands.specs.Evaluates.{with_blocks}
use Rattle.pi_engine_stands.specs.Stands.{world, Stands}
use Rattle.pi_meaning.specs.Machine.Step.{end_step}
use Rattle.pi_engine_stands.proofs.BackStand.{drops-newest}
use Rattle.pi_engine_stands.proofs.CountsEnd.{no-other-node, number-given}
use Rattle.pi_engine_steps.proofs.levels.give_count.Goals as goal

pub returns-in_default : goal.returns-in_default
returns-in_default g c = λ l is_code named s b es it.
    let w = world l (g.S.StateStore.seen c.args.run.now.store) g.S.StateStore.order (view_of c.args.run.now.arenas) in
    let node = no-other-node w c.args.back c.args.place c.args.count c.args.code.now c.step-step.result s b es named is_code c.step-step.ensures.is it in
    absurd (c.in_default.not-Count node.0 node.1)

pub returns : goal.returns
returns g c = λ l is_code named s b es it.
    let v = g.S.StateStore.seen c.args.run.now.store in
    let u = g.S.StateStore.seen c.put_int.new.self in
    let a = view_of c.args.run.now.arenas in
    let d = view_of c.pop.new.self in
    let new = c.set.new.self in
    let back = c.args.back in
    let step = c.step-step.result in
    let number : Gives v u v.now.state c.in_ok-number.number (int (pos c.args.count)) = subst (λ t. Gives v u v.now.state c.in_ok-number.number t) (ap int (search rules) ∙ ap int c.from.ensures) c.in_ok-number.ensures.ok in
    subst (λ p. Stands (world l u g.S.StateStore.order (with_blocks d new)) (Now.Going p) (end_step s b es)) (sym c.behind_level-next.ensures)
    (number-given (world l v g.S.StateStore.order a) d u new back c.args.place c.args.count c.in-Count.into c.first_slot.result c.slot_at-slot.result c.args.code.now step c.in_ok-number.number s b es named is_code c.step-step.ensures.is c.in-Count.is it
    (drops-newest a d c.pop.ensures.entries c.pop.ensures.kept c.pop.ensures.slots c.pop.ensures.keeps c.pop.ensures.collected c.pop.ensures.frames c.pop.ensures.level)
    (c.first_slot.ensures ∙ ap (λ p. slot_number p.base step.first_slot) c.behind_level-next.ensures) c.slot_at-slot.ensures number c.in_ok-set.ensures.ok c.in_ok-set.ensures.kept c.in_ok-set.ensures.keeps c.in_ok-set.ensures.most)
