use Rattle.std.proofs.Common.{◌∙◌, ◌≤◌, length, sym, ap, subst}
use Rattle.pi_terms.specs.Tree.{Trees}
use Rattle.pi_constraints.specs.Store.{AreTerms, Stays, IsTerm}
use Rattle.pi_engine_arenas.specs.declared.run.Now.{Now}
use Rattle.pi_engine_arenas.specs.Arenas.{view_of, with_collected}
use Rattle.pi_engine_arenas.specs.Frames.{slot_number}
use Rattle.pi_engine_stands.specs.Evaluates.{with_blocks}
use Rattle.pi_engine_stands.specs.Lists.{PlacesValues, list_of}
use Rattle.pi_engine_stands.specs.Stands.{world, Stands, values_between}
use Rattle.pi_meaning.specs.Machine.Step.{end_step}
use Rattle.pi_engine_stands.proofs.BackStand.{drops-newest}
use Rattle.pi_engine_stands.proofs.ListsStand.{no-other-end, list-given}
use Rattle.pi_engine_steps.proofs.lists.give_list.Goals as goal

pub returns-in_default : goal.returns-in_default
returns-in_default g c = λ l is_code named s b es it.
    let w = world l (g.S.StateStore.seen c.args.run.now.store) g.S.StateStore.order (view_of c.args.run.now.arenas) in
    let node = no-other-end w c.args.back c.args.place c.args.first c.args.code.now c.step-step.result s b es named is_code c.step-step.ensures.is it in
    absurd (c.in_default.not-Collect node.0 node.1 node.2)

pub returns : goal.returns
returns g c = λ l is_code named s b es it.
    let seen = g.S.StateStore.seen in
    let v = seen c.args.run.now.store in
    let u = seen c.place_values.new.store in
    let x = seen c.list_of_terms.new.store in
    let a = view_of c.args.run.now.arenas in
    let d = view_of c.pop.new.self in
    let new = c.set.new.self in
    let back = c.args.back in
    let step = c.step-step.result in
    let values = c.truncate.new.self.items in
    let rs = c.place_values.new.terms.items in
    let places : c.args.first ≤ length d.collected → PlacesValues v u (values_between d.collected c.args.first (length d.collected)) rs =
    subst (λ xs. c.args.first ≤ length xs → PlacesValues v u (values_between xs c.args.first (length xs)) rs) c.deref.ensures.value c.in_ok-place_values.ensures in
    let lists : (ts : Trees) → AreTerms u rs ts → Stays u x × IsTerm x c.in_ok-list.list (list_of ts) =
    subst (λ qs. (ts : Trees) → AreTerms u qs ts → Stays u x × IsTerm x c.in_ok-list.list (list_of ts)) c.deref-2.ensures.value c.in_ok-list.ensures in
    subst (λ p. Stands (world l x g.S.StateStore.order (with_blocks (with_collected d values) new)) (Now.Going p) (end_step s b es)) (sym c.behind_level-next.ensures)
    (list-given (world l v g.S.StateStore.order a) d u x values new back c.args.place c.args.first c.in-Collect.field-0 c.in-Collect.into c.first_slot.result c.slot_at-slot.result c.args.code.now step rs c.in_ok-list.list s b es named is_code c.step-step.ensures.is c.in-Collect.is it
    (drops-newest a d c.pop.ensures.entries c.pop.ensures.kept c.pop.ensures.slots c.pop.ensures.keeps c.pop.ensures.collected c.pop.ensures.frames c.pop.ensures.level)
    places lists c.truncate.ensures.items (c.first_slot.ensures ∙ ap (λ p. slot_number p.base step.first_slot) c.behind_level-next.ensures) c.slot_at-slot.ensures
    c.in_ok-set.ensures.ok c.in_ok-set.ensures.kept c.in_ok-set.ensures.keeps c.in_ok-set.ensures.most)
