use Rattle.std.proofs.Common.{◌≡◌, ◌∙◌, ◌^◌, ◌+◌, ◌<◌, List, Some, None, length, sym, ap, subst, arith}
use Rattle.pi_constraints.specs.declared.store.Ref.{Ref}
use Rattle.pi_core.specs.GoalTree.{call}
use Rattle.pi_label.specs.Words.{variable_word}
use Rattle.pi_lib_constraints.specs.Kept.{AreRefsOf}
use Rattle.pi_lib_solve.specs.Picked.{ShowsPicked, pending_in}
use Rattle.pi_settling.specs.Choices.{pending, picked}
use Rattle.pi_engine_arenas.specs.declared.run.Now.{Now}
use Rattle.pi_engine_arenas.specs.Arenas.{view_of, pushed}
use Rattle.pi_engine_stands.specs.Rests.{Rests}
use Rattle.pi_engine_stands.specs.Stands.{world, Stands}
use Rattle.pi_engine_stands.proofs.ConfinedRests.{confined-rests}
use Rattle.pi_engine_stands.proofs.FramesStand.{framed, arenas-framed, going-of, going-size}
use Rattle.pi_engine_stands.proofs.SolveLabels.{refs-stay, call_with, none-left, some-left, all_of}
use Rattle.pi_meaning.specs.Machine.Step.{labels_step, with_rest}
use Rattle.pi_engine_steps.proofs.solve.label_plainly.Goals as goal

-- no variable is left
pub returns-in_default : goal.returns-in_default
returns-in_default g c = λ l o items name args ts gs e k es at options refs filled stands.
    let v = g.S.StateStore.seen c.args.run.now.store in
    let u = g.S.StateStore.seen c.confine.new.s in
    let w = world l v g.S.StateStore.order (view_of c.args.run.now.arenas) in
    let p = c.args.point in
    let s = c.args.step in
    let x = world l u g.S.StateStore.order (view_of c.args.run.now.arenas) in
    let size = going-size w p s (call name args) gs e k at (going-of w p _ e v.now.state k stands.runs) in
    let fit : p.place + s.size < 2 ^ 32 = omega (arith, size.0, size.1) in
    let here = c.in_ok-confine.ensures.ok items stands.entries.state.calm.state (subst (λ (qs : List Ref). AreRefsOf v qs items) (sym c.deref.ensures.value) refs) in
    let rests : Rests u.now.state = subst Rests (sym here) (confined-rests v.now.state items stands.entries.state) in
    let shows = c.pick.ensures items rests.calm.state (subst (λ (qs : List Ref). AreRefsOf u qs items) (sym c.deref-2.ensures.value) (refs-stay v u c.args.asked.items.items items c.confine.ensures.keeps refs)) in
    let found : picked (pending u.now.state items) (variable_word c.args.asked.options.variable) ≡ None =
    subst (λ q. ShowsPicked u.now.state q (picked (pending u.now.state items) (variable_word c.args.asked.options.variable))) c.in_default.is shows in
    subst (λ q. Stands x (Now.Going q) (labels_step None o items (call_with name args ts e v.now.state) (with_rest gs k es))) (sym (c.behind.ensures fit))
    (none-left w u p s o items name args ts gs e k es at c.confine.ensures.keeps rests here (ap (picked (pending u.now.state items)) (sym options.picked) ∙ found) stands)

-- one is picked
pub returns : goal.returns
returns g c = λ l o items name args ts gs e k es at options refs filled stands.
    let v = g.S.StateStore.seen c.args.run.now.store in
    let u = g.S.StateStore.seen c.confine.new.s in
    let after = c.push_entry.new.run in
    let a = view_of c.args.run.now.arenas in
    let b = view_of c.frame_behind.new.self in
    let order = g.S.StateStore.order in
    let w = world l v order a in
    let p = c.args.point in
    let s = c.args.step in
    let n = c.in_ok-frame.frame in
    let fs = c.frame_behind.new.self.frames in
    let push = c.in_ok-push_entry.ensures in
    let word = c.args.asked.options.value in
    let variable = c.in-Some.variable in
    let here = c.in_ok-confine.ensures.ok items stands.entries.state.calm.state (subst (λ (qs : List Ref). AreRefsOf v qs items) (sym c.deref.ensures.value) refs) in
    let rests : Rests u.now.state = subst Rests (sym here) (confined-rests v.now.state items stands.entries.state) in
    let shows = c.pick.ensures items rests.calm.state (subst (λ (qs : List Ref). AreRefsOf u qs items) (sym c.deref-2.ensures.value) (refs-stay v u c.args.asked.items.items items c.confine.ensures.keeps refs)) in
    let found : ShowsPicked u.now.state (Some variable) (picked (pending u.now.state items) (variable_word c.args.asked.options.variable)) =
    subst (λ q. ShowsPicked u.now.state q (picked (pending u.now.state items) (variable_word c.args.asked.options.variable))) c.in-Some.is shows in
    let framed_is : framed a fs ≡ b = arenas-framed a b c.frame_behind.ensures.blocks c.frame_behind.ensures.entries c.frame_behind.ensures.level c.frame_behind.ensures.collected in
    let pushed_is : pushed (framed a fs) push.mark (length a.blocks.slots) p.base n (all_of p.place variable word) ≡ view_of after.arenas =
    ap (λ r. pushed r push.mark (length r.blocks.slots) p.base n (all_of p.place variable word)) framed_is ∙ sym push.arenas in
    subst (λ r. Stands (world l (g.S.StateStore.seen after.store) order r) Now.Failing (labels_step None o items (call_with name args ts e v.now.state) (with_rest gs k es))) pushed_is
    (some-left w u (g.S.StateStore.seen after.store) push.mark p s fs n (pending_in u.now.state variable) word o items name args ts gs e k es (at, c.in_ok-frame.ensures.ok) push.marks options.tried
    c.confine.ensures.keeps rests here (ap (picked (pending u.now.state items)) (sym options.picked) ∙ found.0) found.1 filled stands)
