use Rattle.std.proofs.Common.{◌≡◌, ◌∙◌, ◌-◌, ◌+◌, length, sym, ap, subst, arith}
use Rattle.pi_engine_arenas.specs.declared.run.Now.{Now}
use Rattle.pi_engine_arenas.specs.declared.arenas.Kind.{Kind}
use Rattle.pi_engine_arenas.specs.Arenas.{view_of, pushed}
use Rattle.pi_engine_stands.specs.Stands.{World, world}
use Rattle.pi_meaning.specs.Machine.Step.{goal_step, with_rest}
use Rattle.pi_engine_stands.specs.Makes.{StandsAfter}
use Rattle.pi_engine_stands.proofs.FramesStand.{framed, arenas-framed}
use Rattle.pi_engine_stands.proofs.BranchesStand.{no-branches, one-branch, some-branches, branch-found, behind-found}
use Rattle.pi_engine_steps.proofs.choices.enter_alternatives.Goals.{then-count-gt1+in_ok-push_entry, else-count-gt1}
use Rattle.pi_engine_steps.proofs.choices.enter_alternatives.Goals as goal

pub returns-then-count-eq0 : goal.returns-then-count-eq0
returns-then-count-eq0 g c = λ node l is_code view goal gs e k es at stands.
    no-branches (world l (g.S.StateStore.seen c.args.run.now.store) g.S.StateStore.order (view_of c.args.run.now.arenas)) c.args.point c.args.step c.args.count view goal gs e k es node (omega (arith, c.if-count-eq0.true)) at stands

pub returns : goal.returns
returns g c = λ node l is_code view goal gs e k es at stands.
    let seen = g.S.StateStore.seen in
    let order = g.S.StateStore.order in
    let run = c.args.run.now in
    let a = view_of run.arenas in
    let b = view_of c.frame_behind.new.self in
    let p = c.args.point in
    let n = c.in_ok-frame.frame in
    let fs = c.frame_behind.new.self.frames in
    let framed_is : framed a fs ≡ b = arenas-framed a b c.frame_behind.ensures.blocks c.frame_behind.ensures.entries c.frame_behind.ensures.level c.frame_behind.ensures.collected in
    let before : World _ = world l (seen run.store) order a in
    let now : Now = Now.Going (record { place = p.place + 1; count = 1; base = p.base; frame = n }) in
    let next = goal_step view l.preds goal e (seen run.store).now.state (with_rest gs k es) in
    let first : c.child-first.result ≡ p.place + 1 =
    branch-found before p c.args.step c.args.count c.child-first.result c.args.code.now goal gs e k es node (omega (arith, c.if-count-eq0.false)) is_code at stands c.child-first.ensures in
    subst (λ r. StandsAfter (world l (seen c.if-count-gt1.run.store) order (view_of c.if-count-gt1.run.arenas)) r next)
    (ap (λ m. Now.Going (record { place = m; count = 1; base = p.base; frame = n })) (sym first) ∙ sym c.one_goal.ensures)
    (elim c.if-count-gt1.branch [
      | then-count-gt1+in_ok-push_entry w ↦
          (let push = w.in_ok-push_entry.ensures in
          let kind : Kind = Kind.Branches w.behind.result w.saturating_sub.result in
          let pushed_is : pushed (framed a fs) push.mark (length a.blocks.slots) p.base n (Kind.Branches w.behind.result (c.args.count - 1)) ≡ view_of w.push_entry.new.run.arenas =
          ap (λ r. pushed r push.mark (length r.blocks.slots) p.base n (Kind.Branches w.behind.result (c.args.count - 1))) framed_is
          ∙ ap (λ m. pushed b push.mark (length b.blocks.slots) p.base n (Kind.Branches w.behind.result m)) (sym w.saturating_sub.ensures) ∙ sym push.arenas in
          subst (λ r. StandsAfter (world l (seen r.store) order (view_of r.arenas)) now next) (sym w.run-is)
          (subst (λ r. StandsAfter (world l (seen w.push_entry.new.run.store) order r) now next) pushed_is
          (some-branches before (seen w.push_entry.new.run.store) push.mark p c.args.step fs n c.args.count w.behind.result c.args.code.now view goal gs e k es node (omega (arith, w.if-count-gt1.true)) is_code (at, c.in_ok-frame.ensures.ok) push.marks
          (behind-found c.args.code.now c.child-first.result p.place w.behind.result first w.behind.ensures) stands)))
      | else-count-gt1 w ↦
          subst (λ r. StandsAfter (world l (seen r.store) order (view_of r.arenas)) now next) (sym w.run-is)
          (subst (λ r. StandsAfter (world l (seen run.store) order r) now next) framed_is
          (one-branch before p c.args.step fs n c.args.count view goal gs e k es node (omega (arith, w.if-count-gt1.false, c.if-count-eq0.false)) (at, c.in_ok-frame.ensures.ok) stands))
    ])
