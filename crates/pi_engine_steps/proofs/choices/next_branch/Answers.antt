use Rattle.std.proofs.Common.{sym, ap, subst, arith}
use Rattle.pi_engine_arenas.specs.declared.run.Now.{Now}
use Rattle.pi_engine_arenas.specs.declared.arenas.Kind.{Kind}
use Rattle.pi_engine_arenas.specs.Arenas.{view_of}
use Rattle.pi_engine_stands.specs.Stands.{World, world, Stands}
use Rattle.pi_meaning.specs.Machine.Step.{branch}
use Rattle.pi_engine_stands.proofs.BackStand.{drops-newest}
use Rattle.pi_engine_stands.proofs.CallEntries.{arenas-renamed}
use Rattle.pi_engine_stands.proofs.BranchesStand.{last-branch, more-branches}
use Rattle.pi_engine_steps.proofs.choices.next_branch.Goals.{then-count-gt1, else-count-gt1}
use Rattle.pi_engine_steps.proofs.choices.next_branch.Goals as goal

pub returns : goal.returns
returns g c = λ l is_code named gs b es it.
    let seen = g.S.StateStore.seen in
    let order = g.S.StateStore.order in
    let run = c.args.run.now in
    let back = c.args.back in
    let before : World _ = world l (seen run.store) order (view_of run.arenas) in
    let now : Now = Now.Going (record { place = c.args.place; count = 1; base = back.base; frame = back.frame }) in
    subst (λ n. Stands (world l (seen c.if-count-gt1.run.store) order (view_of c.if-count-gt1.run.arenas)) n (branch gs b es)) (sym c.one_goal.ensures)
    (elim c.if-count-gt1.branch [
      | then-count-gt1 w ↦
          subst (λ r. Stands (world l (seen r.store) order (view_of r.arenas)) now (branch gs b es)) (sym w.run-is)
          (more-branches before (view_of w.set_newest.new.self) back c.args.place c.args.count w.behind.result c.args.code.now (Kind.Branches w.behind.result w.saturating_sub.result) gs b es named (omega (arith, w.if-count-gt1.true)) is_code w.behind.ensures
          (ap (Kind.Branches w.behind.result) w.saturating_sub.ensures)
          (λ x newest. arenas-renamed (view_of run.arenas) (view_of w.set_newest.new.self) x (Kind.Branches w.behind.result w.saturating_sub.result) (w.set_newest.ensures.entries x newest) w.set_newest.ensures.blocks w.set_newest.ensures.frames w.set_newest.ensures.level w.set_newest.ensures.collected)
          it)
      | else-count-gt1 w ↦
          subst (λ r. Stands (world l (seen r.store) order (view_of r.arenas)) now (branch gs b es)) (sym w.run-is)
          (last-branch before (view_of w.pop.new.self) back c.args.place c.args.count gs b es named (omega (arith, w.if-count-gt1.false)) it
          (drops-newest (view_of run.arenas) (view_of w.pop.new.self) w.pop.ensures.entries w.pop.ensures.kept w.pop.ensures.slots w.pop.ensures.keeps w.pop.ensures.collected w.pop.ensures.frames w.pop.ensures.level))
    ])
