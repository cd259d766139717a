use Rattle.std.proofs.Common.{◌+◌, [], ◌∷◌, subst, sym}
use Rattle.pi_engine_arenas.specs.declared.run.Now.{Now}
use Rattle.pi_engine_arenas.specs.declared.frames.Point.{Point}
use Rattle.pi_engine_arenas.specs.Arenas.{view_of}
use Rattle.pi_meaning.specs.Machine.Step.{guarding, back_to, trial}
use Rattle.pi_engine_stands.specs.Stands.{World, world, Stands}
use Rattle.pi_engine_stands.proofs.LevelStands.{arenas-opened}
use Rattle.pi_engine_stands.proofs.RulesTaken.{arity-of, call-fits}
use Rattle.pi_engine_stands.proofs.GuardsEntered.{guard-entered}
use Rattle.pi_engine_steps.proofs.rules.enter_guard.Goals as goal

pub returns : goal.returns
returns g c = λ l rule called clause cs s k es e applies is_guard same.
    let seen = g.S.StateStore.seen in
    let order = g.S.StateStore.order in
    let run = c.args.run.now in
    let call = c.args.call.now in
    let number = c.args.number in
    let again = c.args.is_again in
    let predicate = c.args.predicate.now in
    let before : World _ = world l (seen run.store) order (view_of run.arenas) in
    let b = view_of c.keep.new.run.arenas in
    let point : Point = record { place = c.args.guard; count = 1; base = call.base; frame = 0 } in
    subst (λ r. Stands (world l (seen c.keep.new.run.store) order (view_of c.open.new.self)) r (guarding clause.guard (trial called clause cs (back_to [] s k) es) e)) (sym c.one_goal.ensures)
    (subst (λ a. Stands (world l (seen c.keep.new.run.store) order a) (Now.Going point) (guarding clause.guard (trial called clause cs (back_to [] s k) es) e))
    (arenas-opened b (view_of c.open.new.self) c.open.ensures.frames c.open.ensures.blocks c.open.ensures.entries c.open.ensures.level c.open.ensures.collected)
    (guard-entered before (seen c.keep.new.run.store) b call.predicate call.base call.frame number (call.base + predicate.arity) c.args.guard called clause cs s k es again predicate rule e applies is_guard same
    (arity-of before call.predicate call.base call.frame number called (clause ∷ cs) s k es again predicate applies.is applies.is_predicate)
    (c.in_ok-keep.ensures (call-fits before call.predicate call.base call.frame number called (clause ∷ cs) s k es again predicate applies.is applies.is_predicate))))
