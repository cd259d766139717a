use Rattle.std.proofs.Common.{◌≡◌, Some}
use Rattle.pi_constraints.specs.State.{next}
use Rattle.pi_terms.specs.Variables.{IsGround}
use Rattle.pi_constraints.specs.Store.{Stays}
use Rattle.pi_engine_code.proofs.LaidTerms.{placed-ground, placed-parts}
use Rattle.pi_engine_code.proofs.build.terms.operand_of.Goals as goal

pub returns-then-is_ground : goal.returns-then-is_ground
returns-then-is_ground g c =
    let ground : IsGround c.args.term.now = c.is_ground.ensures c.if-is_ground.true in
    let placed : Stays (g.S.StateStore.seen c.args.store.now) (g.S.StateStore.seen c.place.new.s) × ((g.S.StateStore.seen c.place.new.s).now.terms c.in_ok-place.field-0.number ≡ Some c.args.term.now) =
    placed-ground (g.S.StateStore.seen c.args.store.now) (g.S.StateStore.seen c.place.new.s) c.in_ok-place.field-0 c.args.term.now (next (g.S.StateStore.seen c.args.store.now).now.state) ground c.in_ok-place.ensures.ok in
    record {
      keeps = placed.0.keeps;
      adds = placed-parts (g.S.StateStore.seen c.args.store.now) (g.S.StateStore.seen c.place.new.s) c.args.code.now placed.0;
      is = λ preds. (placed.1, ground);
    }
