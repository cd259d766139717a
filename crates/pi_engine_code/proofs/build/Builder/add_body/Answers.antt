use Rattle.std.proofs.Common.{false, sym, ap, subst, is_none}
use Rattle.pi_engine_code.specs.Laid.{IsLaid, tables_for, layout}
use Rattle.pi_engine_code.proofs.LaidRuleLemmas.{laid-then}
use Rattle.pi_engine_code.proofs.build.Builder.add_body.Goals as goal

pub returns-in_ok-add_value-in-Some-clause-body : goal.returns-in_ok-add_value-in-Some-clause-body
returns-in_ok-add_value-in-Some-clause-body g c = λ all numbered.
    subst (IsLaid (layout all (tables_for all (g.S.StateStore.seen c.add_value.new.store).now.terms c.add_value.new.code) c.add_value.new.code.steps.items c.args.shape.first_slot c.args.shape.slots) c.in_ok-body-in-Some.body c.args.clause.now.body)
    (sym (ap is_none c.in-Some.is))
    (laid-then all (g.S.StateStore.seen c.add_goal-in-Some.new.store) (g.S.StateStore.seen c.add_value.new.store) c.add_goal-in-Some.new.code c.add_value.new.code c.args.shape.first_slot c.args.shape.slots c.in_ok-body-in-Some.body c.args.clause.now.body false
    c.in_ok-add_value-in-Some.ensures.adds.adds (c.in_ok-body-in-Some.ensures.laid all numbered))

pub returns-in_ok-add_value-in-Some-clause-resolved : goal.returns-in_ok-add_value-in-Some-clause-resolved
returns-in_ok-add_value-in-Some-clause-resolved g c = λ all numbered are. c.in_ok-add_value-in-Some.ensures.resolved all (c.in_ok-body-in-Some.ensures.resolved all numbered are)
