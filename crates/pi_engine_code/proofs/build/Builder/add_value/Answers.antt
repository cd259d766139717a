use Rattle.std.proofs.Common.{sym, subst}
use Rattle.pi_engine_code.specs.Laid.{AreResolved}
use Rattle.pi_engine_code.proofs.LaidOperands.{value-laid, value-resolved}
use Rattle.pi_engine_code.proofs.build.Builder.add_value.Goals as goal

pub returns-clause-laid : goal.returns-clause-laid
returns-clause-laid g c =
    value-laid (g.S.StateStore.seen c.args.store.now) (g.S.StateStore.seen c.operand_of.new.store) c.args.code.now c.operand_of.new.code
    (record {
      core = c.operand_of.new.code.core;
      helpers = c.operand_of.new.code.helpers;
      steps = c.push.new.self;
      operands = c.operand_of.new.code.operands;
      parts = c.operand_of.new.code.parts;
      names = c.operand_of.new.code.names;
      tests = c.operand_of.new.code.tests;
      rules = c.operand_of.new.code.rules;
      predicates = c.operand_of.new.code.predicates;
      callables = c.operand_of.new.code.callables;
      keys = c.operand_of.new.code.keys;
    }) c.args.shape.first_slot c.args.shape.slots c.args.value.now c.in_ok-operand_of.field-0 c.step_of.result c.in_ok-operand_of.ensures.adds c.in_ok-operand_of.ensures.is c.step_of.ensures.node c.step_of.ensures.first c.step_of.ensures.slots
    c.in_ok-push.ensures.items

pub returns-clause-resolved : goal.returns-clause-resolved
returns-clause-resolved g c = λ preds are.
    value-resolved preds c.operand_of.new.code.steps.items c.push.new.self.items c.step_of.result c.in_ok-operand_of.field-0 c.in_ok-push.ensures.items c.step_of.ensures.node
    (subst (λ r. AreResolved preds r.items) (sym c.in_ok-operand_of.ensures.adds.steps) are)
