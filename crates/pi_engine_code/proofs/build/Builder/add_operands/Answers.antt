use Rattle.std.proofs.Common.{arith}
use Rattle.pi_unify.proofs.KeepsLemmas.{keeps_then}
use Rattle.pi_engine_code.proofs.LaidOperands.{no-operands-added, operand-added, all-operands-added}
use Rattle.pi_engine_code.proofs.build.Builder.add_operands.Goals as goal

pub loop-arg-init : goal.loop-arg-init
loop-arg-init g c = no-operands-added (g.S.StateStore.seen c.args.store.now) c.args.code.now c.args.args.now

pub returns-in_err-operand-clause-keeps : goal.returns-in_err-operand-clause-keeps
returns-in_err-operand-clause-keeps g c =
    keeps_then (g.S.StateStore.seen c.args.store.now) (g.S.StateStore.seen c.loop-arg.store) (g.S.StateStore.seen c.operand_of.new.store) c.loop-arg.invariant.adds.adds.stays.keeps c.operand_of.ensures.keeps

pub returns-in_err-push-clause-keeps : goal.returns-in_err-push-clause-keeps
returns-in_err-push-clause-keeps g c =
    keeps_then (g.S.StateStore.seen c.args.store.now) (g.S.StateStore.seen c.loop-arg.store) (g.S.StateStore.seen c.operand_of.new.store) c.loop-arg.invariant.adds.adds.stays.keeps c.operand_of.ensures.keeps

pub loop-arg-preserved : goal.loop-arg-preserved
loop-arg-preserved g c =
    operand-added (g.S.StateStore.seen c.args.store.now) (g.S.StateStore.seen c.loop-arg.store) (g.S.StateStore.seen c.operand_of.new.store) c.args.code.now c.loop-arg.code c.operand_of.new.code
    (record {
      core = c.operand_of.new.code.core;
      helpers = c.operand_of.new.code.helpers;
      steps = c.operand_of.new.code.steps;
      operands = c.push.new.self;
      parts = c.operand_of.new.code.parts;
      names = c.operand_of.new.code.names;
      tests = c.operand_of.new.code.tests;
      rules = c.operand_of.new.code.rules;
      predicates = c.operand_of.new.code.predicates;
      callables = c.operand_of.new.code.callables;
      keys = c.operand_of.new.code.keys;
    }) c.args.args.now c.loop-arg.arg-index c.arg-item.result c.in_ok-operand.operand c.loop-arg.invariant c.loop-arg-test.true c.arg-item.is c.in_ok-operand.ensures.adds c.in_ok-operand.ensures.is c.in_ok-push.ensures.items

pub returns-clause-keeps : goal.returns-clause-keeps
returns-clause-keeps g c = c.loop-arg.invariant.adds.adds.stays.keeps

pub returns-clause-adds : goal.returns-clause-adds
returns-clause-adds g c = c.loop-arg.invariant.adds

pub returns-clause-are : goal.returns-clause-are
returns-clause-are g c =
    all-operands-added (g.S.StateStore.seen c.args.store.now) (g.S.StateStore.seen c.loop-arg.store) c.args.code.now c.loop-arg.code c.args.args.now c.loop-arg.arg-index c.in_ok-first.first c.loop-arg.invariant c.loop-arg-test.false
    (omega (arith, c.in_ok-first.ensures, c.len.ensures))
