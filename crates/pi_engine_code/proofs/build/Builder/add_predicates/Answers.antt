use Rattle.std.proofs.Common.{◌+◌, length, ◌∙◌, ap, arith}
use Rattle.pi_unify.proofs.KeepsLemmas.{keeps_then}
use Rattle.pi_engine_code.proofs.LaidRuleLemmas.{no-predicates-added, predicate-added, all-predicates-added}
use Rattle.pi_engine_code.proofs.build.Builder.add_predicates.Goals as goal

pub loop-pred-init : goal.loop-pred-init
loop-pred-init g c = no-predicates-added c.args.self.now.numbers (g.S.StateStore.seen c.args.store.now) c.args.code.now c.args.preds.now

pub returns-in_err-predicate-clause-keeps : goal.returns-in_err-predicate-clause-keeps
returns-in_err-predicate-clause-keeps g c =
    keeps_then (g.S.StateStore.seen c.args.store.now) (g.S.StateStore.seen c.loop-pred.store) (g.S.StateStore.seen c.add_rules.new.store) c.loop-pred.invariant.adds.stays.keeps c.add_rules.ensures.keeps

pub returns-in_err-push-clause-keeps : goal.returns-in_err-push-clause-keeps
returns-in_err-push-clause-keeps g c =
    keeps_then (g.S.StateStore.seen c.args.store.now) (g.S.StateStore.seen c.loop-pred.store) (g.S.StateStore.seen c.add_rules.new.store) c.loop-pred.invariant.adds.stays.keeps c.add_rules.ensures.keeps

pub loop-pred-preserved : goal.loop-pred-preserved
loop-pred-preserved g c =
    predicate-added c.args.self.now.numbers (g.S.StateStore.seen c.args.store.now) (g.S.StateStore.seen c.loop-pred.store) (g.S.StateStore.seen c.add_rules.new.store) c.args.code.now c.loop-pred.code c.add_rules.new.code
    (record {
      core = c.add_rules.new.code.core;
      helpers = c.add_rules.new.code.helpers;
      steps = c.add_rules.new.code.steps;
      operands = c.add_rules.new.code.operands;
      parts = c.add_rules.new.code.parts;
      names = c.add_rules.new.code.names;
      tests = c.add_rules.new.code.tests;
      rules = c.add_rules.new.code.rules;
      predicates = c.push.new.self;
      callables = c.add_rules.new.code.callables;
      keys = c.add_rules.new.code.keys;
    }) c.args.preds.now c.loop-pred.pred-index c.pred-item.result c.in_ok-predicate.predicate c.loop-pred.invariant c.loop-pred-test.true c.pred-item.is c.in_ok-predicate.ensures.adds c.in_ok-predicate.ensures.laid c.in_ok-predicate.ensures.resolved
    c.in_ok-push.ensures.items

pub returns-clause-keeps : goal.returns-clause-keeps
returns-clause-keeps g c = c.loop-pred.invariant.adds.stays.keeps

pub returns-clause-adds : goal.returns-clause-adds
returns-clause-adds g c = c.loop-pred.invariant.adds

pub returns-clause-long : goal.returns-clause-long
returns-clause-long g c = c.loop-pred.invariant.long ∙ ap (λ n. length c.args.code.now.predicates.items + n) (omega (arith, c.loop-pred-test.false))

pub returns-clause-laid : goal.returns-clause-laid
returns-clause-laid g c =
    all-predicates-added c.args.self.now.numbers (g.S.StateStore.seen c.args.store.now) (g.S.StateStore.seen c.loop-pred.store) c.args.code.now c.loop-pred.code c.args.preds.now c.loop-pred.pred-index c.loop-pred.invariant c.loop-pred-test.false

pub returns-clause-resolved : goal.returns-clause-resolved
returns-clause-resolved g c = c.loop-pred.invariant.resolved
