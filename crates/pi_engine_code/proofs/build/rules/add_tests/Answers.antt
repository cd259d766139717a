use Rattle.std.proofs.Common.{◌≡◌, Bool, true, false, ◌||◌, refl}
use Rattle.pi_unify.proofs.KeepsLemmas.{stays_then}
use Rattle.pi_engine_code.proofs.LaidTests.{no-tests-added, test-added, all-tests-added}
use Rattle.pi_engine_code.proofs.build.rules.add_tests.Goals as goal

pub loop-pattern-init : goal.loop-pattern-init
loop-pattern-init g c = no-tests-added (g.S.StateStore.seen c.args.store.now) c.args.code.now c.args.head.now

pub returns-in_err-test-clause-stays : goal.returns-in_err-test-clause-stays
returns-in_err-test-clause-stays g c =
    stays_then (g.S.StateStore.seen c.args.store.now) (g.S.StateStore.seen c.loop-pattern.store) (g.S.StateStore.seen c.test_of.new.store) (g.S.StateStore.seen c.args.store.now).now.state c.loop-pattern.invariant.stays c.test_of.ensures.stays

pub returns-in_err-test-clause-steps : goal.returns-in_err-test-clause-steps
returns-in_err-test-clause-steps g c = c.loop-pattern.invariant.steps

pub returns-in_err-push-clause-stays : goal.returns-in_err-push-clause-stays
returns-in_err-push-clause-stays g c =
    stays_then (g.S.StateStore.seen c.args.store.now) (g.S.StateStore.seen c.loop-pattern.store) (g.S.StateStore.seen c.test_of.new.store) (g.S.StateStore.seen c.args.store.now).now.state c.loop-pattern.invariant.stays c.test_of.ensures.stays

pub returns-in_err-push-clause-steps : goal.returns-in_err-push-clause-steps
returns-in_err-push-clause-steps g c = c.loop-pattern.invariant.steps

neither : (a b : Bool) → (a || b) ≡ false → (a ≡ false) × (b ≡ false)
neither true b h = absurd (cc)
neither false b h = (refl, h)

pub loop-pattern-preserved : goal.loop-pattern-preserved
loop-pattern-preserved g c =
    test-added (g.S.StateStore.seen c.args.store.now) (g.S.StateStore.seen c.loop-pattern.store) (g.S.StateStore.seen c.test_of.new.store) c.args.code.now c.loop-pattern.code
    (record {
      core = c.loop-pattern.code.core;
      helpers = c.loop-pattern.code.helpers;
      steps = c.loop-pattern.code.steps;
      operands = c.loop-pattern.code.operands;
      parts = c.loop-pattern.code.parts;
      names = c.loop-pattern.code.names;
      tests = c.push.new.self;
      rules = c.loop-pattern.code.rules;
      predicates = c.loop-pattern.code.predicates;
      callables = c.loop-pattern.code.callables;
      keys = c.loop-pattern.code.keys;
    }) c.args.head.now c.loop-pattern.is_deep c.is_deep_test-is_deep.result (c.loop-pattern.is_deep || c.is_deep_test-is_deep.result) c.loop-pattern.pattern-index c.pattern-item.result c.in_ok-test.test c.loop-pattern.invariant c.loop-pattern-test.true c.pattern-item.is c.test_of.ensures.stays c.in_ok-test.ensures.is
    c.is_deep_test-is_deep.ensures (neither c.loop-pattern.is_deep c.is_deep_test-is_deep.result) c.in_ok-push.ensures.items

pub returns-clause-stays : goal.returns-clause-stays
returns-clause-stays g c = c.loop-pattern.invariant.stays

pub returns-clause-adds : goal.returns-clause-adds
returns-clause-adds g c = c.loop-pattern.invariant.adds

pub returns-clause-steps : goal.returns-clause-steps
returns-clause-steps g c = c.loop-pattern.invariant.steps

pub returns-clause-tests : goal.returns-clause-tests
returns-clause-tests g c =
    all-tests-added (g.S.StateStore.seen c.args.store.now) (g.S.StateStore.seen c.loop-pattern.store) c.args.code.now c.loop-pattern.code c.args.head.now c.loop-pattern.is_deep c.loop-pattern.pattern-index c.loop-pattern.invariant c.loop-pattern-test.false
