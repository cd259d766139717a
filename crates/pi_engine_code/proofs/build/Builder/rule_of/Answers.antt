use Rattle.std.proofs.Common.{refl, sym, subst, arith}
use Rattle.pi_core.specs.CoreTree.{pattern_trees, clause_tree, pred_tree}
use Rattle.pi_engine_code.specs.Laid.{AreResolved}
use Rattle.pi_engine_code.specs.LaidRules.{TestsAt}
use Rattle.pi_engine_code.proofs.LaidRuleLemmas.{rule-laid}
use Rattle.pi_engine_code.proofs.build.Builder.rule_of.Goals as goal

pub returns-clause-laid : goal.returns-clause-laid
returns-clause-laid g c = λ all numbered acyclic.
    rule-laid c.args.self.now.numbers all (g.S.StateStore.seen c.args.store.now) (g.S.StateStore.seen c.add_tests.new.store) (g.S.StateStore.seen c.guard_of.new.store) (g.S.StateStore.seen c.add_body.new.store) c.args.code.now c.add_tests.new.code
    c.guard_of.new.code c.add_body.new.code (pred_tree c.args.pred.now) (clause_tree c.args.clause.now)
    (record { tests = c.in_ok-tests.tests; is_deep = c.in_ok-is_deep.is_deep; slots = c.args.clause.now.slots; leaves_others = c.leaves_others.result; guard = c.in_ok-guard.guard; body = c.in_ok-body.body; goals = c.in_ok-body.goals }) refl
    c.leaves_others.ensures
    (subst (λ ps. TestsAt (g.S.StateStore.seen c.add_tests.new.store).names c.add_tests.new.code.tests.items c.in_ok-is_deep.is_deep c.in_ok-tests.tests (pattern_trees ps)) c.deref.ensures.value
    (subst (λ n. TestsAt (g.S.StateStore.seen c.add_tests.new.store).names c.add_tests.new.code.tests.items c.in_ok-is_deep.is_deep n (pattern_trees c.deref.result.now)) (omega (arith, c.in_ok-tests.ensures, c.len.ensures))
    (c.in_ok-is_deep.ensures.tests acyclic)))
    c.in_ok-guard.ensures.adds (c.in_ok-guard.ensures.laid all numbered) c.in_ok-body.ensures.adds (c.in_ok-body.ensures.body all numbered) (c.in_ok-body.ensures.behind all numbered)

pub returns-clause-resolved : goal.returns-clause-resolved
returns-clause-resolved g c = λ all numbered are.
    c.in_ok-body.ensures.resolved all numbered (c.in_ok-guard.ensures.resolved all numbered (subst (λ r. AreResolved all r.items) (sym c.in_ok-is_deep.ensures.steps) are))
