use Rattle.std.proofs.Common.{◌+◌, length, sym, ◌∙◌, ap, subst, arith, [], ◌∷◌, ◌++◌}
use Rattle.std.specs.Vec.{vec_len}
use Rattle.pi_core.specs.GoalCells.{kind_shown}
use Rattle.pi_engine_code.specs.Laid.{IsNodeOf, tables_for}
use Rattle.pi_unify.proofs.KeepsLemmas.{keeps_then}
use Rattle.pi_engine_code.proofs.LaidSteps.{no-steps-added, step-added, all-steps-added}
use Rattle.pi_engine_code.proofs.build.Builder.add_steps.Goals as goal

pub loop-i-init : goal.loop-i-init
loop-i-init g c =
    no-steps-added c.args.self.now.numbers (g.S.StateStore.seen c.args.store.now) c.args.code.now c.args.shape.first_slot c.args.shape.slots c.args.goal.now c.args.is_last c.push.new.self.items
    (c.in_ok-push.ensures.items ∙ ap (λ r. r ++ c.args.is_last ∷ []) c.new-marks.ensures.items)

pub returns-in_err-push_marks-clause-keeps : goal.returns-in_err-push_marks-clause-keeps
returns-in_err-push_marks-clause-keeps g c = c.loop-i.invariant.adds.adds.stays.keeps

pub returns-in_err-node-clause-keeps : goal.returns-in_err-node-clause-keeps
returns-in_err-node-clause-keeps g c =
    keeps_then (g.S.StateStore.seen c.args.store.now) (g.S.StateStore.seen c.loop-i.store) (g.S.StateStore.seen c.node_of.new.store) c.loop-i.invariant.adds.adds.stays.keeps c.node_of.ensures.keeps

pub returns-in_err-short-clause-keeps : goal.returns-in_err-short-clause-keeps
returns-in_err-short-clause-keeps g c =
    keeps_then (g.S.StateStore.seen c.args.store.now) (g.S.StateStore.seen c.loop-i.store) (g.S.StateStore.seen c.node_of.new.store) c.loop-i.invariant.adds.adds.stays.keeps c.node_of.ensures.keeps

pub returns-in_err-push-2-clause-keeps : goal.returns-in_err-push-2-clause-keeps
returns-in_err-push-2-clause-keeps g c =
    keeps_then (g.S.StateStore.seen c.args.store.now) (g.S.StateStore.seen c.loop-i.store) (g.S.StateStore.seen c.node_of.new.store) c.loop-i.invariant.adds.adds.stays.keeps c.node_of.ensures.keeps

pub loop-i-preserved : goal.loop-i-preserved
loop-i-preserved g c =
    step-added c.args.self.now.numbers (g.S.StateStore.seen c.args.store.now) (g.S.StateStore.seen c.loop-i.store) (g.S.StateStore.seen c.node_of.new.store) c.args.code.now c.loop-i.code c.node_of.new.code
    (record {
      core = c.node_of.new.code.core;
      helpers = c.node_of.new.code.helpers;
      steps = c.push-in-loop-i.new.self;
      operands = c.node_of.new.code.operands;
      parts = c.node_of.new.code.parts;
      names = c.node_of.new.code.names;
      tests = c.node_of.new.code.tests;
      rules = c.node_of.new.code.rules;
      predicates = c.node_of.new.code.predicates;
      callables = c.node_of.new.code.callables;
      keys = c.node_of.new.code.keys;
    }) c.args.shape.first_slot c.args.shape.slots c.args.goal.now c.args.is_last c.unwrap_or-is_last.result c.loop-i.marks.items c.pop.new.self.items c.push_marks.new.marks.items (vec_len c.loop-i.marks) c.loop-i.i c.node-shown.result c.pop.result
    c.step_of.result (omega (arith, c.loop-i-test.true, c.nodes-i-end.ensures)) c.loop-i.invariant (omega arith) c.pop.ensures.rest c.pop.ensures.value c.unwrap_or-is_last.ensures c.node-shown.ensures.shows c.node-shown.ensures.has c.in_ok-push_marks.ensures
    c.in_ok-node.ensures.adds (λ preds numbered. subst (IsNodeOf preds (tables_for preds (g.S.StateStore.seen c.node_of.new.store).now.terms c.node_of.new.code) (kind_shown c.node-shown.result)) (sym c.step_of.ensures.node) (c.in_ok-node.ensures.is preds numbered)) (c.step_of.ensures.size ∙ c.in_ok-short.ensures ∙ c.requires.sizes_are c.loop-i.i (omega arith) (omega (arith, c.loop-i-test.true, c.nodes-i-end.ensures))) c.step_of.ensures.first c.step_of.ensures.slots
    c.step_of.ensures.last c.in_ok-push-2.ensures.items

pub returns-clause-keeps : goal.returns-clause-keeps
returns-clause-keeps g c = c.loop-i.invariant.adds.adds.stays.keeps

pub returns-clause-adds : goal.returns-clause-adds
returns-clause-adds g c = c.loop-i.invariant.adds

pub returns-clause-long : goal.returns-clause-long
returns-clause-long g c = c.loop-i.invariant.long ∙ ap (λ n. length c.args.code.now.steps.items + n) (omega (arith, c.loop-i-test.false, c.nodes-i-end.ensures))

pub returns-clause-are : goal.returns-clause-are
returns-clause-are g c =
    all-steps-added c.args.self.now.numbers (g.S.StateStore.seen c.args.store.now) (g.S.StateStore.seen c.loop-i.store) c.args.code.now c.loop-i.code c.args.shape.first_slot c.args.shape.slots c.args.goal.now c.args.is_last c.loop-i.marks.items c.loop-i.i
    c.loop-i.invariant (omega (arith, c.loop-i-test.false, c.nodes-i-end.ensures))

pub returns-clause-resolved : goal.returns-clause-resolved
returns-clause-resolved g c = c.loop-i.invariant.resolved
