use Rattle.std.proofs.Common.{arith}
use Rattle.pi_unify.proofs.KeepsLemmas.{keeps_then}
use Rattle.pi_engine_code.proofs.LaidTerms.{no-parts-added, part-added, all-parts-added}
use Rattle.pi_engine_code.proofs.build.terms.add_parts.Goals as goal

pub loop-i-init : goal.loop-i-init
loop-i-init g c = no-parts-added (g.S.StateStore.seen c.args.store.now) c.args.code.now c.args.term.now

pub returns-in_err-part-clause-keeps : goal.returns-in_err-part-clause-keeps
returns-in_err-part-clause-keeps g c =
    keeps_then (g.S.StateStore.seen c.args.store.now) (g.S.StateStore.seen c.loop-i.store) (g.S.StateStore.seen c.part_of.new.store) c.loop-i.invariant.adds.adds.stays.keeps c.part_of.ensures.stays.keeps

pub returns-in_err-push-clause-keeps : goal.returns-in_err-push-clause-keeps
returns-in_err-push-clause-keeps g c =
    keeps_then (g.S.StateStore.seen c.args.store.now) (g.S.StateStore.seen c.loop-i.store) (g.S.StateStore.seen c.part_of.new.store) c.loop-i.invariant.adds.adds.stays.keeps c.part_of.ensures.stays.keeps

pub loop-i-preserved : goal.loop-i-preserved
loop-i-preserved g c =
    part-added (g.S.StateStore.seen c.args.store.now) (g.S.StateStore.seen c.loop-i.store) (g.S.StateStore.seen c.part_of.new.store) c.args.code.now c.loop-i.code
    (record {
      core = c.loop-i.code.core;
      helpers = c.loop-i.code.helpers;
      steps = c.loop-i.code.steps;
      operands = c.loop-i.code.operands;
      parts = c.push.new.self;
      names = c.part_of.new.names;
      tests = c.loop-i.code.tests;
      rules = c.loop-i.code.rules;
      predicates = c.loop-i.code.predicates;
      callables = c.loop-i.code.callables;
      keys = c.loop-i.code.keys;
    }) c.args.term.now c.loop-i.i c.in_ok-part.part c.head_at.result c.loop-i.invariant c.head_at.ensures c.part_of.ensures.stays c.part_of.ensures.names c.in_ok-part.ensures.is c.in_ok-push.ensures.items

pub returns-clause-keeps : goal.returns-clause-keeps
returns-clause-keeps g c = c.loop-i.invariant.adds.adds.stays.keeps

pub returns-clause-adds : goal.returns-clause-adds
returns-clause-adds g c = c.loop-i.invariant.adds

pub returns-clause-long : goal.returns-clause-long
returns-clause-long g c =
    (all-parts-added (g.S.StateStore.seen c.args.store.now) (g.S.StateStore.seen c.loop-i.store) c.args.code.now c.loop-i.code c.args.term.now c.loop-i.i c.loop-i.invariant (omega (arith, c.cells-i-end.ensures))).0

pub returns-clause-are : goal.returns-clause-are
returns-clause-are g c =
    (all-parts-added (g.S.StateStore.seen c.args.store.now) (g.S.StateStore.seen c.loop-i.store) c.args.code.now c.loop-i.code c.args.term.now c.loop-i.i c.loop-i.invariant (omega (arith, c.cells-i-end.ensures))).1
