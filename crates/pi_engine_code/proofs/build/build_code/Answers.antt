use Rattle.std.proofs.Common.{◌++◌, List, sym, ◌∙◌, ap, subst}
use Rattle.pi_core.specs.declared.core_program.CorePred.{CorePred}
use Rattle.pi_engine_code.specs.declared.code.Code.{Code}
use Rattle.pi_engine_code.specs.Laid.{tables_for}
use Rattle.pi_engine_code.specs.LaidRules.{IsFilled, in_tables}
use Rattle.pi_engine_code.proofs.LaidWhole.{filled-with}
use Rattle.pi_engine_code.proofs.build.build_code.Goals as goal

pub returns-clause-source : goal.returns-clause-source
returns-clause-source g c = ap (λ r. r.now.preds ++ c.args.helpers) c.in_ok-place.ensures.core ∙ ap (λ q. q.preds ++ c.args.helpers) c.no_code-code.ensures.core

pub returns-clause-filled : goal.returns-clause-filled
returns-clause-filled g c = λ acyclic.
    let made : Code = c.fill.new.code in
    let whole : Code =
    record {
      core = made.core;
      helpers = c.args.helpers;
      steps = made.steps;
      operands = made.operands;
      parts = made.parts;
      names = made.names;
      tests = made.tests;
      rules = made.rules;
      predicates = made.predicates;
      callables = made.callables;
      keys = made.keys;
    } in
    subst
    (λ (all : List CorePred). IsFilled (in_tables all (tables_for all (g.S.StateStore.seen c.fill.new.store).now.terms whole) (g.S.StateStore.seen c.fill.new.store).names whole) c.args.goal.now c.args.slots c.in_ok-place.place)
    (ap (λ ps. ps ++ c.as_slice.result.now) c.as_slice-preds.ensures
    ∙ (ap (λ r. c.args.core.now.preds ++ r) c.as_slice.ensures
    ∙ (ap (λ q. q.preds ++ c.args.helpers) (sym c.no_code-code.ensures.core) ∙ ap (λ r. r.now.preds ++ c.args.helpers) (sym c.in_ok-place.ensures.core))))
    (filled-with (g.S.StateStore.seen c.fill.new.store) made whole (c.as_slice-preds.result.now ++ c.as_slice.result.now) c.args.goal.now c.args.slots c.in_ok-place.place
    (c.in_ok-place.ensures.filled (record { steps = c.no_code-code.ensures.steps; predicates = c.no_code-code.ensures.predicates }) acyclic))
