use Rattle.std.proofs.Common.{◌≡◌, ◌+◌, length, map, refl, sym, ◌∙◌, ap, subst, arith}
use Rattle.std.proofs.lemmas.List.{length-map}
use Rattle.pi_core.specs.CoreTree.{pred_tree, clause_tree}
use Rattle.pi_unify.proofs.KeepsLemmas.{keeps_then}
use Rattle.pi_engine_code.specs.Laid.{tables_for}
use Rattle.pi_engine_code.specs.LaidRules.{RulesAt, in_tables}
use Rattle.pi_engine_code.proofs.LaidRuleLemmas.{no-rules-added, rule-added, all-rules-added}
use Rattle.pi_engine_code.proofs.build.Builder.add_rules.Goals as goal

pub loop-clause-init : goal.loop-clause-init
loop-clause-init g c = no-rules-added c.args.self.now.numbers (g.S.StateStore.seen c.args.store.now) c.args.code.now (pred_tree c.args.pred.now) c.as_slice-clause-items.result.now

pub returns-in_err-rule-clause-keeps : goal.returns-in_err-rule-clause-keeps
returns-in_err-rule-clause-keeps g c =
    keeps_then (g.S.StateStore.seen c.args.store.now) (g.S.StateStore.seen c.loop-clause.store) (g.S.StateStore.seen c.rule_of.new.store) c.loop-clause.invariant.adds.adds.stays.keeps c.rule_of.ensures.keeps

pub returns-in_err-push-clause-keeps : goal.returns-in_err-push-clause-keeps
returns-in_err-push-clause-keeps g c =
    keeps_then (g.S.StateStore.seen c.args.store.now) (g.S.StateStore.seen c.loop-clause.store) (g.S.StateStore.seen c.rule_of.new.store) c.loop-clause.invariant.adds.adds.stays.keeps c.rule_of.ensures.keeps

pub loop-clause-preserved : goal.loop-clause-preserved
loop-clause-preserved g c =
    rule-added c.args.self.now.numbers (g.S.StateStore.seen c.args.store.now) (g.S.StateStore.seen c.loop-clause.store) (g.S.StateStore.seen c.rule_of.new.store) c.args.code.now c.loop-clause.code c.rule_of.new.code
    (record {
      core = c.rule_of.new.code.core;
      helpers = c.rule_of.new.code.helpers;
      steps = c.rule_of.new.code.steps;
      operands = c.rule_of.new.code.operands;
      parts = c.rule_of.new.code.parts;
      names = c.rule_of.new.code.names;
      tests = c.rule_of.new.code.tests;
      rules = c.push.new.self;
      predicates = c.rule_of.new.code.predicates;
      callables = c.rule_of.new.code.callables;
      keys = c.rule_of.new.code.keys;
    }) (pred_tree c.args.pred.now) c.as_slice-clause-items.result.now c.loop-clause.clause-index c.clause-item.result c.in_ok-rule.rule c.loop-clause.invariant c.loop-clause-test.true c.clause-item.is c.in_ok-rule.ensures.adds c.in_ok-rule.ensures.laid
    c.in_ok-rule.ensures.resolved c.in_ok-push.ensures.items

pub returns-in_err-short-clause-keeps : goal.returns-in_err-short-clause-keeps
returns-in_err-short-clause-keeps g c = c.loop-clause.invariant.adds.adds.stays.keeps

pub returns-clause-keeps : goal.returns-clause-keeps
returns-clause-keeps g c = c.loop-clause.invariant.adds.adds.stays.keeps

pub returns-clause-adds : goal.returns-clause-adds
returns-clause-adds g c = c.loop-clause.invariant.adds

pub returns-clause-laid : goal.returns-clause-laid
returns-clause-laid g c = λ all numbered acyclic.
    let first : length c.args.code.now.rules.items ≡ c.in_ok-first.first = omega (arith, c.in_ok-first.ensures, c.len.ensures) in
    let count : c.loop-clause.clause-index ≡ length c.as_slice-clause-items.result.now = omega (arith, c.loop-clause-test.false) in
    record {
      arity = refl;
      quiet = refl;
      facts = c.has_index.ensures;
      rules = c.in_ok-short.ensures ∙ omega (arith, c.len-2.ensures) ∙ c.loop-clause.invariant.long ∙ ap (λ n. n + c.loop-clause.clause-index) first
          ∙ ap (λ n. c.in_ok-first.first + n) (count ∙ ap length c.as_slice-clause-items.ensures ∙ sym (length-map c.args.pred.now.clauses clause_tree));
      each = subst (λ n. RulesAt (in_tables all (tables_for all (g.S.StateStore.seen c.loop-clause.store).now.terms c.loop-clause.code) (g.S.StateStore.seen c.loop-clause.store).names c.loop-clause.code) (pred_tree c.args.pred.now) n (pred_tree c.args.pred.now).clauses) first
          (all-rules-added c.args.self.now.numbers (g.S.StateStore.seen c.args.store.now) (g.S.StateStore.seen c.loop-clause.store) c.args.code.now c.loop-clause.code (pred_tree c.args.pred.now) c.as_slice-clause-items.result.now c.loop-clause.clause-index
          c.loop-clause.invariant c.loop-clause-test.false (ap (map clause_tree) (sym c.as_slice-clause-items.ensures)) all numbered acyclic);
    }

pub returns-clause-resolved : goal.returns-clause-resolved
returns-clause-resolved g c = c.loop-clause.invariant.resolved
