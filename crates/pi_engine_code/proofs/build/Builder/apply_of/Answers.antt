use Rattle.std.proofs.Common.{◌≡◌, length, inr, true, false, refl, subst, IfSome, IfNone}
use Rattle.pi_effects.specs.BuiltIns.{is_function}
use Rattle.pi_lib_builtin.specs.Resolved.{IsFunctionNamed}
use Rattle.pi_settling.specs.DomainValues.{is_domain_function}
use Rattle.pi_engine_code.specs.Laid.{IsNotBuiltIn, IsDomainFunctionNamed}
use Rattle.pi_engine_code.proofs.LaidOperands.{unnamed}
use Rattle.pi_engine_code.proofs.LaidBuiltIns.{built-value-laid, domain-value-laid, neither-built}
use Rattle.pi_engine_code.proofs.build.Builder.apply_of.Goals as goal

pub returns-in-Some-clause-is : goal.returns-in-Some-clause-is
returns-in-Some-clause-is g c = λ preds numbered.
    built-value-laid preds (g.S.StateStore.seen c.add_operands.new.store) c.add_operands.new.code
    (record {
      core = c.add_operands.new.code.core;
      helpers = c.add_operands.new.code.helpers;
      steps = c.add_operands.new.code.steps;
      operands = c.add_operands.new.code.operands;
      parts = c.add_operands.new.code.parts;
      names = c.add_name.new.names;
      tests = c.add_operands.new.code.tests;
      rules = c.add_operands.new.code.rules;
      predicates = c.add_operands.new.code.predicates;
      callables = c.add_operands.new.code.callables;
      keys = c.add_operands.new.code.keys;
    }) c.args.name.now c.as_str.result.now c.args.args.now c.in-Some.function c.in_ok-name.name c.in_ok-operands.operands c.in_ok-count.count c.args.slot (length c.args.args.now) c.in_ok-name.ensures.added c.in_ok-name.ensures.place c.in_ok-count.ensures c.as_str.ensures refl
    (subst (λ o. IfSome o (λ f. IsFunctionNamed c.as_str.result.now (length c.args.args.now) f)) c.in-Some.is c.function_named.ensures.some)
    (c.in_ok-operands.ensures.are preds)

pub returns-in-Some-domain_function_named-clause-is : goal.returns-in-Some-domain_function_named-clause-is
returns-in-Some-domain_function_named-clause-is g c = λ preds numbered.
    domain-value-laid preds (g.S.StateStore.seen c.add_operands.new.store) c.add_operands.new.code
    (record {
      core = c.add_operands.new.code.core;
      helpers = c.add_operands.new.code.helpers;
      steps = c.add_operands.new.code.steps;
      operands = c.add_operands.new.code.operands;
      parts = c.add_operands.new.code.parts;
      names = c.add_name-in-Some-domain_function_named.new.names;
      tests = c.add_operands.new.code.tests;
      rules = c.add_operands.new.code.rules;
      predicates = c.add_operands.new.code.predicates;
      callables = c.add_operands.new.code.callables;
      keys = c.add_operands.new.code.keys;
    }) c.args.name.now c.as_str-2.result.now c.args.args.now c.in-Some-domain_function_named.function c.in_ok-name-2.name c.in_ok-operands.operands c.in_ok-count-2.count c.args.slot (length c.args.args.now) c.in_ok-name-2.ensures.added c.in_ok-name-2.ensures.place c.in_ok-count-2.ensures c.as_str-2.ensures refl
    (subst (λ o. IfSome o (λ f. IsDomainFunctionNamed c.as_str-2.result.now (length c.args.args.now) f)) c.in-Some-domain_function_named.is c.domain_function_named.ensures.some)
    (c.in_ok-operands.ensures.are preds)

pub returns-in-None-clause-is : goal.returns-in-None-clause-is
returns-in-None-clause-is g c = λ preds numbered.
    let no_table : is_function c.as_str.result.now (length c.args.args.now) ≡ false = subst (λ o. IfNone o (is_function c.as_str.result.now (length c.args.args.now) ≡ false)) c.in_default.is c.function_named.ensures.none in
    let no_domain : is_domain_function c.as_str-2.result.now (length c.args.args.now) ≡ false =
    subst (λ o. IfNone o (is_domain_function c.as_str-2.result.now (length c.args.args.now) ≡ false)) c.in_default-domain_function_named.is c.domain_function_named.ensures.none in
    let free : IsNotBuiltIn true c.args.name.now (length c.args.args.now) =
    neither-built (is_function c.args.name.now (length c.args.args.now)) (is_domain_function c.args.name.now (length c.args.args.now))
    (subst (λ n. is_function n (length c.args.args.now) ≡ false) c.as_str.ensures no_table) (subst (λ n. is_domain_function n (length c.args.args.now) ≡ false) c.as_str-2.ensures no_domain) in
    inr (unnamed c.args.self.now.numbers preds true c.args.name.now (length c.args.args.now) c.in_ok-number.field-0 numbered c.in_ok-number.ensures c.in-None.is, free)
