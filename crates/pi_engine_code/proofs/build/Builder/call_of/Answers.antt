use Rattle.std.proofs.Common.{rules, ◌≡◌, ℕ, Bool, true, List, length, inr, false, ◌∷◌, [], refl, sym, ◌∙◌, subst, IfSome, IfNone}
use Rattle.pi_effects.specs.BuiltIns.{is_predicate}
use Rattle.pi_meaning.specs.Shared.Names.{is_call}
use Rattle.pi_lib_builtin.specs.Resolved.{IsPredicateNamed}
use Rattle.pi_lib_constraints.specs.Named.{IsConstraintNamed}
use Rattle.pi_settling.specs.Goals.{is_constraint_goal}
use Rattle.pi_settling.specs.SolveCalls.{is_solve}
use Rattle.pi_meaning.specs.Shared.Effects.{is_effect_name}
use Rattle.std.specs.Prelude.{codes}
use Rattle.std.specs.Str.{bytes_eq}
use Rattle.std.proofs.lemmas.Slice.Eq.{bytes_eq-Decides}
use Rattle.pi_engine_code.specs.Laid.{tables_for, IsNotBuiltIn}
use Rattle.pi_engine_code.proofs.CalledNames.{is-call}
use Rattle.pi_engine_code.proofs.LaidBuiltIns.{built-in-laid, constraint-laid, solve-laid, neither-built}
use Rattle.pi_engine_code.proofs.LaidTerms.{wider-added, operand-wider}
use Rattle.pi_engine_code.proofs.LaidOperands.{unnamed, two-terms, one-term, same-call}
use Rattle.pi_engine_code.proofs.build.Builder.call_of.Goals.{else-args-eq2-via-then-args-eq2+else-eq, else-args-eq2-via-else-args-eq2}
use Rattle.pi_engine_code.proofs.build.Builder.call_of.Goals as goal

not-equal : (r : Bool) (shown name other : List ℕ) → r ≡ bytes_eq shown other → r ≡ false → shown ≡ name → name ≡ other → ⊥
not-equal r shown name other is not e f = let h : bytes_eq shown other ≡ true = (bytes_eq-Decides shown other).1 (e ∙ f) in absurd cc

pub returns-then-eq-clause-is : goal.returns-then-eq-clause-is
returns-then-eq-clause-is g c = λ preds numbered. (
  c.index-args-0.result,
  c.index-args-1.result,
  same-call c.args.name.now (codes "=") c.args.args.now (c.index-args-0.result ∷ c.index-args-1.result ∷ []) (sym c.as_str.ensures ∙ (bytes_eq-Decides c.as_str.result.now (codes "=")).0 (sym c.if-eq.ensures)) (two-terms c.args.args.now c.index-args-0.result c.index-args-1.result c.if-args-eq2.true c.index-args-0.is c.index-args-1.is),
  operand-wider (tables_for preds (g.S.StateStore.seen c.operand_of.new.store).now.terms c.operand_of.new.code) (tables_for preds (g.S.StateStore.seen c.operand_of-then-eq.new.store).now.terms c.operand_of-then-eq.new.code) c.index-args-0.result c.in_ok-left.left
      (wider-added preds (g.S.StateStore.seen c.operand_of.new.store) (g.S.StateStore.seen c.operand_of-then-eq.new.store) c.operand_of.new.code c.operand_of-then-eq.new.code c.in_ok-right.ensures.adds.adds) (c.in_ok-left.ensures.is preds),
  c.in_ok-right.ensures.is preds,
)

pub returns-then-eq-2-clause-is : goal.returns-then-eq-2-clause-is
returns-then-eq-2-clause-is g c = λ preds numbered. (
  c.index-args-0-then-eq-2.result,
  same-call c.args.name.now (codes "throw") c.args.args.now (c.index-args-0-then-eq-2.result ∷ []) (sym c.as_str-then-args-eq1.ensures ∙ (bytes_eq-Decides c.as_str-then-args-eq1.result.now (codes "throw")).0 (sym c.if-eq-2.ensures)) (one-term c.args.args.now c.index-args-0-then-eq-2.result c.if-args-eq1.true c.index-args-0-then-eq-2.is),
  c.in_ok-ball.ensures.is preds,
)

-- `=` with two arguments was told before
pub returns-in-Some-clause-is : goal.returns-in-Some-clause-is
returns-in-Some-clause-is g c = λ preds numbered.
    let other : c.args.name.now ≡ codes "=" → length c.args.args.now ≡ 2 → ⊥ =
    λ equal two.
    elim c.else-args-eq2.branch [
      | else-args-eq2-via-then-args-eq2+else-eq w ↦ not-equal w.eq.result w.as_str.result.now c.args.name.now (codes "=") w.eq.ensures w.if-eq.false w.as_str.ensures equal
      | else-args-eq2-via-else-args-eq2 w ↦ w.if-args-eq2.false two
    ] in
    built-in-laid preds (g.S.StateStore.seen c.add_operands.new.store) c.add_operands.new.code
    (record {
      core = c.add_operands.new.code.core;
      helpers = c.add_operands.new.code.helpers;
      steps = c.add_operands.new.code.steps;
      operands = c.add_operands.new.code.operands;
      parts = c.add_operands.new.code.parts;
      names = c.add_name.new.names;
      tests = c.add_operands.new.code.tests;
      rules = c.add_operands.new.code.rules;
      predicates = c.add_operands.new.code.predicates;
      callables = c.add_operands.new.code.callables;
      keys = c.add_operands.new.code.keys;
    }) c.args.name.now c.as_str-3.result.now c.args.args.now c.in-Some.predicate c.in_ok-name.name c.in_ok-operands.operands c.in_ok-count.count (length c.args.args.now) c.in_ok-name.ensures.added c.in_ok-name.ensures.place c.in_ok-count.ensures c.as_str-3.ensures refl
    (subst (λ o. IfSome o (λ p. IsPredicateNamed c.as_str-3.result.now (length c.args.args.now) p)) c.in-Some.is c.predicate_named.ensures.some) other
    (c.in_ok-operands.ensures.are preds)

pub returns-in-Some-constraint_named-clause-is : goal.returns-in-Some-constraint_named-clause-is
returns-in-Some-constraint_named-clause-is g c = λ preds numbered.
    constraint-laid preds (g.S.StateStore.seen c.add_operands.new.store) c.add_operands.new.code
    (record {
      core = c.add_operands.new.code.core;
      helpers = c.add_operands.new.code.helpers;
      steps = c.add_operands.new.code.steps;
      operands = c.add_operands.new.code.operands;
      parts = c.add_operands.new.code.parts;
      names = c.add_name-in-Some-constraint_named.new.names;
      tests = c.add_operands.new.code.tests;
      rules = c.add_operands.new.code.rules;
      predicates = c.add_operands.new.code.predicates;
      callables = c.add_operands.new.code.callables;
      keys = c.add_operands.new.code.keys;
    }) c.args.name.now c.as_str-4.result.now c.args.args.now c.in-Some-constraint_named.goal c.in_ok-name-2.name c.in_ok-operands.operands c.in_ok-count-2.count (length c.args.args.now) c.in_ok-name-2.ensures.added c.in_ok-name-2.ensures.place c.in_ok-count-2.ensures c.as_str-4.ensures refl
    (subst (λ o. IfSome o (λ g. IsConstraintNamed c.as_str-4.result.now (length c.args.args.now) g)) c.in-Some-constraint_named.is c.constraint_named.ensures.some)
    (c.in_ok-operands.ensures.are preds)

pub returns-then-is_solve-clause-is : goal.returns-then-is_solve-clause-is
returns-then-is_solve-clause-is g c = λ preds numbered.
    solve-laid preds (g.S.StateStore.seen c.add_operands.new.store) c.add_operands.new.code
    (record {
      core = c.add_operands.new.code.core;
      helpers = c.add_operands.new.code.helpers;
      steps = c.add_operands.new.code.steps;
      operands = c.add_operands.new.code.operands;
      parts = c.add_operands.new.code.parts;
      names = c.add_name-then-is_solve.new.names;
      tests = c.add_operands.new.code.tests;
      rules = c.add_operands.new.code.rules;
      predicates = c.add_operands.new.code.predicates;
      callables = c.add_operands.new.code.callables;
      keys = c.add_operands.new.code.keys;
    }) c.args.name.now c.as_str-5.result.now c.args.args.now c.in_ok-name-3.name c.in_ok-operands.operands c.in_ok-count-3.count c.in_ok-name-3.ensures.added c.in_ok-name-3.ensures.place c.in_ok-count-3.ensures c.as_str-5.ensures
    (sym c.is_solve.ensures ∙ c.if-is_solve.true) (c.in_ok-operands.ensures.are preds)

pub returns-in-None-clause-is : goal.returns-in-None-clause-is
returns-in-None-clause-is g c = λ preds numbered.
    let no_table : is_predicate c.as_str-3.result.now (length c.args.args.now) ≡ false = subst (λ o. IfNone o (is_predicate c.as_str-3.result.now (length c.args.args.now) ≡ false)) c.in_default.is c.predicate_named.ensures.none in
    let no_goal : is_constraint_goal c.as_str-4.result.now (length c.args.args.now) ≡ false =
    subst (λ o. IfNone o (is_constraint_goal c.as_str-4.result.now (length c.args.args.now) ≡ false)) c.in_default-constraint_named.is c.constraint_named.ensures.none in
    let labels : is_solve c.args.name.now (length c.args.args.now) ≡ false =
    subst (λ n. is_solve n (length c.args.args.now) ≡ false) c.as_str-5.ensures (subst (λ k. is_solve c.as_str-5.result.now k ≡ false) c.in_ok-count-3.ensures (sym c.is_solve.ensures ∙ c.if-is_solve.false)) in
    let effects : is_effect_name c.args.name.now (length c.args.args.now) ≡ false =
    neither-built (is_predicate c.args.name.now (length c.args.args.now)) (is_constraint_goal c.args.name.now (length c.args.args.now))
    (subst (λ n. is_predicate n (length c.args.args.now) ≡ false) c.as_str-3.ensures no_table) (subst (λ n. is_constraint_goal n (length c.args.args.now) ≡ false) c.as_str-4.ensures no_goal) in
    let free : IsNotBuiltIn false c.args.name.now (length c.args.args.now) = (
      neither-built (is_effect_name c.args.name.now (length c.args.args.now)) (is_solve c.args.name.now (length c.args.args.now)) effects labels,
      subst (λ n. is_call n (length c.args.args.now) ≡ false) c.as_str-2.ensures (sym c.is_call.ensures ∙ c.if-is_call.false),
    ) in
    inr (unnamed c.args.self.now.numbers preds false c.args.name.now (length c.args.args.now) c.in_ok-number.field-0 numbered c.in_ok-number.ensures c.in-None.is, free)

pub returns-then-is_call-clause-is : goal.returns-then-is_call-clause-is
returns-then-is_call-clause-is g c = λ preds numbered.
    let called : is_call c.as_str-2.result.now (length c.args.args.now) ≡ true = sym c.is_call.ensures ∙ c.if-is_call.true in
    let name_is : c.args.name.now ≡ codes "call" = sym c.as_str-2.ensures ∙ (is-call c.as_str-2.result.now (length c.args.args.now) called).0 in (
      c.args.args.now,
      same-call c.args.name.now (codes "call") c.args.args.now c.args.args.now name_is refl,
      search rules,
      subst (λ n. is_call n (length c.args.args.now) ≡ true) (c.as_str-2.ensures ∙ name_is) called,
      c.in_ok-operands.ensures.are preds,
    )
