use Rattle.std.proofs.Common.{◌≡◌, ◌∙◌, false, sym, subst, rules, codes}
use Rattle.pi_effects.specs.BuiltIns.{is_function}
use Rattle.pi_lib_builtin.specs.Resolved.{IsFunctionNamed}
use Rattle.pi_lib_builtin.specs.declared.functions.Function.{Function}
use Rattle.pi_lib_builtin.proofs.FunctionTables.{named-of_one, named-of_two, named-range, none-of_one, none-of_two, none-of_three, none-of_other}
use Rattle.pi_lib_builtin.proofs.lookup.function_named.Goals as goal

pub returns-in-Some-clause-some : goal.returns-in-Some-clause-some
returns-in-Some-clause-some c =
    subst (λ k. IsFunctionNamed c.args.name.now k (Function.OfOne c.in-Some.f)) (sym c.in-1.is) (named-of_one c.args.name.now c.in-Some.f (sym c.find.ensures ∙ c.in-Some.is))

pub returns-in-None-clause-none : goal.returns-in-None-clause-none
returns-in-None-clause-none c =
    subst (λ k. is_function c.args.name.now k ≡ false) (sym c.in-1.is) (none-of_one c.args.name.now (sym c.find.ensures ∙ c.in-None.is))

pub returns-in-Some-find-clause-some : goal.returns-in-Some-find-clause-some
returns-in-Some-find-clause-some c =
    subst (λ k. IsFunctionNamed c.args.name.now k (Function.OfTwo c.in-Some-find.f)) (sym c.in-2.is) (named-of_two c.args.name.now c.in-Some-find.f (sym c.find-in-2.ensures ∙ c.in-Some-find.is))

pub returns-in-None-find-clause-none : goal.returns-in-None-find-clause-none
returns-in-None-find-clause-none c =
    subst (λ k. is_function c.args.name.now k ≡ false) (sym c.in-2.is) (none-of_two c.args.name.now (sym c.find-in-2.ensures ∙ c.in-None-find.is))

pub returns-then-eq-clause-some : goal.returns-then-eq-clause-some
returns-then-eq-clause-some c =
    let is : c.args.name.now ≡ codes ".." = search rules in
    subst (λ k. IsFunctionNamed c.args.name.now k Function.RangeBy) (sym c.in-3.is) (named-range c.args.name.now is)

pub returns-else-eq-clause-none : goal.returns-else-eq-clause-none
returns-else-eq-clause-none c =
    let other : c.args.name.now ≡ codes ".." → ⊥ = search rules in
    subst (λ k. is_function c.args.name.now k ≡ false) (sym c.in-3.is) (none-of_three c.args.name.now other)

pub returns-in_default-clause-none : goal.returns-in_default-clause-none
returns-in_default-clause-none c = none-of_other c.args.name.now c.args.arity (search rules) (search rules) (search rules)
