use Rattle.std.proofs.Common.{◌≡◌, ◌∙◌, sym, subst, rules, false}
use Rattle.pi_settling.specs.DomainValues.{is_domain_function}
use Rattle.pi_lib_constraints.proofs.NamedLemmas.{function-found, function-none, no-function}
use Rattle.pi_lib_constraints.proofs.lookup.domain_function_named.Goals as goal

pub returns-in-Some-clause-some : goal.returns-in-Some-clause-some
returns-in-Some-clause-some c =
    let n : c.args.arity ≡ 1 = search rules in
    (function-found c.args.name.now c.in-Some.function (sym c.function_named.ensures ∙ c.in-Some.is), n)

pub returns-in-None-clause-none : goal.returns-in-None-clause-none
returns-in-None-clause-none c =
    let n : c.args.arity ≡ 1 = search rules in
    subst (λ k. is_domain_function c.args.name.now k ≡ false) (sym n) (function-none c.args.name.now (sym c.function_named.ensures ∙ c.in-None.is))

pub returns-in_default-clause-none : goal.returns-in_default-clause-none
returns-in_default-clause-none c = no-function c.args.name.now c.args.arity (search rules)
