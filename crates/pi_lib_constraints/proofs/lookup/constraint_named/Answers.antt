use Rattle.std.proofs.Common.{◌≡◌, ◌∙◌, sym, subst, rules, true, false}
use Rattle.std.specs.Str.{bytes_eq}
use Rattle.std.specs.Prelude.{codes}
use Rattle.pi_settling.specs.Goals.{is_constraint_goal}
use Rattle.pi_lib_constraints.specs.Named.{IsConstraintNamed}
use Rattle.pi_lib_constraints.specs.declared.kinds.ConstraintGoal.{ConstraintGoal}
use Rattle.pi_lib_constraints.proofs.NamedLemmas.{one-found, two-found, element-found, one-none, two-none, three-none, other-none}
use Rattle.pi_lib_constraints.proofs.lookup.constraint_named.Goals as goal

pub returns-in-Some-clause-some : goal.returns-in-Some-clause-some
returns-in-Some-clause-some c =
    let n : c.args.arity ≡ 1 = search rules in
    subst (λ k. IsConstraintNamed c.args.name.now k (ConstraintGoal.OfOne c.in-Some.goal)) (sym n) (one-found c.args.name.now c.in-Some.goal (sym c.one_named.ensures ∙ c.in-Some.is))

pub returns-in-None-clause-none : goal.returns-in-None-clause-none
returns-in-None-clause-none c =
    let n : c.args.arity ≡ 1 = search rules in
    subst (λ k. is_constraint_goal c.args.name.now k ≡ false) (sym n) (one-none c.args.name.now (sym c.one_named.ensures ∙ c.in-None.is))

pub returns-in-Some-two_named-clause-some : goal.returns-in-Some-two_named-clause-some
returns-in-Some-two_named-clause-some c =
    let n : c.args.arity ≡ 2 = search rules in
    subst (λ k. IsConstraintNamed c.args.name.now k (ConstraintGoal.OfTwo c.in-Some-two_named.goal)) (sym n) (two-found c.args.name.now c.in-Some-two_named.goal (sym c.two_named.ensures ∙ c.in-Some-two_named.is))

pub returns-in-None-two_named-clause-none : goal.returns-in-None-two_named-clause-none
returns-in-None-two_named-clause-none c =
    let n : c.args.arity ≡ 2 = search rules in
    subst (λ k. is_constraint_goal c.args.name.now k ≡ false) (sym n) (two-none c.args.name.now (sym c.two_named.ensures ∙ c.in-None-two_named.is))

pub returns-then-eq-clause-some : goal.returns-then-eq-clause-some
returns-then-eq-clause-some c =
    let n : c.args.arity ≡ 3 = search rules in
    let e : bytes_eq c.args.name.now (codes "element") ≡ true = search rules in
    subst (λ k. IsConstraintNamed c.args.name.now k ConstraintGoal.Element) (sym n) (element-found c.args.name.now e)

pub returns-else-eq-clause-none : goal.returns-else-eq-clause-none
returns-else-eq-clause-none c =
    let n : c.args.arity ≡ 3 = search rules in
    let e : bytes_eq c.args.name.now (codes "element") ≡ false = search rules in
    subst (λ k. is_constraint_goal c.args.name.now k ≡ false) (sym n) (three-none c.args.name.now e)

pub returns-in_default-clause-none : goal.returns-in_default-clause-none
returns-in_default-clause-none c = other-none c.args.name.now c.args.arity (search rules) (search rules) (search rules)
