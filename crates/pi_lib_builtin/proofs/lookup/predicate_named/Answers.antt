use Rattle.std.proofs.Common.{◌≡◌, ◌∙◌, false, sym, subst, rules, codes}
use Rattle.pi_effects.specs.BuiltIns.{is_predicate}
use Rattle.pi_lib_builtin.specs.Resolved.{IsPredicateNamed}
use Rattle.pi_lib_builtin.specs.declared.predicates.Predicate.{Predicate}
use Rattle.pi_lib_builtin.proofs.PredicateTables.{named-of_none, named-of_one, named-of_two, none-of_none, none-of_one, none-of_two, none-of_other, printf-told}
use Rattle.pi_lib_builtin.proofs.lookup.predicate_named.Goals as goal

pub returns-then-eq-clause-some : goal.returns-then-eq-clause-some
returns-then-eq-clause-some c =
    let is : c.args.name.now ≡ codes "printf" = search rules in
    (printf-told c.args.name.now c.args.arity c.printf_with.result is c.printf_with.ensures.some c.printf_with.ensures.none).0

pub returns-then-eq-clause-none : goal.returns-then-eq-clause-none
returns-then-eq-clause-none c =
    let is : c.args.name.now ≡ codes "printf" = search rules in
    (printf-told c.args.name.now c.args.arity c.printf_with.result is c.printf_with.ensures.some c.printf_with.ensures.none).1

pub returns-in-Some-clause-some : goal.returns-in-Some-clause-some
returns-in-Some-clause-some c =
    subst (λ k. IsPredicateNamed c.args.name.now k (Predicate.OfNone c.in-Some.p)) (sym c.in-0.is) (named-of_none c.args.name.now c.in-Some.p (sym c.find.ensures ∙ c.in-Some.is))

pub returns-in-None-clause-none : goal.returns-in-None-clause-none
returns-in-None-clause-none c =
    let other : c.args.name.now ≡ codes "printf" → ⊥ = search rules in
    subst (λ k. is_predicate c.args.name.now k ≡ false) (sym c.in-0.is) (none-of_none c.args.name.now other (sym c.find.ensures ∙ c.in-None.is))

pub returns-in-Some-find-clause-some : goal.returns-in-Some-find-clause-some
returns-in-Some-find-clause-some c =
    subst (λ k. IsPredicateNamed c.args.name.now k (Predicate.OfOne c.in-Some-find.p)) (sym c.in-1.is) (named-of_one c.args.name.now c.in-Some-find.p (sym c.find-in-1.ensures ∙ c.in-Some-find.is))

pub returns-in-None-find-clause-none : goal.returns-in-None-find-clause-none
returns-in-None-find-clause-none c =
    let other : c.args.name.now ≡ codes "printf" → ⊥ = search rules in
    subst (λ k. is_predicate c.args.name.now k ≡ false) (sym c.in-1.is) (none-of_one c.args.name.now other (sym c.find-in-1.ensures ∙ c.in-None-find.is))

pub returns-in-Some-find-2-clause-some : goal.returns-in-Some-find-2-clause-some
returns-in-Some-find-2-clause-some c =
    subst (λ k. IsPredicateNamed c.args.name.now k (Predicate.OfTwo c.in-Some-find-2.p)) (sym c.in-2.is) (named-of_two c.args.name.now c.in-Some-find-2.p (sym c.find-in-2.ensures ∙ c.in-Some-find-2.is))

pub returns-in-None-find-2-clause-none : goal.returns-in-None-find-2-clause-none
returns-in-None-find-2-clause-none c =
    let other : c.args.name.now ≡ codes "printf" → ⊥ = search rules in
    subst (λ k. is_predicate c.args.name.now k ≡ false) (sym c.in-2.is) (none-of_two c.args.name.now other (sym c.find-in-2.ensures ∙ c.in-None-find-2.is))

pub returns-in_default-clause-none : goal.returns-in_default-clause-none
returns-in_default-clause-none c =
    let other : c.args.name.now ≡ codes "printf" → ⊥ = search rules in
    none-of_other c.args.name.now c.args.arity other (search rules) (search rules) (search rules)
