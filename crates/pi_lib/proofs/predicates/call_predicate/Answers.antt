use Rattle.std.proofs.Common.{◌≡◌, Some, subst, true, length}
use Rattle.pi_effects.specs.BuiltIns.{built_in_predicate}
use Rattle.pi_lib_builtin.specs.Names.{test_name, pair_name, predicate_name, takes}
use Rattle.pi_lib_builtin.specs.declared.predicates.Predicate.{Predicate}
use Rattle.pi_lib.specs.Outcomes.{ShowsOutcome}
use Rattle.pi_lib.proofs.FunctionCalls.{terms-none, terms-one, terms-two}
use Rattle.pi_lib.proofs.predicates.call_predicate.Goals as goal

pub returns-in-OfNone-clause-shows : goal.returns-in-OfNone-clause-shows
returns-in-OfNone-clause-shows g c = λ ts e state terms many done.
    let v = g.S.StateStore.seen c.args.s.now in
    let none = terms-none v c.args.args.now ts terms (subst (λ p. takes p (length c.args.args.now) ≡ true) c.in-OfNone.is many) in
    c.call_of_none.ensures e (subst (λ us. built_in_predicate (predicate_name (Predicate.OfNone c.in-OfNone.predicate)) us v.now.state ≡ Some e) none (subst (λ h. built_in_predicate (predicate_name h) ts v.now.state ≡ Some e) c.in-OfNone.is done))

pub returns-in-Some-clause-shows : goal.returns-in-Some-clause-shows
returns-in-Some-clause-shows g c = λ ts e state terms many done.
    let v = g.S.StateStore.seen c.args.s.now in
    let p = c.in-OfOne.predicate in
    terms-one v c.args.args.now c.in-Some.a ts (λ us. built_in_predicate (test_name p) us v.now.state ≡ Some e → ShowsOutcome v v c.call_of_one.result e) c.in-Some.ensures.some terms
    (λ t is d. c.call_of_one.ensures t e state.acyclic is d) (subst (λ h. built_in_predicate (predicate_name h) ts v.now.state ≡ Some e) c.in-OfOne.is done)

pub returns-in-Some-two-clause-shows : goal.returns-in-Some-two-clause-shows
returns-in-Some-two-clause-shows g c = λ ts e state terms many done.
    let v = g.S.StateStore.seen c.args.s.now in
    let w = g.S.StateStore.seen c.call_of_two.new.s in
    let p = c.in-OfTwo.predicate in
    terms-two v c.args.args.now c.in-Some-two.a c.in-Some-two.b ts (λ us. built_in_predicate (pair_name p) us v.now.state ≡ Some e → ShowsOutcome v w c.call_of_two.result e) c.in-Some-two.ensures.some terms
    (λ t u left right d. c.call_of_two.ensures.shows t u e state left right d) (subst (λ h. built_in_predicate (predicate_name h) ts v.now.state ≡ Some e) c.in-OfTwo.is done)
