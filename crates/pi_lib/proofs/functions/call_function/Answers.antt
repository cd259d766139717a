use Rattle.std.proofs.Common.{◌≡◌, Some, subst, codes}
use Rattle.pi_effects.specs.BuiltIns.{built_in_function}
use Rattle.pi_effects.specs.Results.{ShowsEffect}
use Rattle.pi_lib_builtin.specs.Names.{one_name, two_name, function_name}
use Rattle.pi_lib.proofs.FunctionCalls.{terms-one, terms-two, terms-three}
use Rattle.pi_lib.proofs.FunctionBodies.{range-shown}
use Rattle.pi_lib.proofs.functions.call_function.Goals as goal

pub returns-in-Some-clause-shows : goal.returns-in-Some-clause-shows
returns-in-Some-clause-shows g c = λ ts e a terms many done.
    let v = g.S.StateStore.seen c.args.s.now in
    let w = g.S.StateStore.seen c.call_of_one.new.s in
    let f = c.in-OfOne.function in
    terms-one v c.args.args.now c.in-Some.a ts (λ us. built_in_function (one_name f) us v.now.state ≡ Some e → ShowsEffect v w c.call_of_one.result e) c.in-Some.ensures.some terms
    (λ t is d. c.call_of_one.ensures.shows t e a is d) (subst (λ h. built_in_function (function_name h) ts v.now.state ≡ Some e) c.in-OfOne.is done)

pub returns-in-Some-two-clause-shows : goal.returns-in-Some-two-clause-shows
returns-in-Some-two-clause-shows g c = λ ts e a terms many done.
    let v = g.S.StateStore.seen c.args.s.now in
    let w = g.S.StateStore.seen c.call_of_two.new.s in
    let f = c.in-OfTwo.function in
    terms-two v c.args.args.now c.in-Some-two.a c.in-Some-two.b ts (λ us. built_in_function (two_name f) us v.now.state ≡ Some e → ShowsEffect v w c.call_of_two.result e) c.in-Some-two.ensures.some terms
    (λ t u left right d. c.call_of_two.ensures.shows t u e a left right d) (subst (λ h. built_in_function (function_name h) ts v.now.state ≡ Some e) c.in-OfTwo.is done)

pub returns-in-Some-three-clause-shows : goal.returns-in-Some-three-clause-shows
returns-in-Some-three-clause-shows g c = λ ts e a terms many done.
    let v = g.S.StateStore.seen c.args.s.now in
    let w = g.S.StateStore.seen c.range_by.new.s in
    terms-three v c.args.args.now c.in-Some-three.a c.in-Some-three.b c.in-Some-three.c ts (λ us. built_in_function (codes "..") us v.now.state ≡ Some e → ShowsEffect v w c.range_by.result e) c.in-Some-three.ensures.some terms
    (λ t u x one two three d. range-shown v w c.range_by.result t u x e c.range_by.ensures.stays (c.range_by.ensures.shows t u x a one two three) d) (subst (λ h. built_in_function (function_name h) ts v.now.state ≡ Some e) c.in-RangeBy.is done)
