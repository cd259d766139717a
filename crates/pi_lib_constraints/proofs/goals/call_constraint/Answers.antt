use Rattle.pi_lib_constraints.proofs.CallLemmas.{one-called, two-called, element-called}
use Rattle.pi_lib_constraints.proofs.goals.call_constraint.Goals as goal

pub returns-in-Some-clause-shows : goal.returns-in-Some-clause-shows
returns-in-Some-clause-shows g c = λ ts e is terms many done.
    one-called (g.S.StateStore.seen c.args.s.now) (g.S.StateStore.seen c.call_of_one.new.s) c.call_of_one.result c.args.goal c.in-OfOne.goal c.args.args.now c.in-Some.a ts e c.in-OfOne.is c.in-Some.ensures.some terms (λ t at. c.call_of_one.ensures.shows t is at) done

pub returns-in-Some-two-clause-shows : goal.returns-in-Some-two-clause-shows
returns-in-Some-two-clause-shows g c = λ ts e is terms many done.
    two-called (g.S.StateStore.seen c.args.s.now) (g.S.StateStore.seen c.call_of_two.new.s) c.call_of_two.result c.args.goal c.in-OfTwo.goal c.args.args.now c.in-Some-two.a c.in-Some-two.b ts e c.in-OfTwo.is c.in-Some-two.ensures.some terms
    (λ t u at too. c.call_of_two.ensures.shows t u is at too) done

pub returns-in-Some-three-clause-shows : goal.returns-in-Some-three-clause-shows
returns-in-Some-three-clause-shows g c = λ ts e is terms many done.
    element-called (g.S.StateStore.seen c.args.s.now) (g.S.StateStore.seen c.call_of_element.new.s) c.call_of_element.result c.args.goal c.args.args.now c.in-Some-three.a c.in-Some-three.b c.in-Some-three.c ts e c.in-Element.is c.in-Some-three.ensures.some terms
    (λ t u x at too three. c.call_of_element.ensures.shows t u x is at too three) done
