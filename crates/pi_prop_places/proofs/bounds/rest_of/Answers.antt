use Rattle.std.proofs.Common.{ℤ, ap, subst, sym, arith, Option, ◌≤◌, ◌^◌, nat_abs}
use Rattle.pi_prop_places.specs.Terms.{MayBeConstant, rest_with}
use Rattle.pi_prop_places.proofs.FitLemmas.{minus_back_fits, rest_small, rest_fits, rest_back}
use Rattle.pi_prop_places.proofs.SideLemmas.{rest_is}
use Rattle.pi_prop_places.proofs.bounds.rest_of.Goals as goal

pub overflow_sub-result : goal.overflow_sub-result
overflow_sub-result c = minus_back_fits c.args.all c.args.part (omega (arith, c.requires.all)) c.requires.part

pub overflow_add-result : goal.overflow_add-result
overflow_add-result c = rest_fits c.in-Some.constant c.args.all c.args.part (subst MayBeConstant c.in-Some.is c.requires.constant) c.requires.all c.requires.part

pub returns-in-Some-clause-is : goal.returns-in-Some-clause-is
returns-in-Some-clause-is c =
    rest_is c.args.constant c.in-Some.constant c.args.all c.args.part _ c.in-Some.is (rest_back c.in-Some.constant c.args.all c.args.part (subst MayBeConstant c.in-Some.is c.requires.constant) c.requires.all c.requires.part)

pub returns-in-Some-clause-small : goal.returns-in-Some-clause-small
returns-in-Some-clause-small c =
    let constant = subst MayBeConstant c.in-Some.is c.requires.constant in
    subst (λ (z : ℤ). nat_abs z ≤ 2 ^ 120) (sym (rest_back c.in-Some.constant c.args.all c.args.part constant c.requires.all c.requires.part)) (rest_small c.in-Some.constant c.args.all c.args.part constant c.requires.all c.requires.part)

pub returns-in-None-clause-is : goal.returns-in-None-clause-is
returns-in-None-clause-is c = ap (λ (k : Option ℤ). rest_with k c.args.all c.args.part) (sym c.in-None.is)
