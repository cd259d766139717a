use Rattle.std.proofs.Common.{subst}
use Rattle.pi_unify.specs.Rests.{Taken, TakesRest}
use Rattle.pi_unify.proofs.AheadLemmas.{arg_taken, no_arg_taken}
use Rattle.pi_unify.proofs.ListingLemmas.{enters}
use Rattle.pi_unify.proofs.ahead.next_term.Goals as goal

pub returns-in-Some-clause-terms : goal.returns-in-Some-clause-terms
returns-in-Some-clause-terms g c = λ is all.
    let v = g.S.StateStore.seen c.args.s.now in
    let old = c.args.rests.now.items in
    let new = c.take_rest.new.rests.items in
    let t : Taken old new c.in-Some.rest = subst (TakesRest old new) c.in-Some.is c.in_ok-rest.ensures in
    arg_taken v old new c.in-Some.rest c.arg.result t is all c.arg.ensures

pub returns-in-Some-clause-values : goal.returns-in-Some-clause-values
returns-in-Some-clause-values g c = λ a all.
    let v = g.S.StateStore.seen c.args.s.now in
    let old = c.args.rests.now.items in
    let new = c.take_rest.new.rests.items in
    let t : Taken old new c.in-Some.rest = subst (TakesRest old new) c.in-Some.is c.in_ok-rest.ensures in
    enters v old new c.in-Some.rest c.arg.result t a all c.arg.ensures

pub returns-in-None-clause-terms : goal.returns-in-None-clause-terms
returns-in-None-clause-terms g c = λ is all.
    let v = g.S.StateStore.seen c.args.s.now in
    let old = c.args.rests.now.items in
    no_arg_taken v old (subst (TakesRest old c.take_rest.new.rests.items) c.in-None.is c.in_ok-rest.ensures)
