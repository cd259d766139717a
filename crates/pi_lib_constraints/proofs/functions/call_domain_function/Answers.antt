use Rattle.pi_constraints.specs.State.{bindings, followed}
use Rattle.pi_prop_spec.specs.Ends.{least_of, greatest_of}
use Rattle.pi_settling.specs.DomainValues.{domain_at}
use Rattle.pi_lib_constraints.specs.Functions.{count_of}
use Rattle.pi_lib_constraints.specs.declared.functions.DomainFunction.{DomainFunction}
use Rattle.pi_lib_constraints.proofs.FunctionLemmas.{function-shown}
use Rattle.pi_lib_constraints.proofs.functions.call_domain_function.Goals as goal

pub returns-in-Least-clause-shows : goal.returns-in-Least-clause-shows
returns-in-Least-clause-shows g c = λ t e is at done.
    let v = g.S.StateStore.seen c.args.s.now in
    let s = v.now.state in
    function-shown v (g.S.StateStore.seen c.put_number.new.s) c.put_number.result c.args.function DomainFunction.Least t e c.in-Least.is c.put_number.ensures.stays
    (c.put_number.ensures.shows t least_of (domain_at s (followed (bindings s) t)) at (c.least_at-found.ensures t is at)) done

pub returns-in-Greatest-clause-shows : goal.returns-in-Greatest-clause-shows
returns-in-Greatest-clause-shows g c = λ t e is at done.
    let v = g.S.StateStore.seen c.args.s.now in
    let s = v.now.state in
    function-shown v (g.S.StateStore.seen c.put_number-in-Greatest.new.s) c.put_number-in-Greatest.result c.args.function DomainFunction.Greatest t e c.in-Greatest.is c.put_number-in-Greatest.ensures.stays
    (c.put_number-in-Greatest.ensures.shows t greatest_of (domain_at s (followed (bindings s) t)) at (c.greatest_at-found.ensures t is at)) done

pub returns-in_ok-found-in-Size-clause-shows : goal.returns-in_ok-found-in-Size-clause-shows
returns-in_ok-found-in-Size-clause-shows g c = λ t e is at done.
    let v = g.S.StateStore.seen c.args.s.now in
    let s = v.now.state in
    function-shown v (g.S.StateStore.seen c.put_number-in-Size.new.s) c.put_number-in-Size.result c.args.function DomainFunction.Size t e c.in-Size.is c.put_number-in-Size.ensures.stays
    (c.put_number-in-Size.ensures.shows t count_of (domain_at s (followed (bindings s) t)) at (c.in_ok-found-in-Size.ensures t is at)) done

pub returns-in-Values-clause-shows : goal.returns-in-Values-clause-shows
returns-in-Values-clause-shows g c = λ t e is at done.
    function-shown (g.S.StateStore.seen c.args.s.now) (g.S.StateStore.seen c.listed.new.s) c.listed.result c.args.function DomainFunction.Values t e c.in-Values.is c.listed.ensures.stays (c.listed.ensures.shows t is at) done
