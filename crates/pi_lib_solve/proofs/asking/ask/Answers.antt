use Rattle.pi_lib_solve.proofs.AskLemmas.{one-term, two-terms, not-one, not-two}
use Rattle.pi_lib_solve.proofs.asking.ask.Goals as goal

pub returns-in-Some-clause-plainly : goal.returns-in-Some-clause-plainly
returns-in-Some-clause-plainly g c = λ vars a are. not-one (g.S.StateStore.seen c.args.s.now) c.args.args.now c.in-Some.words c.in-Some.vars vars c.in-Some.ensures.some are

pub returns-in-Some-clause-by_options : goal.returns-in-Some-clause-by_options
returns-in-Some-clause-by_options g c = λ words vars a are.
    let at = two-terms (g.S.StateStore.seen c.args.s.now) c.args.args.now c.in-Some.words c.in-Some.vars words vars c.in-Some.ensures.some are in
    c.ask_by_options.ensures words vars a at.0 at.1

pub returns-in-Some-one-clause-plainly : goal.returns-in-Some-one-clause-plainly
returns-in-Some-one-clause-plainly g c = λ vars a are. c.ask_plainly.ensures vars a (one-term (g.S.StateStore.seen c.args.s.now) c.args.args.now c.in-Some-one.vars vars c.in-Some-one.ensures.some are)

pub returns-in-Some-one-clause-by_options : goal.returns-in-Some-one-clause-by_options
returns-in-Some-one-clause-by_options g c = λ words vars a are. not-two (g.S.StateStore.seen c.args.s.now) c.args.args.now c.in-Some-one.vars words vars c.in-Some-one.ensures.some are
