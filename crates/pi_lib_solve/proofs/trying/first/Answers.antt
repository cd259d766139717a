use Rattle.pi_label.specs.Words.{alternative_of}
use Rattle.pi_lib_solve.proofs.ChoiceLemmas.{first-told, some-ends}
use Rattle.pi_lib_solve.proofs.trying.first.Goals as goal

pub returns-in-Some : goal.returns-in-Some
returns-in-Some g c = λ d is has.
    first-told (g.S.StateStore.seen c.args.s.now).now.state c.args.variable d c.in-Some.ends c.args.word (alternative_of c.first_choice.result) is has c.in-Some.ensures.ends c.first_choice.ensures

pub returns-in-None : goal.returns-in-None
returns-in-None g c = λ d is has. some-ends (g.S.StateStore.seen c.args.s.now).now.state c.args.variable d is has c.in-None.ensures.ends
