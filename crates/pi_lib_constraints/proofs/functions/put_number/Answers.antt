use Rattle.pi_lib_constraints.proofs.FunctionLemmas.{number-none}
use Rattle.pi_lib_constraints.proofs.functions.put_number.Goals as goal

pub returns-in-None-clause-shows : goal.returns-in-None-clause-shows
returns-in-None-clause-shows g c = λ t f o at e. let v = g.S.StateStore.seen c.args.s.now in number-none v v c.args.term t c.args.found f _ o at c.in-None.is e
