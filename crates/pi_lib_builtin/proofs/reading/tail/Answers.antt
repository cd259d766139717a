use Rattle.pi_lib_builtin.proofs.WalkLemmas.{cell-arguments}
use Rattle.pi_lib_builtin.proofs.reading.tail.Goals as goal

pub returns : goal.returns
returns g c = λ t a is. c.argument_of_cell.ensures t (λ p. p.1) a is (λ item rest. (cell-arguments item rest).1)
