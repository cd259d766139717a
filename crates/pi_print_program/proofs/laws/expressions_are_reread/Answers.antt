use Rattle.pi_print_program.proofs.ExpLaw.{exp_is_reread}
use Rattle.pi_print_program.proofs.laws.expressions_are_reread.Goals as goal

pub returns : goal.returns
returns c = exp_is_reread
