use Rattle.pi_print_program.proofs.ProgramLaw.{canonical_is_reread}
use Rattle.pi_print_program.proofs.laws.programs_are_reread.Goals as goal

pub returns : goal.returns
returns c = canonical_is_reread
