use Rattle.pi_rewrite_sound.proofs.ProgramLemmas.{programs-sound, programs-closed, programs-have-clauses}
use Rattle.pi_rewrite_sound.proofs.PlainLemmas.{programs-plain}
use Rattle.pi_rewrite_sound.proofs.QueryLemmas.{queries-sound}
use Rattle.pi_rewrite_sound.proofs.laws.lowered_is_sound.Goals as goal

pub returns-clause-programs : goal.returns-clause-programs
returns-clause-programs c = programs-sound

pub returns-clause-closed : goal.returns-clause-closed
returns-clause-closed c = programs-closed

pub returns-clause-plain : goal.returns-clause-plain
returns-clause-plain c = programs-plain

pub returns-clause-clauses : goal.returns-clause-clauses
returns-clause-clauses c = programs-have-clauses

pub returns-clause-queries : goal.returns-clause-queries
returns-clause-queries c = queries-sound
