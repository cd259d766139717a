use Rattle.pi_rewrite_laws.proofs.LawLemmas.{programs-are-kept, goals-are-kept}
use Rattle.pi_rewrite_laws.proofs.laws.meanings_are_kept.Goals as goal

pub returns-clause-programs : goal.returns-clause-programs
returns-clause-programs c = programs-are-kept

pub returns-clause-goals : goal.returns-clause-goals
returns-clause-goals c = goals-are-kept
