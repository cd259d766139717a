use Rattle.std.proofs.Common.{sym}
use Rattle.pi_rewrite_sound.proofs.names.is_predicate.Goals as goal

pub returns-in-Some : goal.returns-in-Some
returns-in-Some c = sym c.in-Some.ensures.some.known
