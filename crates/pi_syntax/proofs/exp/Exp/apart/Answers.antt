use Rattle.std.proofs.Common.{refl}
use Rattle.pi_syntax.proofs.exp.Exp.apart.Goals as goal

pub returns-in_default : goal.returns-in_default
returns-in_default c = (refl, record { no_conjunction = c.in_default.not-And; no_array = c.in_default.not-Array; no_call = c.in_default.not-Call })
