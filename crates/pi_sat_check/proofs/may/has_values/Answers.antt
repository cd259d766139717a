use Rattle.std.proofs.Common.{true, false}
use Rattle.pi_sat_check.proofs.MayLemmas.{values-none, values-at}
use Rattle.pi_sat_check.proofs.may.has_values.Goals as goal

pub returns-in-None : goal.returns-in-None
returns-in-None c = (λ t. cc, λ h. absurd (values-none c.args.domains.now c.args.item c.in-Var.var c.in-Var.is c.in-None.ensures h))

pub returns-in-Some : goal.returns-in-Some
returns-in-Some c = values-at c.args.domains.now c.args.item c.in-Var.var c.in-Some.i c.index-domains-i.result _ c.in-Var.is c.in-Some.ensures c.is_empty.ensures
