use Rattle.std.proofs.Common.{◌≡◌, drop}
use Rattle.pi_sat_spec.specs.Logs.{leads_on}
use Rattle.pi_sat_search.proofs.hints.leads_on.Given as goal

abbrev pub invariant-loop-hint : goal.invariant-loop-hint
invariant-loop-hint l = leads_on l.earlier l.present.items (drop l.hint-index l.hints) ≡ leads_on l.earlier l.initial.present.items l.hints
