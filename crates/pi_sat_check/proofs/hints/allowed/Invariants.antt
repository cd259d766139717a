use Rattle.std.proofs.Common.{take}
use Rattle.pi_sat_spec.specs.Domains.{allowed}
use Rattle.pi_sat_check.specs.Allowed.{ShowsAllowed}
use Rattle.pi_sat_check.proofs.hints.allowed.Given as goal

abbrev pub invariant-loop-literal : goal.invariant-loop-literal
invariant-loop-literal l = ShowsAllowed l.found (allowed l.present (take l.literal-index l.lemma))
