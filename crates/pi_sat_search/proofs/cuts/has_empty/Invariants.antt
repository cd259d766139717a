use Rattle.std.proofs.Common.{◌≡◌, take, false}
use Rattle.pi_sat_spec.specs.Domains.{has_empty}
use Rattle.pi_sat_search.proofs.cuts.has_empty.Given as goal

abbrev pub invariant-loop-one : goal.invariant-loop-one
invariant-loop-one l = has_empty (take l.one-index l.present) ≡ false
