use Rattle.std.proofs.Common.{◌≡◌, map, take}
use Rattle.pi_sat_spec.specs.Domains.{item_domain}
use Rattle.pi_sat_search.proofs.filtered.domains_of.Given as goal

abbrev pub invariant-loop-i : goal.invariant-loop-i
invariant-loop-i l = l.all.items ≡ map (item_domain l.present) (take l.i l.items)
