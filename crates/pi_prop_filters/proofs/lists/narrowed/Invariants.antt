use Rattle.std.proofs.Common.{◌≡◌, take}
use Rattle.pi_prop_filters.proofs.lists.narrowed.Given as goal

abbrev pub invariant-loop-domain : goal.invariant-loop-domain
invariant-loop-domain l = l.all.items ≡ take l.domain-index l.domains
