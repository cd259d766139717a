use Rattle.std.proofs.Common.{nat_eq}
use Rattle.std.specs.HashMap.{get}
use Rattle.pi_prop_filters.proofs.RootLemmas.{RootsSoFar}
use Rattle.pi_prop_filters.proofs.variables.roots_of.Given as goal

abbrev pub invariant-loop-k : goal.invariant-loop-k
invariant-loop-k l = RootsSoFar l.items l.k l.roots.items (get nat_eq l.by_variable)
