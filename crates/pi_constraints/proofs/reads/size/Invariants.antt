use Rattle.std.proofs.Common.{◌≡◌, take}
use Rattle.pi_constraints.specs.Domain.{size_of}
use Rattle.pi_constraints.proofs.reads.size.Given as goal

abbrev pub invariant-loop-span : goal.invariant-loop-span
invariant-loop-span l = l.count ≡ size_of (take l.span-index l.span-items)
