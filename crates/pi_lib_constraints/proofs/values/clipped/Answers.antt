use Rattle.std.specs.Int.{w128}
use Rattle.std.proofs.lemmas.Int.{to_z-of_z}
use Rattle.pi_lib_constraints.proofs.SideLemmas.{clipped-is}
use Rattle.pi_lib_constraints.proofs.values.clipped.Goals as goal

pub returns : goal.returns
returns c =
    clipped-is c.in_ok-all.all c.in_ok-above.above c.in_ok-made.made c.args.lo c.args.hi _ _ c.in_ok-all.ensures c.in_ok-above.ensures.values c.in_ok-made.ensures.values c.spans-spans.ensures.domain (to_z-of_z w128 c.args.lo c.ranges.lo) (to_z-of_z w128 c.args.hi c.ranges.hi)
