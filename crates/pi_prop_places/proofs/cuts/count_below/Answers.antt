use Rattle.std.proofs.Common.{rules, arith, ◌<ℤ◌, pos, get_or, w64, to_z, of_z, FitsSigned}
use Rattle.std.specs.Int.{w128}
use Rattle.std.proofs.lemmas.Int.{ints}
use Rattle.pi_prop_places.proofs.NarrowedCuts.{from_to, SameFrom-more}
use Rattle.pi_prop_places.proofs.cuts.count_below.Goals as goal

pub loop-gone-preserved : goal.loop-gone-preserved
loop-gone-preserved c =
    let h : FitsSigned w64 (get_or c.args.spans.now c.loop-gone.gone (from_to (pos 0) (pos 0))).hi = search rules in
    let below : (get_or c.args.spans.now c.loop-gone.gone (from_to (pos 0) (pos 0))).hi <ℤ to_z w128 (of_z w128 c.args.n) = grind (arith, ints, h) in
    (omega arith, SameFrom-more c.args.spans.now c.loop-gone.gone (from_to (pos 0) (pos 0)) (to_z w128 (of_z w128 c.args.n)) c.loop-gone-test.true below c.loop-gone.invariant.1)
