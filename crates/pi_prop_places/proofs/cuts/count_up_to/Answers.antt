use Rattle.std.proofs.Common.{rules, arith, ◌≡◌, ◌+◌, ◌-◌, ◌<ℤ◌, pos, take, get_or, w64, to_z, of_z, FitsSigned, subst, sym}
use Rattle.std.specs.Int.{w128}
use Rattle.std.proofs.lemmas.Int.{ints}
use Rattle.pi_prop_places.proofs.NarrowedCuts.{from_to, SameUpTo, SameUpTo-less}
use Rattle.pi_prop_places.proofs.cuts.count_up_to.Goals as goal

pub loop-left-preserved : goal.loop-left-preserved
loop-left-preserved c =
    let l : FitsSigned w64 (get_or c.args.spans.now (c.loop-left.left - 1) (from_to (pos 0) (pos 0))).lo = search rules in
    let above : to_z w128 (of_z w128 c.args.n) <ℤ (get_or c.args.spans.now (c.loop-left.left - 1) (from_to (pos 0) (pos 0))).lo = grind (arith, ints, l) in
    let few = c.loop-left.invariant.0 in
    let some : (c.loop-left.left - 1) + 1 ≡ c.loop-left.left = omega arith in
    (omega arith, SameUpTo-less c.args.spans.now (c.loop-left.left - 1) (from_to (pos 0) (pos 0)) (to_z w128 (of_z w128 c.args.n)) (omega arith) above (subst (λ k. SameUpTo (to_z w128 (of_z w128 c.args.n)) (take k c.args.spans.now) c.args.spans.now) (sym some) c.loop-left.invariant.1))
