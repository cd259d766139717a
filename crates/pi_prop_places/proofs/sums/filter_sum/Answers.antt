use Rattle.std.proofs.Common.{FitsSigned}
use Rattle.std.specs.Int.{w128}
use Rattle.std.proofs.lemmas.Int.{to_z-of_z}
use Rattle.pi_prop_places.proofs.sums.filter_sum.Goals as goal

pub returns-in-Unequal : goal.returns-in-Unequal
returns-in-Unequal g c =
    let constant : FitsSigned w128 c.args.constant = c.ranges.constant in
    let e = simp to_z-of_z at c.cut_unequal.ensures in
    rw c.in-Unequal.is e

pub returns-in-AtMost : goal.returns-in-AtMost
returns-in-AtMost g c =
    let constant : FitsSigned w128 c.args.constant = c.ranges.constant in
    let e = simp to_z-of_z at c.cut_at_most.ensures in
    rw c.in-AtMost.is e

pub returns-in-Equal : goal.returns-in-Equal
returns-in-Equal g c =
    let constant : FitsSigned w128 c.args.constant = c.ranges.constant in
    let e = simp to_z-of_z at c.cut_equal.ensures in
    rw c.in-Equal.is e
