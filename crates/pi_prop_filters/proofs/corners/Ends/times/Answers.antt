use Rattle.std.proofs.Common.{FitsSigned, ◌*ℤ◌}
use Rattle.std.specs.Int.{w128}
use Rattle.std.proofs.lemmas.Int.{to_z-of_z}
use Rattle.pi_prop_filters.proofs.CornerLemmas.{value_fits, product_fits, product_bits_fit}
use Rattle.pi_prop_filters.proofs.corners.Ends.times.Goals as goal

pub returns-clause-lo : goal.returns-clause-lo
returns-clause-lo c =
    let f0 : FitsSigned w128 c.args.factor = c.ranges.factor in
    let f1 : FitsSigned w128 c.args.self.lo = value_fits c.args.self.lo c.requires.low in
    let f2 : FitsSigned w128 c.args.self.hi = value_fits c.args.self.hi c.requires.high in
    let f3 : FitsSigned w128 (c.args.factor *ℤ c.args.self.lo) = product_fits c.args.factor c.args.self.lo c.requires.factor c.requires.low in
    let f4 : FitsSigned w128 (c.args.factor *ℤ c.args.self.hi) = product_fits c.args.factor c.args.self.hi c.requires.factor c.requires.high in
    simp to_z-of_z at c.of.ensures.lo

pub returns-clause-hi : goal.returns-clause-hi
returns-clause-hi c =
    let f0 : FitsSigned w128 c.args.factor = c.ranges.factor in
    let f1 : FitsSigned w128 c.args.self.lo = value_fits c.args.self.lo c.requires.low in
    let f2 : FitsSigned w128 c.args.self.hi = value_fits c.args.self.hi c.requires.high in
    let f3 : FitsSigned w128 (c.args.factor *ℤ c.args.self.lo) = product_fits c.args.factor c.args.self.lo c.requires.factor c.requires.low in
    let f4 : FitsSigned w128 (c.args.factor *ℤ c.args.self.hi) = product_fits c.args.factor c.args.self.hi c.requires.factor c.requires.high in
    simp to_z-of_z at c.of.ensures.hi

pub overflow_mul-factor : goal.overflow_mul-factor
overflow_mul-factor c = product_bits_fit c.args.factor c.args.self.lo c.requires.factor c.requires.low

pub overflow_mul-factor-2 : goal.overflow_mul-factor-2
overflow_mul-factor-2 c = product_bits_fit c.args.factor c.args.self.hi c.requires.factor c.requires.high
