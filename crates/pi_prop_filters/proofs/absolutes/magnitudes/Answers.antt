use Rattle.std.proofs.Common.{arith}
use Rattle.pi_prop_filters.proofs.BitLemmas.{bits_negative_fit}
use Rattle.pi_prop_filters.proofs.CornerLemmas.{value_small}
use Rattle.pi_prop_filters.proofs.AbsoluteLemmas.{least_size_is, greatest_size_is}
use Rattle.pi_prop_filters.proofs.absolutes.magnitudes.Goals as goal

pub returns-clause-lo : goal.returns-clause-lo
returns-clause-lo c = least_size_is c.max.result c.max-2.result c.args.operand.lo c.args.operand.hi c.requires.low c.requires.high c.max.ensures.value c.max-2.ensures.value

pub returns-clause-hi : goal.returns-clause-hi
returns-clause-hi c = greatest_size_is c.max-3.result c.args.operand.lo c.args.operand.hi c.requires.low c.requires.high c.max-3.ensures.value

pub overflow_sub-operand : goal.overflow_sub-operand
overflow_sub-operand c = let small = value_small c.args.operand.hi c.requires.high in bits_negative_fit c.args.operand.hi (omega (arith, small))

pub overflow_sub-operand-2 : goal.overflow_sub-operand-2
overflow_sub-operand-2 c = let small = value_small c.args.operand.lo c.requires.low in bits_negative_fit c.args.operand.lo (omega (arith, small))
