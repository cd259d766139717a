use Rattle.pi_effects.proofs.PowerLemmas.{answered_zero, answered_no_half, answered_no_square, answered_even, answered_odd}
use Rattle.pi_effects.proofs.power.+power_by_squares.Goals as goal

pub returns-then-exponent-eq0 : goal.returns-then-exponent-eq0
returns-then-exponent-eq0 t c = answered_zero c.args.base c.args.exponent c.if-exponent-eq0.true

pub returns-in_err-half : goal.returns-in_err-half
returns-in_err-half t c = answered_no_half c.args.base c.args.exponent _ c.ranges.base c.if-exponent-eq0.false c.in_err-half.ensures c.from_residual.ensures

pub returns-in_err-square : goal.returns-in_err-square
returns-in_err-square t c = answered_no_square c.args.base c.args.exponent c.in_ok-half.half _ c.ranges.base c.in_ok-half.ensures c.in_err-square.ensures c.from_residual-in_err-square.ensures

pub returns-then-exponent-eq0-2 : goal.returns-then-exponent-eq0-2
returns-then-exponent-eq0-2 t c = answered_even c.args.base c.args.exponent c.in_ok-half.half c.in_ok-square.square c.ranges.base c.in_ok-half.ensures c.in_ok-square.ensures c.if-exponent-eq0-2.true

pub returns-else-exponent-eq0-2 : goal.returns-else-exponent-eq0-2
returns-else-exponent-eq0-2 t c = answered_odd c.args.base c.args.exponent c.in_ok-half.half c.in_ok-square.square _ c.ranges.base c.in_ok-half.ensures c.in_ok-square.ensures c.if-exponent-eq0-2.false c.checked_mul-else-exponent-eq0-2.ensures
