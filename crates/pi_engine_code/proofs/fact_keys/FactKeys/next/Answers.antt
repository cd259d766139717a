use Rattle.std.proofs.Common.{arith}
use Rattle.pi_engine_code.proofs.KeyLemmas.{ordered, first-found, none-found}
use Rattle.pi_engine_code.proofs.fact_keys.FactKeys.next.Goals as goal

pub range-requires : goal.range-requires
range-requires c = ordered c.args.at c.args.from c.args.end c.new-low.result c.new-high.result c.new-low.ensures c.new-high.ensures (omega (arith, c.if-end-from.false))

pub returns-in-Some-clause-from_on : goal.returns-in-Some-clause-from_on
returns-in-Some-clause-from_on c =
    (first-found c.args.self.now c.args.at c.args.from c.args.end c.new-low.result c.new-high.result _ _ c.in-Some.key.now c.number.result c.new-low.ensures c.new-high.ensures (c.range.ensures.in_range tt) c.in-Some.ensures.steps c.number.ensures).low

pub returns-in-Some-clause-up_to_end : goal.returns-in-Some-clause-up_to_end
returns-in-Some-clause-up_to_end c =
    λ _. (first-found c.args.self.now c.args.at c.args.from c.args.end c.new-low.result c.new-high.result _ _ c.in-Some.key.now c.number.result c.new-low.ensures c.new-high.ensures (c.range.ensures.in_range tt) c.in-Some.ensures.steps c.number.ensures).high

pub returns-in-Some-clause-found : goal.returns-in-Some-clause-found
returns-in-Some-clause-found c =
    (first-found c.args.self.now c.args.at c.args.from c.args.end c.new-low.result c.new-high.result _ _ c.in-Some.key.now c.number.result c.new-low.ensures c.new-high.ensures (c.range.ensures.in_range tt) c.in-Some.ensures.steps c.number.ensures).found

pub returns-in-Some-clause-least : goal.returns-in-Some-clause-least
returns-in-Some-clause-least c =
    (first-found c.args.self.now c.args.at c.args.from c.args.end c.new-low.result c.new-high.result _ _ c.in-Some.key.now c.number.result c.new-low.ensures c.new-high.ensures (c.range.ensures.in_range tt) c.in-Some.ensures.steps c.number.ensures).least

pub returns-in-None-clause-from_on : goal.returns-in-None-clause-from_on
returns-in-None-clause-from_on c = omega (arith, c.if-end-from.false)

pub returns-in-None-clause-least : goal.returns-in-None-clause-least
returns-in-None-clause-least c =
    (none-found c.args.self.now c.args.at c.args.from c.args.end c.new-low.result c.new-high.result _ c.new-low.ensures c.new-high.ensures (omega (arith, c.if-end-from.false)) (c.range.ensures.in_range tt) c.in-None.ensures.steps.0).least
