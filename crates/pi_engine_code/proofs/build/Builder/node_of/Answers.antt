use Rattle.std.proofs.Common.{ap}
use Rattle.pi_core.specs.GoalCells.{kind_shown}
use Rattle.pi_engine_code.proofs.build.Builder.node_of.Goals as goal

pub returns-in_ok-operand_of-in-Catch-clause-is : goal.returns-in_ok-operand_of-in-Catch-clause-is
returns-in_ok-operand_of-in-Catch-clause-is g c = λ preds numbered. (c.in-Catch.ball.now, ap kind_shown c.in-Catch.is, c.in_ok-operand_of-in-Catch.ensures.is preds)
