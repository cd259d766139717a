use Rattle.std.proofs.Common.{arith}
use Rattle.pi_core.proofs.GoalPlaces.{nodes-children}
use Rattle.pi_engine_code.proofs.LaidTests.{shows-truth, shows-no-truth}
use Rattle.pi_engine_code.proofs.build.Builder.guard_of.Goals as goal

pub node-requires : goal.node-requires
node-requires g c = omega (arith, nodes-children c.args.guard.now)

pub returns-in-True-clause-laid : goal.returns-in-True-clause-laid
returns-in-True-clause-laid g c = λ all numbered. shows-truth c.args.guard.now c.node.result c.node.ensures.shows c.in-True.is

pub returns-in_ok-place-in_default : goal.returns-in_ok-place-in_default
returns-in_ok-place-in_default g c =
    record {
      keeps = c.in_ok-place-in_default.ensures.keeps;
      adds = c.in_ok-place-in_default.ensures.adds;
      laid = λ all numbered. (shows-no-truth c.args.guard.now c.node.result c.node.ensures.shows c.in_default.not-True, c.in_ok-place-in_default.ensures.laid all numbered);
      resolved = c.in_ok-place-in_default.ensures.resolved;
    }
