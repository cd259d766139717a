use Rattle.pi_outside.proofs.WriteRuns.{ByWrites-none}
use Rattle.pi_top.specs.Handing.{none}
use Rattle.pi_top.proofs.query.write_answer.Goals as goal

pub returns-in-All-clause-told : goal.returns-in-All-clause-told
returns-in-All-clause-told g c = rw c.in-All.is c.write_lines.ensures.told

pub returns-in-WithoutAnswers-clause-told : goal.returns-in-WithoutAnswers-clause-told
returns-in-WithoutAnswers-clause-told g c = rw c.in-WithoutAnswers.is (ByWrites-none g.O.Sink.wrote g.O.Sink.taken c.args.out.now _ (record { all = none; cut = tt }))
