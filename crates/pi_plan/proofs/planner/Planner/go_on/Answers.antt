use Rattle.pi_plan.specs.Planner.{wanted_of}
use Rattle.pi_plan.proofs.StageLemmas.{lacks_at}
use Rattle.pi_plan.proofs.planner.Planner.go_on.Goals as goal

pub returns-clause-lacks : goal.returns-clause-lacks
returns-clause-lacks c = λ sound.
    lacks_at c.told.result c.args.self.now.stage c.reach_stage.new.self.stage (wanted_of c.args.self.now) c.args.self.now.given c.reach_stage.new.self.search
    (c.in_ok-reach_stage.ensures.goes sound) c.told.ensures.lacks
