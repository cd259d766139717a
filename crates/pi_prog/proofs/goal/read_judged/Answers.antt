use Rattle.pi_lex.specs.Kinds.{kinds}
use Rattle.pi_syntax.specs.ExpTree.{exp_tree}
use Rattle.pi_syntax.specs.ProgramTree.{source_tree}
use Rattle.pi_prog.proofs.goal.GoalLemmas.{has_goal, body_fault}
use Rattle.pi_prog.proofs.goal.read_judged.Goals as goal

pub returns-in-Err-judge_goal-clause-fault : goal.returns-in-Err-judge_goal-clause-fault
returns-in-Err-judge_goal-clause-fault c =
    body_fault (kinds c.args.tokens.now) (source_tree c.args.program.now) (exp_tree c.in-Ok.body) c.in-Err-judge_goal.fault c.in-Ok.ensures.body c.in-Err-judge_goal.ensures.fault

pub returns-in_default-clause-goal : goal.returns-in_default-clause-goal
returns-in_default-clause-goal c =
    has_goal (kinds c.args.tokens.now) (source_tree c.args.program.now) (exp_tree c.in-Ok.body) c.in-Ok.ensures.body c.in_default.ensures.ok

pub returns-in-Err-clause-fault : goal.returns-in-Err-clause-fault
returns-in-Err-clause-fault c = c.in-Err.ensures.fault (source_tree c.args.program.now)
