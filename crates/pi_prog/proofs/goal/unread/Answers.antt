use Rattle.pi_prog.proofs.goal.GoalLemmas.{no_expression, too_deep_goal}
use Rattle.pi_prog.proofs.goal.unread.Goals as goal

pub returns-in-NoExpression : goal.returns-in-NoExpression
returns-in-NoExpression c = λ tokens program is. no_expression tokens program c.args.fault c.in-NoExpression.is is

pub returns-in-TooDeep : goal.returns-in-TooDeep
returns-in-TooDeep c = λ tokens program is. too_deep_goal tokens program c.args.fault c.in-TooDeep.is is
