use Rattle.std.proofs.Common.{◌∙◌, sym}
use Rattle.pi_prog.proofs.goal.GoalLemmas.{no_tokens, goal_before, goal_whole}
use Rattle.pi_prog.proofs.goal.goal_end.Goals as goal

pub returns-then-count-eq0-clause-before : goal.returns-then-count-eq0-clause-before
returns-then-count-eq0-clause-before c = no_tokens c.args.tokens.now c.len-count.result c.len-count.ensures c.if-count-eq0.true

pub returns-then-is_end-clause-before : goal.returns-then-is_end-clause-before
returns-then-is_end-clause-before c =
    goal_before c.args.tokens.now c.len-count.result c.len-count.ensures _ c.if-count-eq0.false c.kind.ensures.token (sym c.is_end.ensures ∙ c.if-is_end.true)

pub returns-clause-before : goal.returns-clause-before
returns-clause-before c =
    goal_whole c.args.tokens.now c.len-count.result c.len-count.ensures _ c.if-count-eq0.false c.kind.ensures.token (sym c.is_end.ensures ∙ c.if-is_end.false)
