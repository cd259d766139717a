use Rattle.pi_expr.proofs.resume.brackets.in_parens.Goals as goal

pub returns-then-quoted : goal.returns-then-quoted
returns-then-quoted c = rw c.if-quoted.true c.quote.ensures

pub returns-else-quoted : goal.returns-else-quoted
returns-else-quoted c = λ e h. rw c.if-quoted.false h
