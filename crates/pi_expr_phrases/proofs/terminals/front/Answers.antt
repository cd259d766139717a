use Rattle.pi_expr_phrases.proofs.StretchLemmas.{terminals_none, terminals_step}
use Rattle.pi_expr_phrases.proofs.terminals.front.Goals as goal

pub returns-then-end-ts : goal.returns-then-end-ts
returns-then-end-ts c = terminals_none c.args.ts _ _ c.min-end.ensures c.len.ensures c.if-end-ts.true

pub returns : goal.returns
returns c = terminals_step c.args.ts _ _ _ _ c.min-end.ensures c.if-end-ts.false c.kind-token.ensures.token c.terminal.ensures
