use Rattle.pi_expr_phrases.proofs.StretchLemmas.{terminals_length}
use Rattle.pi_expr_phrases.proofs.terminals.Terminals.len.Goals as goal

pub returns : goal.returns
returns c = terminals_length c.args.self _ _ _ c.saturating_sub.ensures c.min-end.ensures c.len.ensures
