use Rattle.pi_lex.proofs.NaturalLemmas.{natural_at}
use Rattle.pi_lex.proofs.token_list.Tokens.kind.Goals as goal

pub returns-clause-natural : goal.returns-clause-natural
returns-clause-natural c = natural_at _ _ _ c.self.invariant.1 c.kind.ensures
