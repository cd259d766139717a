use Rattle.pi_terms.proofs.TermLemmas.{subterm_shows}
use Rattle.pi_terms.proofs.term.Term.head_at.Goals as goal

pub returns : goal.returns
returns c = subterm_shows _ _ _ _ _ c.self.invariant c.self.view_is c.index.ensures c.head.ensures c.requires
