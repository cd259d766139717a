use Rattle.std.proofs.Common.{arith}
use Rattle.pi_terms.proofs.TermLemmas.{first_spelt, some_spelt, first_shows}
use Rattle.pi_terms.proofs.term.Term.head.Goals as goal

pub index-requires : goal.index-requires
index-requires c = let some = some_spelt _ c.self.invariant in omega arith

pub returns : goal.returns
returns c = first_shows _ _ _ (first_spelt _ _ _ c.self.invariant c.self.view_is c.index.ensures) c.head.ensures
