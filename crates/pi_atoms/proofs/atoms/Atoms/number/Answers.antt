use Rattle.std.proofs.Common.{sym, ◌∙◌}
use Rattle.pi_atoms.proofs.AtomLemmas.{at_place, stored_as, grows_after, distinct_after}
use Rattle.pi_atoms.proofs.atoms.Atoms.number.Goals as goal

pub returns-in-Some-clause-ok : goal.returns-in-Some-clause-ok
returns-in-Some-clause-ok c = rw (← c.self.view_is) (at_place c.self.inside.names.keys _ _ (sym c.get_index_of.ensures.index ∙ c.in-Some.is))

pub invariant_of-self-2 : goal.invariant_of-self-2
invariant_of-self-2 c = distinct_after c.self.inside.names.keys _ c.in_ok-string.string c.in_ok-number.ensures.keys c.self.invariant

pub returns-clause-ok : goal.returns-clause-ok
returns-clause-ok c = let s = c.in_ok-number.ensures.stored in stored_as c.insert_full.new.self.keys c.in_ok-number.number c.in_ok-string.string s.0 _ c.in_ok-string.ensures.ok s.1 s.2

pub returns-clause-grows : goal.returns-clause-grows
returns-clause-grows c = grows_after c.self.inside.names.keys _ c.in_ok-string.string _ _ _ c.in_ok-number.ensures.keys c.self.view_is c.in_ok-string.ensures.ok

pub returns-clause-distinct : goal.returns-clause-distinct
returns-clause-distinct c = distinct_after c.self.inside.names.keys _ c.in_ok-string.string c.in_ok-number.ensures.keys c.self.invariant
