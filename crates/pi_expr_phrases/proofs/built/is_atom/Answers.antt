use Rattle.pi_expr_phrases.proofs.TreeLemmas.{atom_is, not_atom}
use Rattle.pi_expr_phrases.proofs.built.is_atom.Goals as goal

pub returns-in-Atom : goal.returns-in-Atom
returns-in-Atom c = atom_is _ _ c.in-Atom.is

pub returns-in_default : goal.returns-in_default
returns-in_default c = not_atom _ c.in_default.not-Atom
