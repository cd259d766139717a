use Rattle.pi_unify.proofs.SlotLemmas.{atom_told, no_atom_told}
use Rattle.pi_unify.proofs.matching.is_atom.Goals as goal

pub returns-in-Atom : goal.returns-in-Atom
returns-in-Atom g c = λ t shown. atom_told (g.S.StateStore.seen c.args.s.now) t c.args.cell c.in-Atom.k c.args.name.now c.has_name.result c.in-Atom.is shown c.has_name.ensures

pub returns-in_default : goal.returns-in_default
returns-in_default g c = λ t shown. no_atom_told (g.S.StateStore.seen c.args.s.now) t c.args.cell c.args.name.now c.in_default.not-Atom shown
