use Rattle.std.proofs.Common.{◌∙◌}
use Rattle.std.proofs.Common.{sym}
use Rattle.pi_engine_facts.proofs.CellLemmas.{atom-int, atom-atom, atom-comp}
use Rattle.pi_engine_facts.proofs.roots.is_no_atom.Goals as goal

pub returns-in-Int : goal.returns-in-Int
returns-in-Int g c = λ yes t shows. atom-int (g.S.StateStore.seen c.args.s.now) c.args.cell _ c.args.name.now t c.in-Int.is shows

pub returns-in-Atom : goal.returns-in-Atom
returns-in-Atom g c = λ yes t shows. atom-atom (g.S.StateStore.seen c.args.s.now) c.args.cell c.in-Atom.k c.args.name.now c.name.result.now t c.in-Atom.is (sym c.ne.ensures ∙ yes) c.name.ensures shows

pub returns-in-Comp : goal.returns-in-Comp
returns-in-Comp g c = λ yes t shows. atom-comp (g.S.StateStore.seen c.args.s.now) c.args.cell _ _ c.args.name.now t c.in-Comp.is shows
