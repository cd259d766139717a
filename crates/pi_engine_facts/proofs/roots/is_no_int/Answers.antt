use Rattle.pi_engine_facts.proofs.CellLemmas.{int-int, int-atom, int-comp}
use Rattle.pi_engine_facts.proofs.roots.is_no_int.Goals as goal

pub returns-in-Int : goal.returns-in-Int
returns-in-Int g c = λ yes t shows. int-int (g.S.StateStore.seen c.args.s.now) c.args.cell c.in-Int.m c.args.n t c.in-Int.is yes shows

pub returns-in-Atom : goal.returns-in-Atom
returns-in-Atom g c = λ yes t shows. int-atom (g.S.StateStore.seen c.args.s.now) c.args.cell _ c.args.n t c.in-Atom.is shows

pub returns-in-Comp : goal.returns-in-Comp
returns-in-Comp g c = λ yes t shows. int-comp (g.S.StateStore.seen c.args.s.now) c.args.cell _ _ c.args.n t c.in-Comp.is shows
