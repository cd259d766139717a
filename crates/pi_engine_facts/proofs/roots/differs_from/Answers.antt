use Rattle.std.proofs.Common.{rules}
use Rattle.pi_engine_facts.proofs.CellLemmas.{as-int, as-atom, as-comp}
use Rattle.pi_engine_facts.proofs.roots.differs_from.Goals as goal

pub returns-in-Int : goal.returns-in-Int
returns-in-Int g c = λ yes t shows. as-int c.args.pattern.now c.in-Int.n _ t c.in-Int.is (search rules) (c.is_no_int.ensures yes t shows)

pub returns-in-Atom : goal.returns-in-Atom
returns-in-Atom g c = λ yes t shows. as-atom c.args.pattern.now _ c.as_str.result.now t c.in-Atom.is (search rules) (c.is_no_atom.ensures yes t shows)

pub returns-in-Comp : goal.returns-in-Comp
returns-in-Comp g c = λ yes t shows. as-comp c.args.pattern.now _ c.as_str-in-Comp.result.now _ c.as_slice.result.now t c.in-Comp.is (search rules) (search rules) (c.is_no_compound.ensures yes t shows)
