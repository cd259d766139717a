use Rattle.std.proofs.Common.{◌∙◌}
use Rattle.std.proofs.Common.{sym}
use Rattle.pi_engine_facts.proofs.CellLemmas.{comp-int, comp-atom, comp-count, comp-name}
use Rattle.pi_engine_facts.proofs.roots.is_no_compound.Goals as goal

pub returns-in-Int : goal.returns-in-Int
returns-in-Int g c = λ yes t shows. comp-int (g.S.StateStore.seen c.args.s.now) c.args.cell _ c.args.name.now c.args.patterns.now t c.in-Int.is shows

pub returns-in-Atom : goal.returns-in-Atom
returns-in-Atom g c = λ yes t shows. comp-atom (g.S.StateStore.seen c.args.s.now) c.args.cell _ c.args.name.now c.args.patterns.now t c.in-Atom.is shows

pub returns-then-count-patterns : goal.returns-then-count-patterns
returns-then-count-patterns g c = λ yes t shows. comp-count (g.S.StateStore.seen c.args.s.now) c.args.cell c.in-Comp.k c.in-Comp.count c.args.name.now c.args.patterns.now t c.in-Comp.is c.if-count-patterns.true shows

pub returns-else-count-patterns : goal.returns-else-count-patterns
returns-else-count-patterns g c = λ yes t shows.
    comp-name (g.S.StateStore.seen c.args.s.now) c.args.cell c.in-Comp.k c.in-Comp.count c.args.name.now c.name.result.now c.args.patterns.now t c.in-Comp.is (sym c.ne.ensures ∙ yes) c.name.ensures shows
