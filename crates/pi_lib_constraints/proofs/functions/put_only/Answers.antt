use Rattle.std.proofs.Common.{rules}
use Rattle.std.specs.Prelude.{◌∷◌, []}
use Rattle.pi_constraints.specs.State.{bindings, followed}
use Rattle.pi_terms.specs.Tree.{int}
use Rattle.pi_lib_constraints.specs.Functions.{count_of}
use Rattle.pi_lib_constraints.proofs.FunctionLemmas.{only-listed, values-none, root-var, atom-none, comp-none}
use Rattle.pi_lib_constraints.proofs.functions.put_only.Goals as goal

pub returns-in_ok-made-in-Int-clause-shows : goal.returns-in_ok-made-in-Int-clause-shows
returns-in_ok-made-in-Int-clause-shows g c = λ t is at none.
    let v = g.S.StateStore.seen c.args.s.now in
    only-listed v (g.S.StateStore.seen c.put_list.new.s) c.in_ok-made-in-Int.made t c.in-Int.i _ (c.in-Int.ensures.shows t at is.acyclic) (c.in_ok-made-in-Int.ensures.ok (int _ ∷ []) (c.in_ok-value-in-Int.ensures.ok.term, tt)) (search rules)

pub returns-in-Var-clause-shows : goal.returns-in-Var-clause-shows
returns-in-Var-clause-shows g c = λ t is at none.
    let v = g.S.StateStore.seen c.args.s.now in
    values-none v v c.args.term t at (root-var v.now.state (followed (bindings v.now.state) t) c.in-Var.field-0 count_of (c.in-Var.ensures.shows t at is.acyclic) none)

pub returns-in-Atom-clause-shows : goal.returns-in-Atom-clause-shows
returns-in-Atom-clause-shows g c = λ t is at none.
    let v = g.S.StateStore.seen c.args.s.now in
    values-none v v c.args.term t at (atom-none v v.now.state (followed (bindings v.now.state) t) c.in-Atom.field-0 count_of (c.in-Atom.ensures.shows t at is.acyclic))

pub returns-in-Comp-clause-shows : goal.returns-in-Comp-clause-shows
returns-in-Comp-clause-shows g c = λ t is at none.
    let v = g.S.StateStore.seen c.args.s.now in
    values-none v v c.args.term t at (comp-none v v.now.state (followed (bindings v.now.state) t) c.in-Comp.field-0 c.in-Comp.field-1 count_of (c.in-Comp.ensures.shows t at is.acyclic))
