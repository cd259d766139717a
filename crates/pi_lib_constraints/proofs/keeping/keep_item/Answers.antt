use Rattle.std.proofs.Common.{rules}
use Rattle.pi_lib_constraints.specs.Kept.{item_term}
use Rattle.pi_lib_constraints.proofs.KeepLemmas.{integer-left, leads, variable-left, atom-left, comp-left}
use Rattle.pi_lib_constraints.proofs.keeping.keep_item.Goals as goal

pub returns-in-Int-clause-left : goal.returns-in-Int-clause-left
returns-in-Int-clause-left g c = λ x is at.
    let v = g.S.StateStore.seen c.args.s.now in
    integer-left c.args.wanted c.as_wanted.result c.contains.result c.args.domain.now c.args.kept.now v.now.state x c.in-Int.n _ (c.in-Int.ensures.shows (item_term x) at is.acyclic) c.as_wanted.ensures c.contains.ensures (search rules)

pub returns-in_ok-some-in-Var-clause-left : goal.returns-in_ok-some-in-Var-clause-left
returns-in_ok-some-in-Var-clause-left g c = λ x is at.
    let v = g.S.StateStore.seen c.args.s.now in
    let n = c.in-Var.field-0 in
    let root = c.in-Var.ensures.shows (item_term x) at is.acyclic in
    variable-left c.args.wanted c.in_ok-some-in-Var.some c.args.domain.now c.args.kept.now v.now.state (g.S.StateStore.seen c.keep_variable.new.s).now.state x n root (c.in_ok-some-in-Var.ensures.left n is (leads v c.args.item x n at root))

pub returns-in-Atom-clause-left : goal.returns-in-Atom-clause-left
returns-in-Atom-clause-left g c = λ x is at.
    let v = g.S.StateStore.seen c.args.s.now in
    atom-left v c.args.wanted c.args.domain.now c.args.kept.now v.now.state x c.in-Atom.field-0 (c.in-Atom.ensures.shows (item_term x) at is.acyclic)

pub returns-in-Comp-clause-left : goal.returns-in-Comp-clause-left
returns-in-Comp-clause-left g c = λ x is at.
    let v = g.S.StateStore.seen c.args.s.now in
    comp-left v c.args.wanted c.args.domain.now c.args.kept.now v.now.state x c.in-Comp.field-0 c.in-Comp.field-1 (c.in-Comp.ensures.shows (item_term x) at is.acyclic)
