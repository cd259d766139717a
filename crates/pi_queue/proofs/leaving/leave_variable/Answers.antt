use Rattle.std.proofs.Common.{rules}
use Rattle.pi_terms.specs.Tree.{var}
use Rattle.pi_constraints.specs.declared.constraint.Item.{Item}
use Rattle.pi_settling.specs.Roots.{root_item}
use Rattle.pi_queue.proofs.StoreLemmas.{shown-integer, shown-variable, later-made}
use Rattle.pi_queue.proofs.TakeLemmas.{integer-takes-at, shown-takes, later-variable, variable-takes, no-atom, no-compound}
use Rattle.pi_queue.proofs.leaving.leave_variable.Goals as goal

pub returns-in-Int-clause-takes : goal.returns-in-Int-clause-takes
returns-in-Int-clause-takes g c = λ is later.
    let st = (g.S.StateStore.seen c.args.s.now).now.state in
    let shows = c.in-Int.ensures.shows (var c.args.v) (c.var_ref-at.ensures (later-made st c.args.v later)) is.acyclic in
    shown-takes st st (root_item st (Item.Var c.args.v)) (Item.Int c.in-Int.n) c.args.left.now c.args.lost.now.items c.args.lost.now.items c.contains.result (shown-integer st c.args.v c.in-Int.n shows)
    (integer-takes-at st c.args.left.now c.args.lost.now.items c.in-Int.n _ c.contains.result c.contains.ensures (search rules))

pub returns-in_ok-some-in-Var-clause-takes : goal.returns-in_ok-some-in-Var-clause-takes
returns-in_ok-some-in-Var-clause-takes g c = λ is later.
    let st = (g.S.StateStore.seen c.args.s.now).now.state in
    let shows = c.in-Var.ensures.shows (var c.args.v) (c.var_ref-at.ensures (later-made st c.args.v later)) is.acyclic in
    let had = later-variable st c.args.v _ later (shown-variable st c.args.v _ shows) in
    variable-takes st (g.S.StateStore.seen c.leave_unbound.new.s).now.state c.args.v had.0 c.args.left.now c.args.lost.now.items c.leave_unbound.new.lost.items c.in_ok-some-in-Var.some had.1 (c.in_ok-some-in-Var.ensures.takes had.0 is had.1)

pub returns-in-Atom-clause-takes : goal.returns-in-Atom-clause-takes
returns-in-Atom-clause-takes g c = λ is later.
    let v = g.S.StateStore.seen c.args.s.now in
    absurd (no-atom v v.now.state c.args.v _ later (c.in-Atom.ensures.shows (var c.args.v) (c.var_ref-at.ensures (later-made v.now.state c.args.v later)) is.acyclic))

pub returns-in-Comp-clause-takes : goal.returns-in-Comp-clause-takes
returns-in-Comp-clause-takes g c = λ is later.
    let v = g.S.StateStore.seen c.args.s.now in
    absurd (no-compound v v.now.state c.args.v _ _ later (c.in-Comp.ensures.shows (var c.args.v) (c.var_ref-at.ensures (later-made v.now.state c.args.v later)) is.acyclic))
