use Rattle.std.proofs.Common.{rules, sym}
use Rattle.pi_terms.specs.Tree.{var}
use Rattle.pi_queue.proofs.StoreLemmas.{made-root, shown-variable, shown-bounded, shown-name, shown-compound}
use Rattle.pi_queue.proofs.reading.root_of_variable.Goals as goal

pub returns-in-Var : goal.returns-in-Var
returns-in-Var g c = λ acyclic is.
    let st = (g.S.StateStore.seen c.args.s.now).now.state in
    sym (shown-variable st c.args.v c.in-Var.n (c.in-Var.ensures.shows (var c.args.v) (c.var_ref-at.ensures (made-root st c.args.v is)) acyclic))

pub returns-in-Int : goal.returns-in-Int
returns-in-Int g c = λ acyclic is.
    let st = (g.S.StateStore.seen c.args.s.now).now.state in
    shown-bounded st c.args.v c.in-Int.n _ c.integer.result (c.in-Int.ensures.shows (var c.args.v) (c.var_ref-at.ensures (made-root st c.args.v is)) acyclic) is c.integer.ensures (search rules)

pub returns-in-Atom : goal.returns-in-Atom
returns-in-Atom g c = λ acyclic is.
    let v = g.S.StateStore.seen c.args.s.now in
    sym (shown-name v v.now.state c.args.v _ (c.in-Atom.ensures.shows (var c.args.v) (c.var_ref-at.ensures (made-root v.now.state c.args.v is)) acyclic))

pub returns-in-Comp : goal.returns-in-Comp
returns-in-Comp g c = λ acyclic is.
    let v = g.S.StateStore.seen c.args.s.now in
    sym (shown-compound v v.now.state c.args.v _ _ (c.in-Comp.ensures.shows (var c.args.v) (c.var_ref-at.ensures (made-root v.now.state c.args.v is)) acyclic))
