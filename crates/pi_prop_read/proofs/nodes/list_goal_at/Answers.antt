-- By what the store shows at the root.
use Rattle.pi_prop_read.specs.Refs.{tree_of}
use Rattle.pi_prop_read.proofs.LoopLemmas.{so-many, not-so-many}
use Rattle.pi_prop_read.proofs.GoalNodes.{variable-goal, integer-goal, atom-goal, one-goal, three-goal, other-goal}
use Rattle.pi_prop_read.proofs.nodes.list_goal_at.Goals as goal

pub returns-in-Var : goal.returns-in-Var
returns-in-Var g c = λ s here.
    let v = g.S.StateStore.seen c.args.s.now in
    variable-goal v c.args.term c.look.result c.in-Var.field-0 s c.in-Var.is (c.look.ensures.shows (tree_of v.now c.args.term) here s.acyclic)

pub returns-in-Int : goal.returns-in-Int
returns-in-Int g c = λ s here.
    let v = g.S.StateStore.seen c.args.s.now in
    integer-goal v c.args.term c.look.result c.in-Int.field-0 s c.in-Int.is (c.look.ensures.shows (tree_of v.now c.args.term) here s.acyclic)

pub returns-in-Atom : goal.returns-in-Atom
returns-in-Atom g c = λ s here.
    let v = g.S.StateStore.seen c.args.s.now in
    atom-goal v c.args.term c.in-Atom.field-0 s (c.in-Atom.ensures.shows (tree_of v.now c.args.term) here s.acyclic)

pub returns-then-count-eq1 : goal.returns-then-count-eq1
returns-then-count-eq1 g c = λ s here.
    let v = g.S.StateStore.seen c.args.s.now in
    one-goal v c.args.term c.arg.result c.in-Comp.name c.in-Comp.count c.name.result.now c.one_named.result s here (c.in-Comp.ensures.shows (tree_of v.now c.args.term) here s.acyclic) c.name.ensures (so-many c.in-Comp.count 1 c.if-count-eq1.true) c.arg.ensures c.one_named.ensures

pub returns-then-count-eq3 : goal.returns-then-count-eq3
returns-then-count-eq3 g c = λ s here.
    let v = g.S.StateStore.seen c.args.s.now in
    three-goal v c.args.term c.arg-then-count-eq3.result c.arg-then-count-eq3-2.result c.arg-then-count-eq3-3.result c.in-Comp.name c.in-Comp.count c.name-then-count-eq3.result.now c.three_named.result s here (c.in-Comp.ensures.shows (tree_of v.now c.args.term) here s.acyclic)
    c.name-then-count-eq3.ensures (so-many c.in-Comp.count 3 c.if-count-eq3.true) c.arg-then-count-eq3.ensures c.arg-then-count-eq3-2.ensures c.arg-then-count-eq3-3.ensures c.three_named.ensures

pub returns-else-count-eq3 : goal.returns-else-count-eq3
returns-else-count-eq3 g c = λ s here.
    let v = g.S.StateStore.seen c.args.s.now in
    other-goal v c.args.term c.in-Comp.name c.in-Comp.count s (c.in-Comp.ensures.shows (tree_of v.now c.args.term) here s.acyclic) (not-so-many c.in-Comp.count 1 c.if-count-eq1.false) (not-so-many c.in-Comp.count 3 c.if-count-eq3.false)
