-- By what the store shows at the root.
use Rattle.std.specs.Prelude.{◌≡◌}
use Rattle.std.specs.Int.{w128}
use Rattle.std.proofs.Common.{rules, ◌∙◌, ap, sym, subst, to_z, of_z}
use Rattle.pi_prop_read.specs.Refs.{tree_of}
use Rattle.pi_prop_read.proofs.LoopLemmas.{so-many, not-so-many}
use Rattle.pi_prop_read.specs.declared.truths.nodes.TruthNode.{TruthNode}
use Rattle.pi_prop_read.specs.TruthNodes.{ShowsTruthNode}
use Rattle.pi_prop_read.proofs.TruthNodes.{variable-truth, integer-truth, atom-truth, one-truth, two-truth, other-truth}
use Rattle.pi_prop_read.proofs.truths.nodes.truth_node_at.Goals as goal

pub returns-in-Var : goal.returns-in-Var
returns-in-Var g c = λ s here.
    let v = g.S.StateStore.seen c.args.s.now in
    variable-truth v c.args.term c.in-Var.variable s (c.in-Var.ensures.shows (tree_of v.now c.args.term) here s.acyclic)

pub returns-in-Int : goal.returns-in-Int
returns-in-Int g c = λ s here.
    let v = g.S.StateStore.seen c.args.s.now in
    let bits : to_z w128 (of_z w128 c.in-Int.number) ≡ c.in-Int.number = search rules in
    subst (λ i. ShowsTruthNode v.now c.args.term (TruthNode.Number i)) (sym bits) (integer-truth v c.args.term c.look.result c.in-Int.number s c.in-Int.is (c.look.ensures.shows (tree_of v.now c.args.term) here s.acyclic))

pub returns-in-Atom : goal.returns-in-Atom
returns-in-Atom g c = λ s here.
    let v = g.S.StateStore.seen c.args.s.now in
    atom-truth v c.args.term c.in-Atom.field-0 s (c.in-Atom.ensures.shows (tree_of v.now c.args.term) here s.acyclic)

pub returns-then-count-eq1 : goal.returns-then-count-eq1
returns-then-count-eq1 g c = λ s here.
    let v = g.S.StateStore.seen c.args.s.now in
    one-truth v c.args.term c.arg.result c.in-Comp.name c.in-Comp.count c.name.result.now c.node_of_one.result s here (c.in-Comp.ensures.shows (tree_of v.now c.args.term) here s.acyclic) c.name.ensures (so-many c.in-Comp.count 1 c.if-count-eq1.true) c.arg.ensures c.node_of_one.ensures

pub returns-then-count-eq2 : goal.returns-then-count-eq2
returns-then-count-eq2 g c = λ s here.
    let v = g.S.StateStore.seen c.args.s.now in
    two-truth v c.args.term c.arg-then-count-eq2.result c.arg-then-count-eq2-2.result c.in-Comp.name c.in-Comp.count c.name-then-count-eq2.result.now c.node_of_two.result s here (c.in-Comp.ensures.shows (tree_of v.now c.args.term) here s.acyclic) c.name-then-count-eq2.ensures
    (so-many c.in-Comp.count 2 c.if-count-eq2.true) c.arg-then-count-eq2.ensures c.arg-then-count-eq2-2.ensures c.node_of_two.ensures

pub returns-else-count-eq2 : goal.returns-else-count-eq2
returns-else-count-eq2 g c = λ s here.
    let v = g.S.StateStore.seen c.args.s.now in
    other-truth v c.args.term c.in-Comp.name c.in-Comp.count s (c.in-Comp.ensures.shows (tree_of v.now c.args.term) here s.acyclic) (not-so-many c.in-Comp.count 1 c.if-count-eq1.false) (not-so-many c.in-Comp.count 2 c.if-count-eq2.false)
