-- A goal over items, or what the term is as a Boolean expression.
use Rattle.pi_prop_read.proofs.GoalNodes.{different-node, distinct-node, element-node, variable-node, number-node, relation-node, negation-node, joined-node, other-node}
use Rattle.pi_prop_read.proofs.nodes.goal_node_at.Goals as goal

pub returns-in-Different : goal.returns-in-Different
returns-in-Different g c = λ s here.
    let w = (g.S.StateStore.seen c.args.s.now).now in
    different-node w c.args.term c.in-Different.items (c.in-Different.ensures s here)

pub returns-in-Distinct : goal.returns-in-Distinct
returns-in-Distinct g c = λ s here.
    let w = (g.S.StateStore.seen c.args.s.now).now in
    distinct-node w c.args.term c.in-Distinct.items (c.in-Distinct.ensures s here)

pub returns-in-Element : goal.returns-in-Element
returns-in-Element g c = λ s here.
    let w = (g.S.StateStore.seen c.args.s.now).now in
    element-node w c.args.term c.in-Element.index c.in-Element.items c.in-Element.value (c.in-Element.ensures s here)

pub returns-in-Variable : goal.returns-in-Variable
returns-in-Variable g c = λ s here.
    let w = (g.S.StateStore.seen c.args.s.now).now in
    variable-node w c.args.term c.in-Variable.field-0 (c.in-Other.ensures s here) (c.in-Variable.ensures s here)

pub returns-in-Number : goal.returns-in-Number
returns-in-Number g c = λ s here.
    let w = (g.S.StateStore.seen c.args.s.now).now in
    number-node w c.args.term c.in-Number.field-0 (c.in-Other.ensures s here) (c.in-Number.ensures s here)

pub returns-in-Relation : goal.returns-in-Relation
returns-in-Relation g c = λ s here.
    let w = (g.S.StateStore.seen c.args.s.now).now in
    relation-node w c.args.term c.in-Relation.left c.in-Relation.right c.in-Relation.comparison (c.in-Other.ensures s here) (c.in-Relation.ensures s here)

pub returns-in-Negation : goal.returns-in-Negation
returns-in-Negation g c = λ s here.
    let w = (g.S.StateStore.seen c.args.s.now).now in
    negation-node w c.args.term c.in-Negation.field-0 (c.in-Other.ensures s here) (c.in-Negation.ensures s here)

pub returns-in-Joined : goal.returns-in-Joined
returns-in-Joined g c = λ s here.
    let w = (g.S.StateStore.seen c.args.s.now).now in
    joined-node w c.args.term c.in-Joined.field-1 c.in-Joined.field-2 c.in-Joined.field-0 (c.in-Other.ensures s here) (c.in-Joined.ensures s here)

pub returns-in-Other-truth_node_at : goal.returns-in-Other-truth_node_at
returns-in-Other-truth_node_at g c = λ s here.
    let w = (g.S.StateStore.seen c.args.s.now).now in
    other-node w c.args.term (c.in-Other.ensures s here) (c.in-Other-truth_node_at.ensures s here)
