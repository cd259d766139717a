-- By what the term is as a goal.
use Rattle.std.proofs.Common.{ap}
use Rattle.pi_prop_spec.specs.Operands.{relates, is_so, all_different, all_distinct, element}
use Rattle.pi_prop_spec.specs.Postings.{read_goal}
use Rattle.pi_prop_read.specs.Refs.{value_at, operand_at}
use Rattle.pi_prop_read.specs.Relations.{comparison_of}
use Rattle.pi_prop_read.specs.TruthNodes.{boolean_at}
use Rattle.pi_prop_read.proofs.GoalLemmas.{goal-as}
use Rattle.pi_prop_read.proofs.goals.read_goal.Goals as goal

pub returns-in-Relation : goal.returns-in-Relation
returns-in-Relation g c = λ m s here shown l.
    let w = (g.S.StateStore.seen c.args.s.now).now in
    let n = c.in-Relation.ensures s here in
    goal-as w c.args.goal (relates (comparison_of c.in-Relation.comparison) (operand_at w c.in-Relation.left) (operand_at w c.in-Relation.right)) m c.post_relation.new.making c.post_relation.result n.is (c.post_relation.ensures m s n.parts.0 n.parts.1 shown l)

pub returns-in-Truth : goal.returns-in-Truth
returns-in-Truth g c = λ m s here shown l.
    let w = (g.S.StateStore.seen c.args.s.now).now in
    goal-as w c.args.goal (is_so (boolean_at w c.args.goal)) m c.post_truth.new.making c.post_truth.result (c.in-Truth.ensures s here).is (c.post_truth.ensures m s here shown l)

pub returns-in-Different : goal.returns-in-Different
returns-in-Different g c = λ m s here shown l.
    let w = (g.S.StateStore.seen c.args.s.now).now in
    let n = c.in-Different.ensures s here in
    goal-as w c.args.goal (all_different (value_at w c.in-Different.items)) m c.post_different.new.making c.post_different.result n.is (c.post_different.ensures m s n.parts shown)

pub returns-in-Distinct : goal.returns-in-Distinct
returns-in-Distinct g c = λ m s here shown l.
    let w = (g.S.StateStore.seen c.args.s.now).now in
    let n = c.in-Distinct.ensures s here in
    goal-as w c.args.goal (all_distinct (value_at w c.in-Distinct.items)) m c.post_distinct.new.making c.post_distinct.result n.is (c.post_distinct.ensures m s n.parts shown)

pub returns-in-Element : goal.returns-in-Element
returns-in-Element g c = λ m s here shown l.
    let w = (g.S.StateStore.seen c.args.s.now).now in
    let n = c.in-Element.ensures s here in
    goal-as w c.args.goal (element (value_at w c.in-Element.index) (value_at w c.in-Element.items) (value_at w c.in-Element.value)) m c.post_element.new.making c.post_element.result n.is (c.post_element.ensures m s n.parts.0 n.parts.1 n.parts.2 shown)

pub returns-in-Other : goal.returns-in-Other
returns-in-Other g c = λ m s here shown l. (here, ap (λ x. read_goal x m) (c.in-Other.ensures s here).is)
