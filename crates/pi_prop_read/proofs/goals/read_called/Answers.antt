-- By the kind of the goal.
use Rattle.std.proofs.Common.{subst}
use Rattle.pi_prop_spec.specs.Operands.{negation, joined}
use Rattle.pi_prop_spec.specs.Postings.{read_goal}
use Rattle.pi_prop_read.specs.TruthNodes.{connective_of, boolean_at}
use Rattle.pi_prop_read.specs.Goals.{ShowsGoal}
use Rattle.pi_prop_read.specs.Called.{goal_as, HasParts}
use Rattle.pi_prop_read.proofs.GoalLemmas.{called-as}
use Rattle.pi_prop_read.proofs.goals.read_called.Goals as goal

pub returns-in-Relation : goal.returns-in-Relation
returns-in-Relation g c = λ m s has shown l.
    let w = (g.S.StateStore.seen c.args.s.now).now in
    let h = subst (HasParts w) c.in-Relation.is has in
    called-as w c.args.goal _ m c.post_relation.new.making c.post_relation.result c.in-Relation.is (c.post_relation.ensures m s h.0 h.1 shown l)

pub returns-in-Negation : goal.returns-in-Negation
returns-in-Negation g c = λ m s has shown l.
    let w = (g.S.StateStore.seen c.args.s.now).now in
    let h = subst (HasParts w) c.in-Negation.is has in
    called-as w c.args.goal _ m c.post_known.new.making c.post_known.result c.in-Negation.is (c.post_known.ensures w m (negation (boolean_at w c.in-Negation.part)) (c.read_negation-truth.ensures m s h shown l))

pub returns-in-Joined : goal.returns-in-Joined
returns-in-Joined g c = λ m s has shown l.
    let w = (g.S.StateStore.seen c.args.s.now).now in
    let h = subst (HasParts w) c.in-Joined.is has in
    called-as w c.args.goal _ m c.post_known-in-Joined.new.making c.post_known-in-Joined.result c.in-Joined.is
    (c.post_known-in-Joined.ensures w m (joined (connective_of c.in-Joined.connective) (boolean_at w c.in-Joined.left) (boolean_at w c.in-Joined.right)) (c.read_joined-truth.ensures m s h.0 h.1 shown l))

pub returns-in-Different : goal.returns-in-Different
returns-in-Different g c = λ m s has shown l.
    let w = (g.S.StateStore.seen c.args.s.now).now in
    let h = subst (HasParts w) c.in-Different.is has in
    called-as w c.args.goal _ m c.post_different.new.making c.post_different.result c.in-Different.is (c.post_different.ensures m s h shown)

pub returns-in-Distinct : goal.returns-in-Distinct
returns-in-Distinct g c = λ m s has shown l.
    let w = (g.S.StateStore.seen c.args.s.now).now in
    let h = subst (HasParts w) c.in-Distinct.is has in
    called-as w c.args.goal _ m c.post_distinct.new.making c.post_distinct.result c.in-Distinct.is (c.post_distinct.ensures m s h shown)

pub returns-in-Element : goal.returns-in-Element
returns-in-Element g c = λ m s has shown l.
    let w = (g.S.StateStore.seen c.args.s.now).now in
    let h = subst (HasParts w) c.in-Element.is has in
    called-as w c.args.goal _ m c.post_element.new.making c.post_element.result c.in-Element.is (c.post_element.ensures m s h.0 h.1 h.2 shown)
