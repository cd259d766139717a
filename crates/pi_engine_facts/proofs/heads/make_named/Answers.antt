use Rattle.std.proofs.Common.{subst, refl}
use Rattle.pi_constraints.specs.Unify.{unified}
use Rattle.pi_unify.specs.Answers.{Answers}
use Rattle.pi_engine_facts.proofs.HeadLemmas.{named-found, named-none}
use Rattle.pi_engine_facts.proofs.heads.make_named.Goals as goal

pub returns-then-one-clause-puts : goal.returns-then-one-clause-puts
returns-then-one-clause-puts g c = λ x y slots state puts term.
    let seen = g.S.StateStore.seen in
    let w = seen c.args.s.now in
    let low = c.look-root.ensures.below c.args.whole x.tree term in
    let high = c.look-root.ensures.below c.args.part y.tree puts.term in
    named-found w (seen c.unify.new.s) x y c.args.whole c.args.part slots (unified w.now.state x.tree y.tree) refl puts term c.unify.ensures.keeps (c.in_ok-one.ensures.state x.tree y.tree state term puts.term low high) low high
    (subst (λ b. Answers (unified w.now.state x.tree y.tree) b (seen c.unify.new.s).now.state) c.if-one.true (c.in_ok-one.ensures.unifies x.tree y.tree state term puts.term low high))

pub returns-else-one-clause-puts : goal.returns-else-one-clause-puts
returns-else-one-clause-puts g c = λ x y slots state puts term.
    let seen = g.S.StateStore.seen in
    let w = seen c.args.s.now in
    let low = c.look-root.ensures.below c.args.whole x.tree term in
    let high = c.look-root.ensures.below c.args.part y.tree puts.term in
    named-none w (seen c.unify.new.s) x y c.args.part slots (unified w.now.state x.tree y.tree) refl puts
    (subst (λ b. Answers (unified w.now.state x.tree y.tree) b (seen c.unify.new.s).now.state) c.if-one.false (c.in_ok-one.ensures.unifies x.tree y.tree state term puts.term low high))
