-- What the goal makes, judged after all steps.
use Rattle.std.proofs.Common.{arith, ◌∙◌, sym, subst}
use Rattle.pi_constraints.specs.State.{next}
use Rattle.pi_prop_spec.specs.Postings.{read_goal, nothing_made, posting_of}
use Rattle.pi_prop_read.specs.Called.{goal_as, posting_stop, ShowsCalled}
use Rattle.pi_prop_read.proofs.GoalLemmas.{posting-for, finished-as, stops-so}
use Rattle.pi_prop_read.proofs.called.read_posting.Goals as goal

pub returns-in-Ok-finish : goal.returns-in-Ok-finish
returns-in-Ok-finish g c = λ s has.
    let w = (g.S.StateStore.seen c.args.s.now).now in
    let n = c.vars-made.result in
    let h = c.in-Ok.ensures (nothing_made n) s has c.new-making.ensures (omega (arith, c.vars-made.ensures)) in
    sym (posting-for (goal_as w c.args.goal) n (next w.state) c.vars-made.ensures) ∙ (finished-as n (read_goal (goal_as w c.args.goal)) tt c.read_called.new.making h ∙ c.in-Ok-finish.ensures h.made h.shown)

pub returns-in-Err-Terms : goal.returns-in-Err-Terms
returns-in-Err-Terms g c = λ s has.
    let w = (g.S.StateStore.seen c.args.s.now).now in
    let n = c.vars-made.result in
    let h = c.in-Ok.ensures (nothing_made n) s has c.new-making.ensures (omega (arith, c.vars-made.ensures)) in
    sym (posting-for (goal_as w c.args.goal) n (next w.state) c.vars-made.ensures) ∙ (finished-as n (read_goal (goal_as w c.args.goal)) tt c.read_called.new.making h ∙ (rw c.in-Err-Terms.field-0-is at c.in-Err-Terms.ensures) h.made h.shown)

pub returns-in-Err-Width : goal.returns-in-Err-Width
returns-in-Err-Width g c = λ s has.
    let w = (g.S.StateStore.seen c.args.s.now).now in
    let n = c.vars-made.result in
    let h = c.in-Ok.ensures (nothing_made n) s has c.new-making.ensures (omega (arith, c.vars-made.ensures)) in
    sym (posting-for (goal_as w c.args.goal) n (next w.state) c.vars-made.ensures) ∙ (finished-as n (read_goal (goal_as w c.args.goal)) tt c.read_called.new.making h ∙ (rw c.in-Err-Width.field-0-is at c.in-Err-Width.ensures) h.made h.shown)

pub returns-in-Err : goal.returns-in-Err
returns-in-Err g c = λ s has.
    let w = (g.S.StateStore.seen c.args.s.now).now in
    let n = c.vars-made.result in
    let h = c.in-Err.ensures (nothing_made n) s has c.new-making.ensures (omega (arith, c.vars-made.ensures)) in
    stops-so w c.in-Err.stop c.posting_stop.result n (goal_as w c.args.goal) (next w.state) c.vars-made.ensures c.posting_stop.ensures h
