-- What the goal makes, judged behind all steps.
use Rattle.std.proofs.Common.{arith, ◌∙◌, sym, subst}
use Rattle.pi_prop_spec.specs.Postings.{read_goal, nothing_made, posting_in}
use Rattle.pi_prop_read.proofs.RootLemmas.{there}
use Rattle.pi_prop_read.specs.GoalNodes.{goal_at}
use Rattle.pi_prop_read.specs.Faults.{Stops}
use Rattle.pi_prop_read.proofs.GoalLemmas.{posting-as, finished-as, stops-as}
use Rattle.pi_prop_read.proofs.reading.read_constraint.Goals as goal

pub returns-in-Ok-finish : goal.returns-in-Ok-finish
returns-in-Ok-finish g c = λ t s is.
    let w = (g.S.StateStore.seen c.args.s.now).now in
    let n = c.vars-made.result in
    let r = read_goal (goal_at w c.args.goal) in
    let h = c.in-Ok.ensures (nothing_made n) s (there w c.args.goal t is) c.new-making.ensures (omega (arith, c.vars-made.ensures)) in
    sym (posting-as w c.args.goal t n is c.vars-made.ensures) ∙ (finished-as n r tt c.read_goal.new.making h ∙ c.in-Ok-finish.ensures h.made h.shown)

pub returns-in-Err-Terms : goal.returns-in-Err-Terms
returns-in-Err-Terms g c = λ t s is.
    let w = (g.S.StateStore.seen c.args.s.now).now in
    let n = c.vars-made.result in
    let r = read_goal (goal_at w c.args.goal) in
    let h = c.in-Ok.ensures (nothing_made n) s (there w c.args.goal t is) c.new-making.ensures (omega (arith, c.vars-made.ensures)) in
    sym (posting-as w c.args.goal t n is c.vars-made.ensures) ∙ (finished-as n r tt c.read_goal.new.making h ∙ (rw c.in-Err-Terms.field-0-is at c.in-Err-Terms.ensures) h.made h.shown)

pub returns-in-Err-Width : goal.returns-in-Err-Width
returns-in-Err-Width g c = λ t s is.
    let w = (g.S.StateStore.seen c.args.s.now).now in
    let n = c.vars-made.result in
    let r = read_goal (goal_at w c.args.goal) in
    let h = c.in-Ok.ensures (nothing_made n) s (there w c.args.goal t is) c.new-making.ensures (omega (arith, c.vars-made.ensures)) in
    sym (posting-as w c.args.goal t n is c.vars-made.ensures) ∙ (finished-as n r tt c.read_goal.new.making h ∙ (rw c.in-Err-Width.field-0-is at c.in-Err-Width.ensures) h.made h.shown)

pub returns-in-Err : goal.returns-in-Err
returns-in-Err g c = λ t s is.
    let w = (g.S.StateStore.seen c.args.s.now).now in
    let n = c.vars-made.result in
    let o = read_goal (goal_at w c.args.goal) (nothing_made n) in
    let h = c.in-Err.ensures (nothing_made n) s (there w c.args.goal t is) c.new-making.ensures (omega (arith, c.vars-made.ensures)) in
    c.fault_of.ensures (posting_in w.state t) s (subst (Stops w c.in-Err.stop) (posting-as w c.args.goal t n is c.vars-made.ensures) (stops-as w c.in-Err.stop n o h))
