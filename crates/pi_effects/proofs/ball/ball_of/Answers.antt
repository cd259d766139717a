use Rattle.std.proofs.Common.{◌∙◌, sym, subst, codes}
use Rattle.pi_effects.specs.Exception.{exception_with, bad_format}
use Rattle.pi_effects.specs.Balls.{IsBall}
use Rattle.pi_effects.proofs.BallLemmas.{no-first, told-is}
use Rattle.pi_effects.proofs.ball.ball_of.Goals as goal

pub returns-in_ok-no_first-in-NoFirst : goal.returns-in_ok-no_first-in-NoFirst
returns-in_ok-no_first-in-NoFirst g c = λ ball a is.
    let v = g.S.StateStore.seen c.args.s.now in
    c.in_ok-no_first-in-NoFirst.ensures ∙ sym (no-first v.now.state) ∙ sym (subst (λ f. IsBall v f ball) c.in-NoFirst.is is)

pub returns-in_ok-exception-in-BadFormat : goal.returns-in_ok-exception-in-BadFormat
returns-in_ok-exception-in-BadFormat g c = λ ball a is.
    let v = g.S.StateStore.seen c.args.s.now in
    told-is v c.in-BadFormat.term bad_format c.in_ok-exception-in-BadFormat.field-0 ball (λ t h. c.in_ok-exception-in-BadFormat.ensures t a h) (subst (λ f. IsBall v f ball) c.in-BadFormat.is is)

pub returns-in_ok-exception-in-NotAConstraint : goal.returns-in_ok-exception-in-NotAConstraint
returns-in_ok-exception-in-NotAConstraint g c = λ ball a is.
    let v = g.S.StateStore.seen c.args.s.now in
    told-is v c.in-NotAConstraint.term (exception_with (codes "not_a_constraint")) c.in_ok-exception-in-NotAConstraint.field-0 ball (λ t h. c.in_ok-exception-in-NotAConstraint.ensures t a h)
    (subst (λ f. IsBall v f ball) c.in-NotAConstraint.is is)

pub returns-in_ok-exception-in-BadOption : goal.returns-in_ok-exception-in-BadOption
returns-in_ok-exception-in-BadOption g c = λ ball a is.
    let v = g.S.StateStore.seen c.args.s.now in
    told-is v c.in-BadOption.term (exception_with (codes "bad_option")) c.in_ok-exception-in-BadOption.field-0 ball (λ t h. c.in_ok-exception-in-BadOption.ensures t a h)
    (subst (λ f. IsBall v f ball) c.in-BadOption.is is)
