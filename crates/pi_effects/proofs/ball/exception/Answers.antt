use Rattle.std.proofs.Common.{subst}
use Rattle.pi_constraints.specs.State.{bindings}
use Rattle.pi_constraints.specs.Value.{value}
use Rattle.pi_effects.specs.Reads.{IsCopied}
use Rattle.pi_effects.proofs.BallLemmas.{exception-copy, exception-large}
use Rattle.pi_effects.proofs.ball.exception.Goals as goal

pub returns-in_ok-comp-in-Some : goal.returns-in_ok-comp-in-Some
returns-in_ok-comp-in-Some g c = λ t a is.
    let s = (g.S.StateStore.seen c.args.s.now).now.state in
    exception-copy c.args.name.now t c.in-Some.copy c.in_ok-comp-in-Some.field-0 s (subst (IsCopied (value (bindings s) t)) c.in-Some.is (c.in_ok-copy.ensures t a is)) c.in_ok-comp-in-Some.ensures.ok

pub returns-in_ok-too_large-in-None : goal.returns-in_ok-too_large-in-None
returns-in_ok-too_large-in-None g c = λ t a is.
    let s = (g.S.StateStore.seen c.args.s.now).now.state in
    exception-large c.args.name.now t c.in_ok-too_large-in-None.field-0 s (subst (IsCopied (value (bindings s) t)) c.in-None.is (c.in_ok-copy.ensures t a is)) c.in_ok-too_large-in-None.ensures
