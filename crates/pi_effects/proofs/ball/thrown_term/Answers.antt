use Rattle.std.proofs.Common.{subst}
use Rattle.pi_constraints.specs.State.{bindings}
use Rattle.pi_constraints.specs.Value.{value}
use Rattle.pi_effects.specs.Reads.{IsCopied}
use Rattle.pi_effects.proofs.BallLemmas.{thrown-copy, thrown-large}
use Rattle.pi_effects.proofs.ball.thrown_term.Goals as goal

pub returns-in-Some : goal.returns-in-Some
returns-in-Some g c = λ t a is.
    let s = (g.S.StateStore.seen c.args.s.now).now.state in
    thrown-copy t c.in-Some.copy s (subst (IsCopied (value (bindings s) t)) c.in-Some.is (c.in_ok-copy.ensures t a is))

pub returns-in_ok-too_large-in-None : goal.returns-in_ok-too_large-in-None
returns-in_ok-too_large-in-None g c = λ t a is.
    let s = (g.S.StateStore.seen c.args.s.now).now.state in
    thrown-large t c.in_ok-too_large-in-None.field-0 s (subst (IsCopied (value (bindings s) t)) c.in-None.is (c.in_ok-copy.ensures t a is)) c.in_ok-too_large-in-None.ensures
