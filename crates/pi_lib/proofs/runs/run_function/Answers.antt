use Rattle.std.proofs.Common.{subst}
use Rattle.pi_effects.specs.Results.{ShowsEffect}
use Rattle.pi_lib.proofs.RunLemmas.{function-done, value-raised}
use Rattle.pi_lib.proofs.runs.run_function.Goals as goal

pub returns-in-Ok-clause-shows : goal.returns-in-Ok-clause-shows
returns-in-Ok-clause-shows g c = λ ts e a terms done.
    let v = g.S.StateStore.seen c.args.s.now in
    let w = g.S.StateStore.seen c.call_function.new.s in
    let call = function-done v c.args.name.now ts c.args.args.now c.in-Some.function e terms c.in-Some.ensures.some done in
    subst (λ r. ShowsEffect v w r e) c.in-Ok.is (c.call_function.ensures.shows ts e a terms call.0 call.1)

pub returns-in-Some-ball-clause-shows : goal.returns-in-Some-ball-clause-shows
returns-in-Some-ball-clause-shows g c = λ ts e a terms done.
    let v = g.S.StateStore.seen c.args.s.now in
    let w = g.S.StateStore.seen c.call_function.new.s in
    let call = function-done v c.args.name.now ts c.args.args.now c.in-Some.function e terms c.in-Some.ensures.some done in
    value-raised v w c.in-Err.stop e c.in-Some-ball.ball a (subst (λ r. ShowsEffect v w r e) c.in-Err.is (c.call_function.ensures.shows ts e a terms call.0 call.1)) c.in-Some-ball.ensures
