use Rattle.std.proofs.Common.{subst, sym}
use Rattle.std.specs.Prelude.{Err}
use Rattle.pi_settling.specs.Asked.{asked}
use Rattle.pi_lib_solve.specs.Asks.{ShowsAsked}
use Rattle.pi_lib_solve.proofs.AskLemmas.{by-words, words-refused}
use Rattle.pi_lib_solve.proofs.asking.ask_by_options.Goals as goal

pub returns-in-Ok : goal.returns-in-Ok
returns-in-Ok g c = λ t u a is at. by-words (g.S.StateStore.seen c.args.s.now) t u c.in-Ok.options c.ask_for.result (c.in-Ok.ensures t a is) (λ o are. c.ask_for.ensures o u a at are)

pub returns-in-Err : goal.returns-in-Err
returns-in-Err g c = λ t u a is at.
    let v = g.S.StateStore.seen c.args.s.now in
    subst (λ e. ShowsAsked v (Err e) (asked v.now.state t u)) (sym c.stop_of.ensures) (words-refused v t u c.in-Err.fault (c.in-Err.ensures t a is))
