use Rattle.std.proofs.Common.{subst, sym, refl}
use Rattle.pi_lib_solve.specs.Asks.{ShowsAsked}
use Rattle.pi_lib_solve.proofs.AskLemmas.{plain, plainly-is}
use Rattle.pi_lib_solve.proofs.asking.ask_plainly.Goals as goal

pub returns : goal.returns
returns g c = λ t a is.
    let v = g.S.StateStore.seen c.args.s.now in
    subst (ShowsAsked v c.ask_for.result) (sym (plainly-is v.now.state t a)) (c.ask_for.ensures plain t a is (record { picked = refl; tried = refl; sought = tt }))
