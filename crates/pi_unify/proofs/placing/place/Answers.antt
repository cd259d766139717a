use Rattle.pi_unify.specs.Copying.{MakesSome}
use Rattle.pi_unify.proofs.KeepsLemmas.{makes_none}
use Rattle.pi_unify.proofs.PlaceLemmas.{on_err}
use Rattle.pi_unify.proofs.placing.place.Goals as goal

pub returns-in_err-numbers-clause-err : goal.returns-in_err-numbers-clause-err
returns-in_err-numbers-clause-err g c =
    let v = g.S.StateStore.seen c.args.s.now in on_err c.from_residual.result (MakesSome v v) (0, makes_none v)
