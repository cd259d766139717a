use Rattle.pi_constraints.specs.Store.{IsTerm}
use Rattle.pi_effects.specs.declared.fault.Stop.{Stop}
use Rattle.pi_lib_builtin.proofs.CollectionLemmas.{collection-stops}
use Rattle.pi_lib_builtin.proofs.ResultLemmas.{stays-none, stopped-shows}
use Rattle.pi_lib_builtin.proofs.totals.put_total.Goals as goal

pub returns-in_err-items-clause-stays : goal.returns-in_err-items-clause-stays
returns-in_err-items-clause-stays g c = stays-none (g.S.StateStore.seen c.args.s.now)

pub returns-in_err-items-clause-shows : goal.returns-in_err-items-clause-shows
returns-in_err-items-clause-shows g c = λ t a is.
    let v = g.S.StateStore.seen c.args.s.now in
    stopped-shows (IsTerm v) v c.from_residual.result _ _ c.from_residual.ensures.1 (collection-stops v _ t _ (c.in_err-items.ensures t a is))

pub returns-in_err-sum-clause-stays : goal.returns-in_err-sum-clause-stays
returns-in_err-sum-clause-stays g c = stays-none (g.S.StateStore.seen c.args.s.now)

pub returns-in_err-put_int-clause-stays : goal.returns-in_err-put_int-clause-stays
returns-in_err-put_int-clause-stays g c = c.in_err-put_int.ensures.err

pub returns-in_err-put_int-clause-shows : goal.returns-in_err-put_int-clause-shows
returns-in_err-put_int-clause-shows g c = λ t a is. stopped-shows (IsTerm (g.S.StateStore.seen c.put_int.new.self)) (g.S.StateStore.seen c.args.s.now) c.from_residual-in_err-put_int.result Stop.Memory _ c.from_residual-in_err-put_int.ensures.1 tt

pub returns-clause-stays : goal.returns-clause-stays
returns-clause-stays g c = c.in_ok-put_int.ensures.ok.changes
