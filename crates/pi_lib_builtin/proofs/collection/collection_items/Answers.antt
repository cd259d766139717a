use Rattle.pi_effects.specs.declared.fault.Stop.{Stop}
use Rattle.pi_lib_builtin.specs.Items.{HoldsItems}
use Rattle.pi_lib_builtin.proofs.ResultLemmas.{stopped-shows}
use Rattle.pi_lib_builtin.proofs.collection.collection_items.Goals as goal

pub returns-in_err-found : goal.returns-in_err-found
returns-in_err-found g c = λ t a is.
    let v = g.S.StateStore.seen c.args.s.now in
    stopped-shows (HoldsItems v) v c.from_residual.result _ _ c.from_residual.ensures.1 (c.in_err-found.ensures t a is)

pub returns-in_err-into_items : goal.returns-in_err-into_items
returns-in_err-into_items g c = λ t a is.
    stopped-shows (HoldsItems (g.S.StateStore.seen c.args.s.now)) (g.S.StateStore.seen c.args.s.now) c.from_residual-in_err-into_items.result Stop.Memory _ c.from_residual-in_err-into_items.ensures.1 tt

pub returns : goal.returns
returns g c = λ t a is.
    let items = c.in_ok-found.ensures t a is in
    (items.0, items.1, c.in_ok-into_items.ensures items.0 a items.2)
