use Rattle.pi_unify.proofs.KeepsLemmas.{makes_none}
use Rattle.pi_effects.specs.Items.{list_of}
use Rattle.pi_effects.specs.declared.fault.Stop.{Stop}
use Rattle.pi_lib.proofs.SizeLemmas.{size_stops, items_stop, items_given}
use Rattle.pi_lib.proofs.StopLemmas.{effect_stopped}
use Rattle.pi_lib.proofs.variables.new_list.Goals as goal

pub returns-in_err-size-clause-makes : goal.returns-in_err-size-clause-makes
returns-in_err-size-clause-makes g c = (0, makes_none (g.S.StateStore.seen c.args.s.now))

pub returns-in_err-count-clause-makes : goal.returns-in_err-count-clause-makes
returns-in_err-count-clause-makes g c = (0, makes_none (g.S.StateStore.seen c.args.s.now))

pub returns-in_err-size-clause-shows : goal.returns-in_err-size-clause-shows
returns-in_err-size-clause-shows g c = λ t a is.
    let v = g.S.StateStore.seen c.args.s.now in
    effect_stopped v v c.from_residual.result _ _ c.from_residual.ensures.1 (size_stops v _ t _ (c.in_err-size.ensures t a is))

pub returns-in_err-count-clause-shows : goal.returns-in_err-count-clause-shows
returns-in_err-count-clause-shows g c = λ t a is.
    let v = g.S.StateStore.seen c.args.s.now in
    effect_stopped v v c.from_residual-in_err-count.result _ _ c.from_residual-in_err-count.ensures.1
    (items_stop v list_of t c.in_ok-size.field-0 _ (c.in_ok-size.ensures t a is) c.in_err-count.ensures.err.0 c.in_err-count.ensures.err.1)

pub returns-in_err-made-clause-makes : goal.returns-in_err-made-clause-makes
returns-in_err-made-clause-makes g c = c.in_err-made.ensures.makes

pub returns-in_err-made-clause-shows : goal.returns-in_err-made-clause-shows
returns-in_err-made-clause-shows g c = λ t a is.
    effect_stopped (g.S.StateStore.seen c.args.s.now) (g.S.StateStore.seen c.put_list.new.s) c.from_residual-in_err-made.result Stop.Memory _ c.from_residual-in_err-made.ensures.1 tt

pub returns-clause-makes : goal.returns-clause-makes
returns-clause-makes g c = c.in_ok-made.ensures.makes

pub returns-clause-shows : goal.returns-clause-shows
returns-clause-shows g c = λ t a is.
    let v = g.S.StateStore.seen c.args.s.now in
    let w = g.S.StateStore.seen c.put_list.new.s in
    items_given v w list_of t c.in_ok-size.field-0 c.in_ok-count.count c.in_ok-made.made (c.in_ok-size.ensures t a is) c.in_ok-count.ensures.ok.0 c.in_ok-count.ensures.ok.1 c.in_ok-made.ensures.ok
