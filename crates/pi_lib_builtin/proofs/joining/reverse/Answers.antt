use Rattle.std.proofs.Common.{Ok, reverse, sym, subst}
use Rattle.pi_constraints.specs.Store.{IsTerm}
use Rattle.pi_effects.specs.Items.{list_of}
use Rattle.pi_effects.specs.declared.fault.Stop.{Stop}
use Rattle.pi_lib_builtin.specs.Items.{AreItems}
use Rattle.pi_lib_builtin.proofs.CollectionLemmas.{list-is, list-stops}
use Rattle.pi_lib_builtin.proofs.ResultLemmas.{stays-none, stopped-shows}
use Rattle.pi_lib_builtin.proofs.joining.reverse.Goals as goal

pub returns-in_err-items-clause-stays : goal.returns-in_err-items-clause-stays
returns-in_err-items-clause-stays g c = stays-none (g.S.StateStore.seen c.args.s.now)

pub returns-in_err-items-clause-shows : goal.returns-in_err-items-clause-shows
returns-in_err-items-clause-shows g c = λ t a is.
    let v = g.S.StateStore.seen c.args.s.now in
    stopped-shows (IsTerm v) v c.from_residual.result _ _ c.from_residual.ensures.1 (list-stops v _ t (λ ts. Ok (list_of (reverse ts))) (c.in_err-items.ensures t a is))

pub returns-in_err-put_reversed-clause-stays : goal.returns-in_err-put_reversed-clause-stays
returns-in_err-put_reversed-clause-stays g c = c.in_err-put_reversed.ensures.stays

pub returns-in_err-put_reversed-clause-shows : goal.returns-in_err-put_reversed-clause-shows
returns-in_err-put_reversed-clause-shows g c = λ t a is. stopped-shows (IsTerm (g.S.StateStore.seen c.put_reversed.new.s)) (g.S.StateStore.seen c.args.s.now) c.from_residual-in_err-put_reversed.result Stop.Memory _ c.from_residual-in_err-put_reversed.ensures.1 tt

pub returns-clause-stays : goal.returns-clause-stays
returns-clause-stays g c = c.in_ok-put_reversed.ensures.stays

pub returns-clause-shows : goal.returns-clause-shows
returns-clause-shows g c = λ t a is.
    let v = g.S.StateStore.seen c.args.s.now in
    let items = c.in_ok-items.ensures t a is in
    let ts = items.0 in (
      list_of (reverse ts),
      list-is v t (λ ts. Ok (list_of (reverse ts))) ts items.1,
      c.in_ok-put_reversed.ensures.ok ts (subst (λ rs. AreItems v rs ts) (sym c.deref.ensures.value) items.2),
    )
