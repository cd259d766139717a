use Rattle.std.proofs.Common.{◌≡◌, [], None, Ok, reverse, ap, subst}
use Rattle.std.specs.Prelude.{unwrap_or}
use Rattle.pi_constraints.specs.State.{bindings}
use Rattle.pi_effects.specs.Items.{list_of, list_items}
use Rattle.pi_lib_builtin.specs.Items.{ShowsItems}
use Rattle.pi_lib_builtin.proofs.BuildLemmas.{reversed-none}
use Rattle.pi_constraints.specs.Store.{IsTerm}
use Rattle.pi_effects.specs.declared.fault.Stop.{Stop}
use Rattle.pi_lib_builtin.proofs.ResultLemmas.{stays-none, stopped-shows}
use Rattle.pi_lib_builtin.proofs.joining.in_order.Goals as goal

pub returns-in_ok-put_atom-in-None-clause-shows : goal.returns-in_ok-put_atom-in-None-clause-shows
returns-in_ok-put_atom-in-None-clause-shows g c = λ t a is.
    let v = g.S.StateStore.seen c.args.s.now in
    let items = list_items (bindings v.now.state) t in
    let none : items ≡ None = subst (ShowsItems v items) c.in-None.is (c.in_ok-found.ensures t a is) in (
      list_of [],
      ap (λ o. Ok (list_of (reverse (unwrap_or o [])))) none,
      reversed-none (g.S.StateStore.seen c.put_atom.new.self) [] c.in_ok-put_atom-in-None.field-0 c.in_ok-put_atom-in-None.ensures.ok.term,
    )

pub returns-in_err-found-clause-stays : goal.returns-in_err-found-clause-stays
returns-in_err-found-clause-stays g c = stays-none (g.S.StateStore.seen c.args.s.now)

pub returns-in_err-found-clause-shows : goal.returns-in_err-found-clause-shows
returns-in_err-found-clause-shows g c = λ t a is.
    let v = g.S.StateStore.seen c.args.s.now in
    stopped-shows (IsTerm v) v c.from_residual.result Stop.Memory _ c.from_residual.ensures.1 tt

pub returns-in_err-put_reversed-in-Some-clause-stays : goal.returns-in_err-put_reversed-in-Some-clause-stays
returns-in_err-put_reversed-in-Some-clause-stays g c = c.in_err-put_reversed-in-Some.ensures.stays

pub returns-in_err-put_reversed-in-Some-clause-shows : goal.returns-in_err-put_reversed-in-Some-clause-shows
returns-in_err-put_reversed-in-Some-clause-shows g c = λ t a is. stopped-shows (IsTerm (g.S.StateStore.seen c.put_reversed.new.s)) (g.S.StateStore.seen c.args.s.now) c.from_residual-in_err-put_reversed-in-Some.result Stop.Memory _ c.from_residual-in_err-put_reversed-in-Some.ensures.1 tt

pub returns-in_ok-put_reversed-in-Some-clause-stays : goal.returns-in_ok-put_reversed-in-Some-clause-stays
returns-in_ok-put_reversed-in-Some-clause-stays g c = c.in_ok-put_reversed-in-Some.ensures.stays

pub returns-in_err-put_atom-in-None-clause-stays : goal.returns-in_err-put_atom-in-None-clause-stays
returns-in_err-put_atom-in-None-clause-stays g c = c.in_err-put_atom-in-None.ensures.err

pub returns-in_err-put_atom-in-None-clause-shows : goal.returns-in_err-put_atom-in-None-clause-shows
returns-in_err-put_atom-in-None-clause-shows g c = λ t a is. stopped-shows (IsTerm (g.S.StateStore.seen c.put_atom.new.self)) (g.S.StateStore.seen c.args.s.now) c.from_residual-in_err-put_atom-in-None.result Stop.Memory _ c.from_residual-in_err-put_atom-in-None.ensures.1 tt

pub returns-in_ok-put_atom-in-None-clause-stays : goal.returns-in_ok-put_atom-in-None-clause-stays
returns-in_ok-put_atom-in-None-clause-stays g c = c.in_ok-put_atom-in-None.ensures.ok.changes
