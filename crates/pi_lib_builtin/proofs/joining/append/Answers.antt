use Rattle.std.proofs.Common.{Ok, sym, ◌∙◌, subst}
use Rattle.pi_effects.specs.Items.{list_onto}
use Rattle.pi_effects.specs.Collections.{list_then}
use Rattle.pi_lib_builtin.specs.Items.{AreItems}
use Rattle.pi_lib_builtin.proofs.CollectionLemmas.{list-is, list-stops}
use Rattle.pi_constraints.specs.Store.{IsTerm}
use Rattle.pi_effects.specs.declared.fault.Stop.{Stop}
use Rattle.pi_lib_builtin.proofs.ResultLemmas.{stays-none, stopped-shows}
use Rattle.pi_lib_builtin.proofs.joining.append.Goals as goal

pub returns-clause-shows : goal.returns-clause-shows
returns-clause-shows g c = λ t u a one two.
    let v = g.S.StateStore.seen c.args.s.now in
    let items = c.in_ok-items.ensures t a one in
    let behind = c.in_ok-_behind.ensures u a two in
    let ts = items.0 in (
      list_onto ts u,
      list-is v t (λ xs. list_then v.now.state u (λ us. Ok (list_onto xs u))) ts items.1 ∙ list-is v u (λ us. Ok (list_onto ts u)) behind.0 behind.1,
      c.in_ok-made.ensures.ok ts u (subst (λ rs. AreItems v rs ts) (sym c.deref.ensures.value) items.2) two,
    )

pub returns-in_err-items-clause-stays : goal.returns-in_err-items-clause-stays
returns-in_err-items-clause-stays g c = stays-none (g.S.StateStore.seen c.args.s.now)

pub returns-in_err-items-clause-shows : goal.returns-in_err-items-clause-shows
returns-in_err-items-clause-shows g c = λ t u a one two.
    let v = g.S.StateStore.seen c.args.s.now in
    stopped-shows (IsTerm v) v c.from_residual.result _ _ c.from_residual.ensures.1 (list-stops v _ t (λ xs. list_then v.now.state u (λ us. Ok (list_onto xs u))) (c.in_err-items.ensures t a one))

pub returns-in_err-_behind-clause-stays : goal.returns-in_err-_behind-clause-stays
returns-in_err-_behind-clause-stays g c = stays-none (g.S.StateStore.seen c.args.s.now)

pub returns-in_err-made-clause-stays : goal.returns-in_err-made-clause-stays
returns-in_err-made-clause-stays g c = c.in_err-made.ensures.stays

pub returns-in_err-made-clause-shows : goal.returns-in_err-made-clause-shows
returns-in_err-made-clause-shows g c = λ t u a one two. stopped-shows (IsTerm (g.S.StateStore.seen c.put_onto.new.s)) (g.S.StateStore.seen c.args.s.now) c.from_residual-in_err-made.result Stop.Memory _ c.from_residual-in_err-made.ensures.1 tt

pub returns-clause-stays : goal.returns-clause-stays
returns-clause-stays g c = c.in_ok-made.ensures.stays
