use Rattle.std.proofs.Common.{Some, ap, rules, ◌∙◌}
use Rattle.pi_terms.specs.Tree.{int}
use Rattle.pi_constraints.specs.Store.{IsTerm}
use Rattle.pi_effects.specs.Integers.{number}
use Rattle.pi_effects.specs.declared.fault.Stop.{Stop}
use Rattle.pi_effects.proofs.FaultLemmas.{integer-stops, integer-is}
use Rattle.pi_lib_builtin.proofs.ResultLemmas.{stays-none, stopped-shows}
use Rattle.pi_lib_builtin.proofs.operations.same_integer.Goals as goal

pub returns-in_err-m-clause-stays : goal.returns-in_err-m-clause-stays
returns-in_err-m-clause-stays g c = stays-none (g.S.StateStore.seen c.args.s.now)

pub returns-in_err-m-clause-shows : goal.returns-in_err-m-clause-shows
returns-in_err-m-clause-shows g c = λ t a one.
    let v = g.S.StateStore.seen c.args.s.now in
    stopped-shows (IsTerm v) v c.from_residual.result _ _ c.from_residual.ensures.1 (integer-stops v _ t number (c.in_err-m.ensures t a one))

pub returns-in_err-put_int-clause-stays : goal.returns-in_err-put_int-clause-stays
returns-in_err-put_int-clause-stays g c = c.in_err-put_int.ensures.err

pub returns-in_err-put_int-clause-shows : goal.returns-in_err-put_int-clause-shows
returns-in_err-put_int-clause-shows g c = λ t a one.
    stopped-shows (IsTerm (g.S.StateStore.seen c.put_int.new.self)) (g.S.StateStore.seen c.args.s.now) c.from_residual-in_err-put_int.result Stop.Memory _ c.from_residual-in_err-put_int.ensures.1 tt

pub returns-clause-stays : goal.returns-clause-stays
returns-clause-stays g c = c.in_ok-put_int.ensures.ok.changes

pub returns-clause-shows : goal.returns-clause-shows
returns-clause-shows g c = λ t a one. (
  int c.in_ok-m.m,
  integer-is (g.S.StateStore.seen c.args.s.now).now.state t number c.in_ok-m.m (c.in_ok-m.ensures t a one),
  c.in_ok-put_int.ensures.ok.term ∙ ap (λ z. Some (int z)) (search rules),
)
