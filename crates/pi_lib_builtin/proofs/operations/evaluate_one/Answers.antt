use Rattle.std.proofs.Common.{◌≡◌, pos, Some, ap, rules, ◌∙◌, to_z, of_z}
use Rattle.std.specs.Int.{w128}
use Rattle.pi_terms.specs.Tree.{int}
use Rattle.pi_effects.specs.Value.{value_of}
use Rattle.pi_constraints.specs.Store.{IsTerm}
use Rattle.pi_effects.specs.Answer.{integer_then}
use Rattle.pi_effects.specs.Integers.{number, outcome_then}
use Rattle.pi_effects.specs.declared.fault.Stop.{Stop}
use Rattle.pi_effects.proofs.FaultLemmas.{integer-stops}
use Rattle.pi_lib_builtin.proofs.ResultLemmas.{stays-none, stopped-shows}
use Rattle.pi_lib_builtin.proofs.OperationLemmas.{value-stops, value-is}
use Rattle.pi_lib_builtin.proofs.operations.evaluate_one.Goals as goal

pub returns-in_err-m-clause-stays : goal.returns-in_err-m-clause-stays
returns-in_err-m-clause-stays g c = stays-none (g.S.StateStore.seen c.args.s.now)

pub returns-in_err-m-clause-shows : goal.returns-in_err-m-clause-shows
returns-in_err-m-clause-shows g c = λ t a one.
    let v = g.S.StateStore.seen c.args.s.now in
    stopped-shows (IsTerm v) v c.from_residual.result _ _ c.from_residual.ensures.1 (integer-stops v _ t (λ m. outcome_then (value_of c.args.op m (pos 0)) number) (c.in_err-m.ensures t a one))

pub returns-in_err-value-clause-stays : goal.returns-in_err-value-clause-stays
returns-in_err-value-clause-stays g c = stays-none (g.S.StateStore.seen c.args.s.now)

pub returns-in_err-put_int-clause-stays : goal.returns-in_err-put_int-clause-stays
returns-in_err-put_int-clause-stays g c = c.in_err-put_int.ensures.err

pub returns-in_err-put_int-clause-shows : goal.returns-in_err-put_int-clause-shows
returns-in_err-put_int-clause-shows g c = λ t a one.
    stopped-shows (IsTerm (g.S.StateStore.seen c.put_int.new.self)) (g.S.StateStore.seen c.args.s.now) c.from_residual-in_err-put_int.result Stop.Memory _ c.from_residual-in_err-put_int.ensures.1 tt

pub returns-clause-stays : goal.returns-clause-stays
returns-clause-stays g c = c.in_ok-put_int.ensures.ok.changes

pub returns-in_err-value-clause-shows : goal.returns-in_err-value-clause-shows
returns-in_err-value-clause-shows g c = λ t a one.
    let v = g.S.StateStore.seen c.args.s.now in
    let same : to_z w128 (of_z w128 c.in_ok-m.m) ≡ c.in_ok-m.m = search rules in
    stopped-shows (IsTerm v) v c.from_residual-in_err-value.result _ _ c.from_residual-in_err-value.ensures.1
    (value-stops v t (λ m. value_of c.args.op m (pos 0)) number c.in_ok-m.m _ (value_of c.args.op (to_z w128 (of_z w128 c.in_ok-m.m)) (pos 0)) (c.in_ok-m.ensures t a one) c.in_err-value.ensures (ap (λ m. value_of c.args.op m (pos 0)) same))

pub returns-clause-shows : goal.returns-clause-shows
returns-clause-shows g c = λ t a one.
    let same : to_z w128 (of_z w128 c.in_ok-m.m) ≡ c.in_ok-m.m = search rules in
    let put : to_z w128 (of_z w128 c.in_ok-value.value) ≡ c.in_ok-value.value = search rules in (
      int c.in_ok-value.value,
      value-is (g.S.StateStore.seen c.args.s.now).now.state t (λ m. value_of c.args.op m (pos 0)) number c.in_ok-m.m c.in_ok-value.value (value_of c.args.op (to_z w128 (of_z w128 c.in_ok-m.m)) (pos 0)) (c.in_ok-m.ensures t a one) c.in_ok-value.ensures (ap (λ m. value_of c.args.op m (pos 0)) same),
      c.in_ok-put_int.ensures.ok.term ∙ ap (λ z. Some (int z)) put,
    )
