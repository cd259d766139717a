use Rattle.std.proofs.Common.{◌≡◌, Some, ap, ap₂, rules, ◌∙◌, to_z, of_z}
use Rattle.std.specs.Int.{w128}
use Rattle.pi_terms.specs.Tree.{int}
use Rattle.pi_effects.specs.Value.{value_of}
use Rattle.pi_constraints.specs.Store.{IsTerm}
use Rattle.pi_effects.specs.Answer.{integer_then}
use Rattle.pi_effects.specs.Integers.{number, outcome_then}
use Rattle.pi_effects.specs.declared.fault.Stop.{Stop}
use Rattle.pi_effects.proofs.FaultLemmas.{integer-stops, integers-stop}
use Rattle.pi_lib_builtin.proofs.ResultLemmas.{stays-none, stopped-shows}
use Rattle.pi_lib_builtin.proofs.OperationLemmas.{values-stop, values-are}
use Rattle.pi_lib_builtin.proofs.operations.evaluate_two.Goals as goal

pub returns-in_err-m-clause-stays : goal.returns-in_err-m-clause-stays
returns-in_err-m-clause-stays g c = stays-none (g.S.StateStore.seen c.args.s.now)

pub returns-in_err-m-clause-shows : goal.returns-in_err-m-clause-shows
returns-in_err-m-clause-shows g c = λ t u a one two.
    let v = g.S.StateStore.seen c.args.s.now in
    stopped-shows (IsTerm v) v c.from_residual.result _ _ c.from_residual.ensures.1 (integer-stops v _ t (λ m. integer_then v.now.state u (λ n. outcome_then (value_of c.args.op m n) number)) (c.in_err-m.ensures t a one))

pub returns-in_err-n-clause-stays : goal.returns-in_err-n-clause-stays
returns-in_err-n-clause-stays g c = stays-none (g.S.StateStore.seen c.args.s.now)

pub returns-in_err-n-clause-shows : goal.returns-in_err-n-clause-shows
returns-in_err-n-clause-shows g c = λ t u a one two.
    let v = g.S.StateStore.seen c.args.s.now in
    stopped-shows (IsTerm v) v c.from_residual-in_err-n.result _ _ c.from_residual-in_err-n.ensures.1 (integers-stop v _ t u (λ m n. outcome_then (value_of c.args.op m n) number) c.in_ok-m.m (c.in_ok-m.ensures t a one) (c.in_err-n.ensures u a two))

pub returns-in_err-value-clause-stays : goal.returns-in_err-value-clause-stays
returns-in_err-value-clause-stays g c = stays-none (g.S.StateStore.seen c.args.s.now)

pub returns-in_err-put_int-clause-stays : goal.returns-in_err-put_int-clause-stays
returns-in_err-put_int-clause-stays g c = c.in_err-put_int.ensures.err

pub returns-in_err-put_int-clause-shows : goal.returns-in_err-put_int-clause-shows
returns-in_err-put_int-clause-shows g c = λ t u a one two.
    stopped-shows (IsTerm (g.S.StateStore.seen c.put_int.new.self)) (g.S.StateStore.seen c.args.s.now) c.from_residual-in_err-put_int.result Stop.Memory _ c.from_residual-in_err-put_int.ensures.1 tt

pub returns-clause-stays : goal.returns-clause-stays
returns-clause-stays g c = c.in_ok-put_int.ensures.ok.changes

pub returns-in_err-value-clause-shows : goal.returns-in_err-value-clause-shows
returns-in_err-value-clause-shows g c = λ t u a one two.
    let v = g.S.StateStore.seen c.args.s.now in
    let left : to_z w128 (of_z w128 c.in_ok-m.m) ≡ c.in_ok-m.m = search rules in
    let right : to_z w128 (of_z w128 c.in_ok-n.n) ≡ c.in_ok-n.n = search rules in
    stopped-shows (IsTerm v) v c.from_residual-in_err-value.result _ _ c.from_residual-in_err-value.ensures.1
    (values-stop v t u (value_of c.args.op) number c.in_ok-m.m c.in_ok-n.n _ (value_of c.args.op (to_z w128 (of_z w128 c.in_ok-m.m)) (to_z w128 (of_z w128 c.in_ok-n.n))) (c.in_ok-m.ensures t a one) (c.in_ok-n.ensures u a two) c.in_err-value.ensures (ap₂ (value_of c.args.op) left right))

pub returns-clause-shows : goal.returns-clause-shows
returns-clause-shows g c = λ t u a one two.
    let left : to_z w128 (of_z w128 c.in_ok-m.m) ≡ c.in_ok-m.m = search rules in
    let right : to_z w128 (of_z w128 c.in_ok-n.n) ≡ c.in_ok-n.n = search rules in
    let same : to_z w128 (of_z w128 c.in_ok-value.value) ≡ c.in_ok-value.value = search rules in (
      int c.in_ok-value.value,
      values-are (g.S.StateStore.seen c.args.s.now).now.state t u (value_of c.args.op) number c.in_ok-m.m c.in_ok-n.n c.in_ok-value.value (value_of c.args.op (to_z w128 (of_z w128 c.in_ok-m.m)) (to_z w128 (of_z w128 c.in_ok-n.n))) (c.in_ok-m.ensures t a one) (c.in_ok-n.ensures u a two) c.in_ok-value.ensures (ap₂ (value_of c.args.op) left right),
      c.in_ok-put_int.ensures.ok.term ∙ ap (λ z. Some (int z)) same,
    )
