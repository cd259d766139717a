use Rattle.std.proofs.Common.{◌≡◌, Ok, ap, ap₂, sym, ◌∙◌, rules, to_z, of_z}
use Rattle.std.specs.Int.{w128}
use Rattle.std.proofs.lemmas.Int.{to_z-of_z}
use Rattle.pi_effects.specs.Value.{value_of}
use Rattle.pi_effects.proofs.FaultLemmas.{integer-stops}
use Rattle.pi_lib_builtin.proofs.OperationLemmas.{value-stops, value-is}
use Rattle.pi_lib_builtin.proofs.ResultLemmas.{stopped-same}
use Rattle.pi_lib_builtin.proofs.totals.joined.Goals as goal

pub returns-in_err-n : goal.returns-in_err-n
returns-in_err-n g c = λ t a is.
    let v = g.S.StateStore.seen c.args.s.now in
    stopped-same v c.from_residual.result _ _ c.from_residual.ensures.1 (integer-stops v _ t _ (c.in_err-n.ensures t a is))

pub returns-in_err-evaluate : goal.returns-in_err-evaluate
returns-in_err-evaluate g c = λ t a is.
    let v = g.S.StateStore.seen c.args.s.now in
    let sum : to_z w128 (of_z w128 c.args.sum) ≡ c.args.sum = to_z-of_z w128 c.args.sum c.ranges.sum in
    let same : to_z w128 (of_z w128 c.in_ok-n.n) ≡ c.in_ok-n.n = search rules in
    stopped-same v c.from_residual-in_err-evaluate.result _ _ c.from_residual-in_err-evaluate.ensures.1 (value-stops v t (λ n. value_of c.args.op c.args.sum n) (λ more. Ok more) c.in_ok-n.n _ (value_of c.args.op (to_z w128 (of_z w128 c.args.sum)) (to_z w128 (of_z w128 c.in_ok-n.n))) (c.in_ok-n.ensures t a is) c.in_err-evaluate.ensures (ap₂ (value_of c.args.op) sum same))

pub returns : goal.returns
returns g c = λ t a is.
    let sum : to_z w128 (of_z w128 c.args.sum) ≡ c.args.sum = to_z-of_z w128 c.args.sum c.ranges.sum in
    let same : to_z w128 (of_z w128 c.in_ok-n.n) ≡ c.in_ok-n.n = search rules in
    let back : to_z w128 (of_z w128 c.in_ok-evaluate.field-0) ≡ c.in_ok-evaluate.field-0 = search rules in
    value-is (g.S.StateStore.seen c.args.s.now).now.state t (λ n. value_of c.args.op c.args.sum n) (λ more. Ok more) c.in_ok-n.n c.in_ok-evaluate.field-0 (value_of c.args.op (to_z w128 (of_z w128 c.args.sum)) (to_z w128 (of_z w128 c.in_ok-n.n))) (c.in_ok-n.ensures t a is) c.in_ok-evaluate.ensures (ap₂ (value_of c.args.op) sum same) ∙ ap Ok (sym back)
