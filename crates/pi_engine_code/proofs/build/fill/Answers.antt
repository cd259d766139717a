use Rattle.std.proofs.Common.{◌++◌, []}
use Rattle.std.proofs.lemmas.Result.{IfOk-weaker}
use Rattle.pi_engine_code.specs.Numbers.{IsNumbering}
use Rattle.pi_engine_code.proofs.build.fill.Goals as goal

pub returns-clause-filled : goal.returns-clause-filled
returns-clause-filled g c =
    let numbered : IsNumbering c.add-2.new.self (c.args.preds.now ++ c.args.helpers.now) = c.in_ok-add-2.ensures c.args.preds.now (c.in_ok-add.ensures [] c.new-numbers.ensures) in
    IfOk-weaker c.add_all-place.result _ _ (λ place so blank acyclic. so blank numbered acyclic) c.add_all-place.ensures.filled
