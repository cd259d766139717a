use Rattle.std.proofs.Common.{◌≡◌, ◌+◌, ◌<◌, ◌^◌, arith}
use Rattle.pi_core.specs.GoalTree.{nodes}
use Rattle.pi_engine_code.specs.Code.{tables_of}
use Rattle.pi_engine_code.proofs.CodeLemmas.{size-shown}
use Rattle.pi_engine_code.proofs.code.Code.behind.Goals as goal

pub returns : goal.returns
returns c = λ terms g at.
    let size : c.step.result.size ≡ nodes g = size-shown (tables_of terms c.args.self.now) c.step.result g (c.step.ensures.shows terms g at) in
    let fits : c.args.place + nodes g < 2 ^ 32 = at.fits in
    omega arith
