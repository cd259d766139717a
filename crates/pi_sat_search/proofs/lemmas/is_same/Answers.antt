use Rattle.std.proofs.Common.{arith, ◌≡◌, length, refl, false}
use Rattle.std.specs.Prelude.{pos}
use Rattle.pi_sat_search.proofs.SameLemmas.{same-lists}
use Rattle.pi_sat_search.proofs.lemmas.is_same.Goals as goal

pub returns : goal.returns
returns c =
    let count : length c.args.first.now ≡ length c.args.second.now = omega arith in
    (λ t. same-lists c.args.first.now c.args.second.now c.loop-i.i (record { var = 0; bound = pos 0; above = false }) count c.loop-i-test.false c.loop-i.invariant, λ e. refl)
