use Rattle.std.proofs.Common.{arith}
use Rattle.pi_prop_places.proofs.FitLemmas.{negative_back, unwrapped}
use Rattle.pi_prop_places.proofs.OneLemmas.{scaled_both}
use Rattle.pi_prop_places.proofs.keeps.keep_scaled.Goals as goal

pub returns : goal.returns
returns g c =
    scaled_both _ _ _ c.args.k c.args.coefficient c.args.lo c.args.hi _ _ _ _
    (negative_back c.args.coefficient (omega (arith, c.requires.narrow))) (unwrapped c.args.lo (omega (arith, c.requires.low)))
    (unwrapped c.args.coefficient (omega (arith, c.requires.narrow))) (negative_back c.args.hi (omega (arith, c.requires.high)))
    c.in_ok-cut_place.ensures c.in_ok-cut_place-2.ensures
