use Rattle.std.proofs.Common.{◌≡◌, ap, ◌∙◌, rules, arith, to_z, of_z}
use Rattle.std.specs.Prelude.{pos, ◌<ℤ◌, ◌≤ℤ◌, unsigned_abs}
use Rattle.std.specs.Int.{w128}
use Rattle.std.proofs.lemmas.Int.{ints}
use Rattle.pi_lib.proofs.SizeLemmas.{not_integer, negative, natural}
use Rattle.pi_lib.proofs.sizes.size.Goals as goal

pub returns-in_default : goal.returns-in_default
returns-in_default g c = λ t a is. not_integer (g.S.StateStore.seen c.args.s.now) c.args.term t c.look.result is c.in_default.not-Int (c.look.ensures.shows t is a)

pub returns-then-n-lt0 : goal.returns-then-n-lt0
returns-then-n-lt0 g c = λ t a is.
    let below : c.in-Int.n <ℤ pos 0 = omega (arith, ints) in
    negative (g.S.StateStore.seen c.args.s.now) c.args.term t c.in-Int.n is below (c.in-Int.ensures.shows t is a)

pub returns : goal.returns
returns g c = λ t a is.
    let least : pos 0 ≤ℤ c.in-Int.n = omega (arith, ints) in
    let same : to_z w128 (of_z w128 c.in-Int.n) ≡ c.in-Int.n = search rules in
    let size : c.unsigned_abs.result ≡ unsigned_abs c.in-Int.n = c.unsigned_abs.ensures.value ∙ ap unsigned_abs same in
    natural (g.S.StateStore.seen c.args.s.now) t c.in-Int.n c.unsigned_abs.result least size (c.in-Int.ensures.shows t is a)
