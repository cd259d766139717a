use Rattle.std.proofs.Common.{arith, ◌≡◌, ◌<◌, length, to_z, of_z, w64}
use Rattle.std.specs.Prelude.{slice_get, Some, None}
use Rattle.std.proofs.lemmas.Int.{ints}
use Rattle.pi_label.proofs.PickLemmas.{many-wide, one-wide, within-first, none-wide}
use Rattle.pi_label.proofs.picking.is_open.Goals as goal

pub returns-then-spans-gt1 : goal.returns-then-spans-gt1
returns-then-spans-gt1 c =
    let many : 1 < length c.args.d.now = grind (arith, c.if-spans-gt1.true, c.spans-spans.ensures.all) in
    (λ t. many-wide c.args.d.now many, λ w. grind (arith, c.if-spans-gt1.true))

pub returns-else-spans-gt1 : goal.returns-else-spans-gt1
returns-else-spans-gt1 c =
    let first : slice_get c.args.d.now 0 ≡ Some c.in-Some.span.now = grind (arith, c.first.ensures.value, c.in-Some.is, c.spans-spans.ensures.all) in
    let few : 1 < length c.args.d.now → ⊥ = λ h. grind (arith, h, c.if-spans-gt1.false, c.spans-spans.ensures.all) in
    let within = within-first c.args.d.now c.in-Some.span.now c.spans-spans.ensures.domain first in
    one-wide c.args.d.now c.in-Some.span.now (to_z w64 (of_z w64 c.in-Some.span.now.lo)) (to_z w64 (of_z w64 c.in-Some.span.now.hi)) _ c.spans-spans.ensures.domain first few (omega (arith, ints, within.0.0, within.0.1)) (omega (arith, ints, within.1.0, within.1.1)) (λ t. omega (arith, ints, t)) (λ l. grind (arith, ints, l))

pub returns-in-None : goal.returns-in-None
returns-in-None c =
    let none : slice_get c.args.d.now 0 ≡ None = grind (arith, c.first.ensures.value, c.in-None.is, c.spans-spans.ensures.all) in
    (λ t. absurd cc, λ w. absurd (none-wide c.args.d.now none w))
