use Rattle.std.proofs.Common.{arith, ◌≡◌, ◌-◌, length}
use Rattle.std.specs.Prelude.{slice_get, Some}
use Rattle.std.proofs.lemmas.Int.{ints}
use Rattle.pi_label.proofs.ChoiceLemmas.{are-ends}
use Rattle.pi_label.proofs.alternatives.ends.Goals as goal

pub returns-clause-ends : goal.returns-clause-ends
returns-clause-ends c =
    let first : slice_get c.args.d.now 0 ≡ Some c.in-Some.first.now = grind (arith, c.first.ensures.value, c.in-Some.is, c.spans-spans.ensures.all) in
    let last : slice_get c.args.d.now (length c.args.d.now - 1) ≡ Some c.in-Some-last.last.now = grind (arith, c.last.ensures.value, c.in-Some-last.is, c.spans-spans.ensures.all) in
    are-ends c.args.d.now c.in-Some.first.now c.in-Some-last.last.now _ _ c.spans-spans.ensures.domain first last (λ b. omega (arith, ints, b.0, b.1)) (λ b. omega (arith, ints, b.0, b.1))
