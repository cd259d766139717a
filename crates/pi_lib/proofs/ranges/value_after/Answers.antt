use Rattle.std.proofs.Common.{◌≡◌, ap, ◌∙◌, rules, ◌+ℤ◌, ◌*ℤ◌, of_z, to_z, ◌+◌, ◌*◌, ◌%◌}
use Rattle.std.specs.Int.{w128, int_wrap}
use Rattle.std.proofs.lemmas.Int.{wraps, wrapping_add-bits, int_wrap-add_right, int_wrap_fits}
use Rattle.pi_lib.specs.Steps.{value_after}
use Rattle.pi_lib.proofs.ranges.value_after.Goals as goal

pub returns : goal.returns
returns c =
    let low = c.args.low in
    let step = c.args.step in
    let r = c.from.result in
    let wraps_so : to_z w128 ((of_z w128 low + of_z w128 r * of_z w128 step % 340282366920938463463374607431768211456) % 340282366920938463463374607431768211456) ≡ int_wrap w128 (low +ℤ int_wrap w128 (r *ℤ step)) = search (rules, wraps, wrapping_add-bits w128) in
    wraps_so ∙ (int_wrap-add_right w128 low (r *ℤ step) ∙ (ap (λ n. int_wrap w128 (low +ℤ (n *ℤ step))) c.from.ensures ∙ int_wrap_fits w128 (value_after low step c.args.steps) c.requires))
