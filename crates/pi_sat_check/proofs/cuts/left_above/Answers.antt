use Rattle.std.proofs.Common.{rules, ap, ◌∙◌}
use Rattle.std.specs.Prelude.{ℤ, pos, ◌+ℤ◌}
use Rattle.std.specs.Int.{w64, w128}
use Rattle.std.proofs.lemmas.Int.{to_z-of_z}
use Rattle.pi_sat_spec.proofs.LeftLemmas.{left-above}
use Rattle.pi_sat_check.proofs.cuts.left_above.Goals as goal

pub returns : goal.returns
returns c =
    left-above c.args.literal c.args.domain.now c.in_ok-left.left _ c.requires c.spans-given.ensures.domain c.spans-kept.ensures.domain c.in_ok-left.ensures.values
    (to_z-of_z w128 _ (search rules) ∙ ap (λ (x : ℤ). x +ℤ pos 1) (to_z-of_z w128 c.from.result (search rules) ∙ (c.from.ensures ∙ to_z-of_z w64 c.args.literal.bound (search rules))))
