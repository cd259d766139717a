use Rattle.std.proofs.Common.{rules, ◌∙◌}
use Rattle.std.specs.Int.{w64, w128}
use Rattle.std.proofs.lemmas.Int.{to_z-of_z}
use Rattle.pi_sat_spec.proofs.LeftLemmas.{left-at_most}
use Rattle.pi_sat_check.proofs.cuts.left_at_most.Goals as goal

pub returns : goal.returns
returns c =
    left-at_most c.args.literal c.args.domain.now c.in_ok-left.left _ c.requires c.spans-given.ensures.domain c.spans-kept.ensures.domain c.in_ok-left.ensures.values
    (to_z-of_z w128 c.from.result (search rules) ∙ (c.from.ensures ∙ to_z-of_z w64 c.args.literal.bound (search rules)))
