use Rattle.std.specs.Prelude.{◌≡◌}
use Rattle.std.specs.Int.{w128}
use Rattle.std.proofs.Common.{rules, ◌∙◌, to_z, of_z}
use Rattle.pi_prop_made.proofs.making.Making.post_sum.Goals as goal

pub returns : goal.returns
returns c = λ m s.
    let bits : to_z w128 (of_z w128 c.constant.result) ≡ c.constant.result = search rules in
    c.in_ok-post_linear.ensures m c.args.sum.now.constant s (bits ∙ c.constant.ensures)
