-- 1 - X - T <= 0, Y - T <= 0, T + X - Y - 1 <= 0.
use Rattle.std.specs.Prelude.{pos}
use Rattle.pi_constraints.specs.declared.constraint.Item.{Item}
use Rattle.pi_prop_made.specs.Making.{with_constraint}
use Rattle.pi_prop_read.specs.Sums.{apart, two_apart, both_apart}
use Rattle.pi_prop_read.proofs.JoinedLemmas.{implication-made}
use Rattle.pi_prop_read.proofs.truths.joined.truth_of_implication.Goals as goal

pub returns : goal.returns
returns c = λ m s.
    let x : Item = c.args.x in
    let y : Item = c.args.y in
    let t : Item = Item.Var c.in_ok-variable.variable in
    let r = c.in_ok-variable.ensures m s in
    let first = c.in_ok-post_two_apart.ensures r.made r.shown in
    let second = c.in_ok-post_apart.ensures (with_constraint r.made (two_apart (Item.Int (pos 1)) x t)) first in
    implication-made x y c.in_ok-variable.variable m c.new_truth.new.self c.post_both_apart.new.making r (c.in_ok-post_both_apart.ensures (with_constraint (with_constraint r.made (two_apart (Item.Int (pos 1)) x t)) (apart y t)) second)
