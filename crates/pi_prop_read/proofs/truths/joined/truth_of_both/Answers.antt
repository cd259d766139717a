-- T - X <= 0, T - Y <= 0, X + Y - T - 1 <= 0.
use Rattle.pi_constraints.specs.declared.constraint.Item.{Item}
use Rattle.pi_prop_made.specs.Making.{with_constraint}
use Rattle.pi_prop_read.specs.Sums.{apart, two_apart, both_apart}
use Rattle.pi_prop_read.proofs.JoinedLemmas.{both-made}
use Rattle.pi_prop_read.proofs.truths.joined.truth_of_both.Goals as goal

pub returns : goal.returns
returns c = λ m s.
    let x : Item = c.args.x in
    let y : Item = c.args.y in
    let t : Item = Item.Var c.in_ok-variable.variable in
    let r = c.in_ok-variable.ensures m s in
    let first = c.in_ok-post_apart.ensures r.made r.shown in
    let second = c.in_ok-post_apart-2.ensures (with_constraint r.made (apart t x)) first in
    both-made x y c.in_ok-variable.variable m c.new_truth.new.self c.post_both_apart.new.making r (c.in_ok-post_both_apart.ensures (with_constraint (with_constraint r.made (apart t x)) (apart t y)) second)
