-- By its number of terms.
use Rattle.std.specs.Prelude.{◌≡◌}
use Rattle.std.specs.Int.{w128}
use Rattle.std.proofs.Common.{rules, ◌∙◌, to_z, of_z}
use Rattle.pi_prop_made.proofs.StandingLemmas.{number-truth, terms-truth}
use Rattle.pi_prop_made.proofs.making.Making.truth_of_standing.Goals as goal

pub returns-then-len-eq0 : goal.returns-then-len-eq0
returns-then-len-eq0 c = λ m s.
    let bits : to_z w128 (of_z w128 c.constant.result) ≡ c.constant.result = search rules in
    number-truth c.args.how c.args.sum.now c.len.result (to_z w128 (of_z w128 c.constant.result)) c.holds.result c.truth_item.result m c.args.self.now c.len.ensures.ascend c.len.ensures.count c.if-len-eq0.true (bits ∙ c.constant.ensures) c.holds.ensures c.truth_item.ensures s

pub returns-in_ok-reified : goal.returns-in_ok-reified
returns-in_ok-reified c = λ m s. terms-truth c.args.how c.args.sum.now c.len.result c.in_ok-reified.field-0 m c.reified.new.self c.len.ensures.ascend c.len.ensures.count c.if-len-eq0.false (c.in_ok-reified.ensures m s)
