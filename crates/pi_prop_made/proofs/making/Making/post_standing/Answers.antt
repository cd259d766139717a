-- By its number of terms.
use Rattle.std.specs.Prelude.{◌≡◌}
use Rattle.std.specs.Int.{w128}
use Rattle.std.proofs.Common.{rules, ◌∙◌, to_z, of_z}
use Rattle.pi_prop_made.proofs.StandingLemmas.{number-posted, terms-posted}
use Rattle.pi_prop_made.proofs.making.Making.post_standing.Goals as goal

pub returns-in_ok-post_number : goal.returns-in_ok-post_number
returns-in_ok-post_number c = λ m s.
    let bits : to_z w128 (of_z w128 c.constant.result) ≡ c.constant.result = search rules in
    number-posted c.args.how c.args.sum.now c.len.result (to_z w128 (of_z w128 c.constant.result)) m c.post_number.new.self c.len.ensures.ascend c.len.ensures.count c.if-len-eq0.true (bits ∙ c.constant.ensures) (c.in_ok-post_number.ensures m s)

pub returns-in_ok-post_terms : goal.returns-in_ok-post_terms
returns-in_ok-post_terms c = λ m s. terms-posted c.args.how c.args.sum.now c.len.result m c.post_terms.new.self c.len.ensures.ascend c.len.ensures.count c.if-len-eq0.false (c.in_ok-post_terms.ensures m s)
