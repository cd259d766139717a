use Rattle.std.proofs.Common.{◌≡◌, ◌+◌, ◌<◌, ◌∙◌, Some, None, map, take, drop, length, get_or, sym, ap, subst, arith}
use Rattle.pi_engine_stands.proofs.MissingStand.{block-more, block-there}
use Rattle.pi_engine_steps.proofs.raises.take_block.Goals.{in-Some+in_ok-push, in_default}
use Rattle.pi_engine_steps.proofs.raises.take_block.Goals as goal

pub loop-i-preserved : goal.loop-i-preserved
loop-i-preserved c = λ t ts holds.
    let slots = c.args.blocks.now.slots in
    let first = c.args.first in
    let i = c.loop-i.i in
    let before = c.loop-i.invariant t ts holds in
    let within : first + i < length slots = omega (arith, holds.within, c.loop-i-test.true) in
    let index : c.saturating_add.result ≡ first + i = omega (arith, c.saturating_add.ensures, within, c.get.ensures.most) in
    let got : get_or slots (first + i) None ≡ c.get.result = ap (λ n. get_or slots n None) (sym index) ∙ sym c.get.ensures.is in
    elim c.match-get.branch [
      | in-Some+in_ok-push q ↦
          subst (λ v. map (λ r. Some r) v.items ≡ take (i + 1) (drop first slots)) (sym q.terms-is)
          (block-more slots first i c.loop-i.terms.items q.push.new.self.items q.in-Some.term within (got ∙ q.in-Some.is) before q.in_ok-push.ensures.items)
      | in_default q ↦ absurd (block-there t slots first c.args.count i ts c.loop-i-test.true holds (got ∙ q.in_default.is))
    ]
