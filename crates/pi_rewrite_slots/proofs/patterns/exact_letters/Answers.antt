use Rattle.pi_rewrite_slots.proofs.PatternLemmas.{letters-none, letters-more, letters-end}
use Rattle.pi_rewrite_slots.proofs.patterns.exact_letters.Goals as goal

pub loop-letter-init : goal.loop-letter-init
loop-letter-init c = letters-none c.args.letters.now c.new-items.result.items c.new-items.ensures.items

pub loop-letter-preserved : goal.loop-letter-preserved
loop-letter-preserved c =
    letters-more c.args.letters.now c.loop-letter.letter-index c.letter-item.result c.in_ok-name.name c.loop-letter.items.items c.push.new.self.items c.loop-letter-test.true c.letter-item.is c.loop-letter.invariant c.in_ok-name.ensures c.in_ok-push.ensures.items

pub returns : goal.returns
returns c = letters-end c.args.letters.now c.loop-letter.letter-index c.loop-letter.items.items c.loop-letter-test.false c.loop-letter.invariant
