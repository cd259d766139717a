use Rattle.std.proofs.Common.{rules}
use Rattle.pi_meaning.specs.Machine.NamedGoals.{slots_from}
use Rattle.pi_meaning.proofs.CoreMeaning.SlotLemmas.{slot-more}
use Rattle.pi_meaning.proofs.named_goals.slots_below.Goals as goal

pub loop-i-preserved : goal.loop-i-preserved
loop-i-preserved c = slot-more c.loop-i.i c.args.count c.loop-i.slots.items c.push.new.self.items (slots_from 0 c.args.count) c.loop-i-test.true (search rules) c.loop-i.invariant
