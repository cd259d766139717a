use Rattle.std.proofs.Common.{rules}
use Rattle.pi_lib_constraints.proofs.SideLemmas.{numbers-none, numbers-more}
use Rattle.pi_lib_constraints.proofs.values.numbers_by.Goals as goal

pub loop-k-init : goal.loop-k-init
loop-k-init c = numbers-none _ _ c.new-numbers.result.items c.new-numbers.ensures.items

pub loop-k-preserved : goal.loop-k-preserved
loop-k-preserved c = numbers-more c.loop-k.k _ _ _ c.loop-k.numbers.items c.push.new.self.items (search rules) c.loop-k.invariant c.in_ok-push.ensures.items
