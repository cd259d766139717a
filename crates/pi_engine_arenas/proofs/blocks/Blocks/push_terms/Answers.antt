use Rattle.std.proofs.Common.{rules}
use Rattle.pi_engine_arenas.proofs.BlocksLemmas.{keeps_then, one_more_filled}
use Rattle.pi_engine_arenas.proofs.blocks.Blocks.push_terms.Goals as goal

pub loop-term-preserved : goal.loop-term-preserved
loop-term-preserved c = (
  one_more_filled c.args.self.now.slots c.loop-term.self.slots c.push.new.self.slots c.args.terms.now c.loop-term.term-index _ c.loop-term-test.true c.loop-term.invariant.0 c.in_ok-push.ensures.ok,
  search rules,
  keeps_then c.args.self.now c.loop-term.self c.push.new.self (search rules) c.push.ensures.keeps,
)
