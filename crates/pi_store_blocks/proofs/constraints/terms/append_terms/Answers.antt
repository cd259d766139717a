use Rattle.std.proofs.Common.{arith}
use Rattle.pi_store_blocks.proofs.TermLemmas.{term_written}
use Rattle.pi_store_blocks.proofs.constraints.terms.append_terms.Goals as goal

pub loop-term-preserved : goal.loop-term-preserved
loop-term-preserved c = term_written _ _ _ c.args.terms.now c.loop-term.term-index _ (omega arith) c.loop-term.invariant c.in_ok-append_term.ensures.ok
