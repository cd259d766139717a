use Rattle.std.proofs.Common.{[]}
use Rattle.pi_terms.specs.Tree.{comp}
use Rattle.pi_engine_facts.proofs.RootLemmas.{shown-differs}
use Rattle.pi_engine_facts.proofs.roots.differs.Goals as goal

pub returns-then-differs_from : goal.returns-then-differs_from
returns-then-differs_from g c = λ told ts slots is asked.
    shown-differs (g.S.StateStore.seen c.args.s.now) ts slots c.loop-i.i c.args.head.now c.index-head-i.result c.args.call c.arg.result c.look-cell.result is asked
    (c.look-cell.ensures.below c.args.call (comp [] ts) asked) c.loop-i-test.true c.index-head-i.is c.arg.ensures c.look-cell.ensures.shows (c.differs_from.ensures c.if-differs_from.true)
