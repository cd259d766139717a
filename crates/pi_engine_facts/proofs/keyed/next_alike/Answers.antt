use Rattle.std.proofs.Common.{arith}
use Rattle.pi_engine_facts.proofs.KeyedLemmas.{none-between, none-further, listed-place}
use Rattle.pi_engine_facts.proofs.keyed.next_alike.Goals as goal

pub loop-i-init : goal.loop-i-init
loop-i-init g c = (omega arith, λ ts state asked keys low ends. none-between ts (g.S.StateStore.seen c.args.s.now).now.state c.args.facts.now.clauses.now c.args.facts.now.first c.args.from)

pub loop-i-preserved : goal.loop-i-preserved
loop-i-preserved g c = (
  omega (arith, c.loop-i.invariant.0, c.alike_at-number.ensures.from_on),
  λ ts state asked keys low ends.
      none-further ts (g.S.StateStore.seen c.args.s.now).now.state c.args.facts.now.clauses.now c.args.facts.now.first c.args.from c.loop-i.number c.alike_at-number.result (c.loop-i.invariant.1 ts state asked keys low ends)
      (c.alike_at-number.ensures.passed ts state asked keys (listed-place c.places_of-places.result.now c.args.facts.now.keys.now c.args.facts.now.predicate c.loop-i.i _ c.places_of-places.ensures c.loop-i-test.true) (omega (arith, low, c.loop-i.invariant.0)) ends),
)
