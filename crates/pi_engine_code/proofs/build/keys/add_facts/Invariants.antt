use Rattle.pi_engine_code.proofs.KeyedLemmas.{FactsSoFar}
use Rattle.pi_engine_code.proofs.build.keys.add_facts.Given as goal

-- the facts before one have their keys
abbrev pub invariant-loop-fact : goal.invariant-loop-fact
invariant-loop-fact l = FactsSoFar l.code.rules.items l.code.tests.items l.initial.keys l.keys l.number l.place l.predicate.first l.fact
