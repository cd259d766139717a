use Rattle.pi_engine_code.specs.Keyed.{AreKeyed}
use Rattle.pi_engine_code.proofs.build.keys.fact_keys.Given as goal

abbrev pub invariant-loop-i : goal.invariant-loop-i
invariant-loop-i l = AreKeyed l.code.predicates.items l.code.rules.items l.code.tests.items l.keys
