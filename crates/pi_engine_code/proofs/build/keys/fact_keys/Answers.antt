use Rattle.pi_engine_code.proofs.KeyedLemmas.{no-keys}
use Rattle.pi_engine_code.proofs.build.keys.fact_keys.Goals as goal

pub loop-i-init : goal.loop-i-init
loop-i-init c = no-keys c.args.code.now.predicates.items c.args.code.now.rules.items c.args.code.now.tests.items c.new-keys.result c.new-keys.ensures

pub loop-i-preserved : goal.loop-i-preserved
loop-i-preserved c = c.in_ok-add_keys.ensures c.loop-i.invariant
