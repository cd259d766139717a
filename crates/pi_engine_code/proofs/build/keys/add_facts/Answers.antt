use Rattle.std.proofs.Common.{arith, ◌∙◌}
use Rattle.pi_engine_code.proofs.KeyedLemmas.{no-facts-yet, fact-more}
use Rattle.pi_engine_code.proofs.build.keys.add_facts.Goals as goal

pub loop-fact-init : goal.loop-fact-init
loop-fact-init c = no-facts-yet c.args.code.now.rules.items c.args.code.now.tests.items c.args.keys.now c.args.number c.args.place c.args.predicate.now.first

pub loop-fact-preserved : goal.loop-fact-preserved
loop-fact-preserved c =
    fact-more c.args.code.now.rules.items c.args.code.now.tests.items c.args.keys.now c.loop-fact.keys c.add_fact.new.keys c.args.number c.args.place c.args.predicate.now.first c.loop-fact.fact c.loop-fact.invariant c.add_fact.ensures.listed
    c.in_ok-add_fact.ensures.still c.in_ok-add_fact.ensures.keyed

pub returns-in_err-add_fact-clause-listed : goal.returns-in_err-add_fact-clause-listed
returns-in_err-add_fact-clause-listed c = c.add_fact.ensures.listed ∙ c.loop-fact.invariant.listed

pub returns-clause-listed : goal.returns-clause-listed
returns-clause-listed c = c.loop-fact.invariant.listed

pub returns-clause-still : goal.returns-clause-still
returns-clause-still c = c.loop-fact.invariant.still

pub returns-clause-keyed : goal.returns-clause-keyed
returns-clause-keyed c = λ fact low high. c.loop-fact.invariant.keyed fact low (omega (arith, high, c.loop-fact-test.false))
