use Rattle.pi_engine_facts.proofs.NameTests.{defined-first, defined-second, defined-none}
use Rattle.pi_engine_facts.proofs.unknown.defines.Goals as goal

pub returns-in-Some : goal.returns-in-Some
returns-in-Some c = defined-first c.args.preds.now c.args.helpers.now c.args.name.now c.args.arity c.in-Some.is_loud c.found.result c.found.ensures c.in-Some.is

pub returns-in-Some-found : goal.returns-in-Some-found
returns-in-Some-found c =
    defined-second c.args.preds.now c.args.helpers.now c.args.name.now c.args.arity c.in-Some-found.is_loud c.found.result c.found-in-None.result c.found.ensures c.in-None.is c.found-in-None.ensures c.in-Some-found.is

pub returns-in-None-found : goal.returns-in-None-found
returns-in-None-found c = defined-none c.args.preds.now c.args.helpers.now c.args.name.now c.args.arity c.found.result c.found-in-None.result c.found.ensures c.in-None.is c.found-in-None.ensures c.in-None-found.is
