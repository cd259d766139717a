use Rattle.pi_engine_code.proofs.KeyedLemmas.{place-more}
use Rattle.pi_engine_code.proofs.build.keys.add_place.Goals as goal

pub returns-clause-places : goal.returns-clause-places
returns-clause-places c = λ there within are.
    place-more c.args.code.now.predicates.items c.args.code.now.rules.items c.args.code.now.tests.items c.args.keys.now c.add_facts.new.keys c.args.number c.args.place c.args.predicate.now c.args.places.now.items c.push.new.self.items there within
    c.in_ok-add_facts.ensures.still c.in_ok-add_facts.ensures.keyed c.in_ok-push.ensures.items are
