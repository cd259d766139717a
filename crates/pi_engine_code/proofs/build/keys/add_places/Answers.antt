use Rattle.std.proofs.Common.{◌∙◌, sym, ap}
use Rattle.std.specs.Prelude.{option_copied}
use Rattle.pi_engine_code.proofs.KeyedLemmas.{no-places-yet, places-more, keyed-more}
use Rattle.pi_engine_code.proofs.build.keys.add_places.Goals as goal

pub loop-place-init : goal.loop-place-init
loop-place-init c = no-places-yet c.args.code.now.predicates.items c.args.code.now.rules.items c.args.code.now.tests.items c.args.keys.now c.args.number c.new-places.result.items c.new-places.ensures.items

pub loop-place-preserved : goal.loop-place-preserved
loop-place-preserved c =
    places-more c.args.code.now.predicates.items c.args.code.now.rules.items c.args.code.now.tests.items c.args.keys.now c.loop-place.keys c.add_place.new.keys c.args.number c.loop-place.places.items c.add_place.new.places.items c.loop-place.invariant
    c.add_place.ensures.listed c.in_ok-add_place.ensures.still
    (c.in_ok-add_place.ensures.places (sym c.predicate_there.ensures ∙ ap option_copied c.in-Some.is) c.loop-place-test.true)

pub returns : goal.returns
returns c =
    keyed-more c.args.code.now.predicates.items c.args.code.now.rules.items c.args.code.now.tests.items c.args.keys.now c.loop-place.keys c.find_by.new.self c.args.number c.loop-place.places.items c.loop-place.invariant c.find_by.ensures.keys
    c.in_ok-find_by.ensures.places
