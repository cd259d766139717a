use Rattle.pi_engine_code.proofs.KeyedLemmas.{PlacesSoFar}
use Rattle.pi_engine_code.proofs.build.keys.add_places.Given as goal

-- the facts have their keys in the places so far
abbrev pub invariant-loop-place : goal.invariant-loop-place
invariant-loop-place l = PlacesSoFar l.code.predicates.items l.code.rules.items l.code.tests.items l.initial.keys l.keys l.number l.places.items
