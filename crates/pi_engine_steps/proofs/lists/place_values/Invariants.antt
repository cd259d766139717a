use Rattle.pi_engine_stands.specs.Lists.{PlacesValues}
use Rattle.pi_engine_stands.specs.Stands.{values_between}
use Rattle.pi_engine_steps.proofs.lists.place_values.Given as goal

-- the first values are placed
abbrev pub invariant-loop-i : goal.invariant-loop-i
invariant-loop-i g l = PlacesValues (g.S.StateStore.seen l.fn.store) (g.S.StateStore.seen l.store) (values_between l.values l.first l.i) l.terms.items
