use Rattle.pi_unify.specs.Terms.{IsGiven, HoldsNoCycle}
use Rattle.pi_unify.specs.Matching.{HoldAllGiven, FillsEmpty, HasAsMany}
use Rattle.pi_unify.proofs.ArgumentLemmas.{Along}
use Rattle.pi_unify.proofs.matching.match_arguments.Given as goal

abbrev pub invariant-loop-i : goal.invariant-loop-i
invariant-loop-i g l =
    let v = g.S.StateStore.seen l.s in
    record {
      fills : FillsEmpty l.initial.slots.items l.slots.items;
      along : IsGiven v l.of → HoldsNoCycle v → HasAsMany v l.of l.patterns → HoldAllGiven v l.initial.slots.items → Along v l.patterns l.of l.i l.initial.slots.items l.slots.items;
    }
