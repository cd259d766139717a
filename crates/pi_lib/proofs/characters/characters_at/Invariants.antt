use Rattle.std.specs.String.{string_bytes}
use Rattle.pi_unify.specs.Terms.{IsGiven, HoldsNoCycle}
use Rattle.pi_lib.proofs.WalkLemmas.{Walked}
use Rattle.pi_lib.proofs.characters.characters_at.Given as goal

abbrev pub invariant-loop-count : goal.invariant-loop-count
invariant-loop-count g l =
    let v = g.S.StateStore.seen l.s in
    IsGiven v l.fn.term → HoldsNoCycle v → Walked v l.fn.term l.at (string_bytes l.text) l.count
