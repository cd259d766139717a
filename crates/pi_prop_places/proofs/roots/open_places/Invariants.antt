use Rattle.std.proofs.Common.{drop}
use Rattle.pi_prop_places.specs.Roots.{ShowsOpen}
use Rattle.pi_prop_places.proofs.roots.open_places.Given as goal

abbrev pub invariant-loop-i : goal.invariant-loop-i
invariant-loop-i g l = ShowsOpen (drop l.first (g.P.Places.domains l.places)) l.i l.spot
