use Rattle.pi_prop_places.proofs.WholeLemmas.{HaveValuesBefore}
use Rattle.pi_prop_places.proofs.whole.have_values.Given as goal

abbrev pub invariant-loop-k : goal.invariant-loop-k
invariant-loop-k g l = HaveValuesBefore (g.P.Places.domains l.places) l.k
