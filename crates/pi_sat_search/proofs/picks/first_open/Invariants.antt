use Rattle.pi_sat_search.proofs.PickLemmas.{IsFirstOf}
use Rattle.pi_sat_search.proofs.picks.first_open.Given as goal

abbrev pub invariant-loop-i : goal.invariant-loop-i
invariant-loop-i l = IsFirstOf l.present l.i l.first
