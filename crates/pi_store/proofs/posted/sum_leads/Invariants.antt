use Rattle.std.proofs.Common.{◌≡◌, drop}
use Rattle.pi_store.specs.Posted.{sum_leads}
use Rattle.pi_store.proofs.posted.sum_leads.Given as goal

abbrev pub invariant-loop-term : goal.invariant-loop-term
invariant-loop-term l = sum_leads l.words.variables (drop l.term-index l.terms) l.v ≡ sum_leads l.words.variables l.terms l.v
