use Rattle.std.proofs.Common.{◌≡◌, drop}
use Rattle.pi_syntax.specs.ExpTree.{exp_tree}
use Rattle.pi_prog_clauses.proofs.restrictions.EventLemmas.{has_other}
use Rattle.pi_prog_clauses.proofs.restrictions.heads.has_bad_events.Given as goal

abbrev pub invariant-loop-event : goal.invariant-loop-event
invariant-loop-event l = has_other (exp_tree l.head) (drop l.event-index l.events) ≡ has_other (exp_tree l.head) l.events
