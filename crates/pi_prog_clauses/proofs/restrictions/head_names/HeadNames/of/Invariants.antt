use Rattle.std.proofs.Common.{length}
use Rattle.pi_prog_clauses.specs.Walk.{nodes_ahead}
use Rattle.pi_prog_clauses.proofs.restrictions.HeadNameLemmas.{NamesWith}
use Rattle.pi_prog_clauses.proofs.restrictions.head_names.HeadNames.of.Given as goal

abbrev pub invariant-loop-walk : goal.invariant-loop-walk
invariant-loop-walk l = NamesWith l.names (nodes_ahead l.walk) (nodes_ahead l.initial.walk)

abbrev pub decreases-loop-walk : goal.decreases-loop-walk
decreases-loop-walk l = length (nodes_ahead l.walk)
