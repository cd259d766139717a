use Rattle.std.proofs.Common.{◌≡◌, length}
use Rattle.std.specs.List.{list_any}
use Rattle.pi_prog_clauses.specs.Items.{breaks_pattern}
use Rattle.pi_prog_clauses.specs.Walk.{nodes_ahead}
use Rattle.pi_prog_clauses.proofs.restrictions.heads.has_bad_head.Given as goal

abbrev pub invariant-loop-walk : goal.invariant-loop-walk
invariant-loop-walk l = list_any breaks_pattern (nodes_ahead l.walk) ≡ list_any breaks_pattern (nodes_ahead l.initial.walk)

abbrev pub decreases-loop-walk : goal.decreases-loop-walk
decreases-loop-walk l = length (nodes_ahead l.walk)
