use Rattle.std.proofs.Common.{◌≡◌, length}
use Rattle.std.specs.List.{list_any}
use Rattle.pi_prog_clauses.specs.Form.{is_bad_node}
use Rattle.pi_prog_clauses.specs.Walk.{nodes_ahead}
use Rattle.pi_prog_clauses.proofs.restrictions.bad_nodes.any_is_bad.Given as goal

abbrev pub invariant-loop-walk : goal.invariant-loop-walk
invariant-loop-walk l = list_any is_bad_node (nodes_ahead l.walk) ≡ list_any is_bad_node (nodes_ahead l.initial.walk)

abbrev pub decreases-loop-walk : goal.decreases-loop-walk
decreases-loop-walk l = length (nodes_ahead l.walk)
