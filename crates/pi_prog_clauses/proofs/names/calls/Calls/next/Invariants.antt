use Rattle.std.proofs.Common.{◌≡◌, length}
use Rattle.pi_prog_clauses.specs.Called.{calls_ahead}
use Rattle.pi_prog_clauses.specs.Walk.{nodes_ahead}
use Rattle.pi_prog_clauses.specs.declared.names.calls.Pending.TheVariants as pending
use Rattle.pi_prog_clauses.proofs.names.calls.Calls.next.Given as goal

abbrev pub invariant-loop-node : goal.invariant-loop-node
invariant-loop-node l = (l.self.pending ≡ pending.Nothing) × (calls_ahead l.self ≡ calls_ahead l.initial.self)

abbrev pub decreases-loop-node : goal.decreases-loop-node
decreases-loop-node l = length (nodes_ahead l.self.walk)
