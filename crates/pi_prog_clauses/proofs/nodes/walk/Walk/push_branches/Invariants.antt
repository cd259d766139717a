use Rattle.std.proofs.Common.{◌≡◌, ◌++◌, drop}
use Rattle.pi_prog_clauses.specs.Places.{branches_placed}
use Rattle.pi_prog_clauses.specs.Walk.{shown_place, nodes_ahead, branches_of}
use Rattle.pi_prog_clauses.proofs.nodes.walk.Walk.push_branches.Given as goal

abbrev pub invariant-loop-i : goal.invariant-loop-i
invariant-loop-i l = nodes_ahead l.self ≡ branches_placed (shown_place l.place) (branches_of (drop l.i l.branches)) ++ nodes_ahead l.initial.self
