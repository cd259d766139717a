use Rattle.std.proofs.Common.{take, map}
use Rattle.pi_syntax.specs.ProgramTree.{part_tree}
use Rattle.pi_prog_clauses.specs.Defined.{IsSetOf}
use Rattle.pi_prog_clauses.specs.GoalVerdict.{defined_by_program}
use Rattle.pi_prog_clauses.proofs.goal_names.defined_by_program.Given as goal

-- the set has what the parts so far define
abbrev pub invariant-loop-i : goal.invariant-loop-i
invariant-loop-i l = IsSetOf l.all (defined_by_program (take l.i (map part_tree l.parts)))
