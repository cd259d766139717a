use Rattle.std.proofs.Common.{◌≡◌, ◌++◌, map, reverse, vec_len}
use Rattle.pi_syntax.specs.ProgramTree.{part_tree}
use Rattle.pi_prog_clauses.specs.Seen.{seen}
use Rattle.pi_prog_clauses.specs.Verdict.{parts_of}
use Rattle.pi_prog_clauses.proofs.program.program_of.Given as goal

-- the parts so far, and behind them those of the readings that are left, of which the last comes first
abbrev pub invariant-loop-reading : goal.invariant-loop-reading
invariant-loop-reading l = map part_tree l.parts.items ++ parts_of (map seen (reverse l.left.items)) ≡ parts_of (map seen l.fn.readings.items)

abbrev pub decreases-loop-reading : goal.decreases-loop-reading
decreases-loop-reading l = vec_len l.left
