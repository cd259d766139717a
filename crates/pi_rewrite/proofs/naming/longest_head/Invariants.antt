use Rattle.std.proofs.Common.{◌≡◌, map, drop}
use Rattle.pi_syntax.specs.ProgramTree.{part_tree}
use Rattle.pi_rewrite.specs.Built.{longest_head}
use Rattle.pi_rewrite.proofs.naming.longest_head.Given as goal

-- the most so far, and the parts ahead
abbrev pub invariant-loop-part : goal.invariant-loop-part
invariant-loop-part l = longest_head l.most (map part_tree (drop l.part-index l.parts)) ≡ longest_head l.least (map part_tree l.parts)
