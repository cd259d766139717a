use Rattle.pi_where.proofs.LineLemmas.{lines_there}
use Rattle.pi_where.proofs.part_lines.lines_in.Goals as goal

pub returns : goal.returns
returns c = lines_there _ _ _ _ _ c.in_ok-from.ensures.1 c.part_end-to.ensures c.line.ensures c.line-2.ensures
