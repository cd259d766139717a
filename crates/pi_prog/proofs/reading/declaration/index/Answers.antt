use Rattle.std.proofs.Common.{arith}
use Rattle.pi_prog.proofs.reading.declaration.DeclarationLemmas.{index_none, index_some}
use Rattle.pi_prog.proofs.reading.declaration.index.Goals as goal

pub returns-then-len-eq0 : goal.returns-then-len-eq0
returns-then-len-eq0 c = index_none (omega (arith, c.len.ensures, c.if-len-eq0.true)) c.in_ok-found.ensures.lists

pub returns-else-len-eq0 : goal.returns-else-len-eq0
returns-else-len-eq0 c = (c.in_ok-found.ensures.behind, c.in_ok-found.ensures.within, index_some (omega (arith, c.len.ensures, c.if-len-eq0.false)) c.in_ok-found.ensures.lists)
