use Rattle.pi_lex.specs.Kinds.{kinds}
use Rattle.pi_prog.proofs.reading.ShapeLemmas.{Walked}
use Rattle.pi_prog.proofs.reading.shape.first_arrow.Given as goal

abbrev pub invariant-loop-i : goal.invariant-loop-i
invariant-loop-i l = Walked (kinds l.tokens) l.from l.i l.to
