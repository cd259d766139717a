use Rattle.pi_lex.specs.Kinds.{kinds}
use Rattle.pi_prog.specs.Parts.{SoFar}
use Rattle.pi_prog.proofs.reading.read_parts.Given as goal

abbrev pub invariant-loop-i : goal.invariant-loop-i
invariant-loop-i l = SoFar (kinds l.tokens) l.parts.items l.from l.i
