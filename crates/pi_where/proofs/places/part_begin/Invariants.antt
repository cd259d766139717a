use Rattle.pi_lex.specs.Kinds.{kinds}
use Rattle.pi_where.specs.Places.{BeginsAt}
use Rattle.pi_where.proofs.places.part_begin.Given as goal

abbrev pub invariant-loop-part : goal.invariant-loop-part
invariant-loop-part l = BeginsAt (kinds l.tokens) l.part l.at
