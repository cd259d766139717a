use Rattle.pi_lex.specs.Kinds.{kinds}
use Rattle.pi_where.proofs.PlaceLemmas.{IsOpenTo}
use Rattle.pi_where.proofs.places.part_end.Given as goal

abbrev pub invariant-loop-at : goal.invariant-loop-at
invariant-loop-at l = IsOpenTo (kinds l.tokens) l.from l.at
