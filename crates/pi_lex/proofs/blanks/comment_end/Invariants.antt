use Rattle.std.proofs.Common.{◌≡◌, drop}
use Rattle.pi_syntax.specs.Tokens as spec
use Rattle.pi_lex.proofs.blanks.comment_end.Given as goal

abbrev pub invariant-loop-at : goal.invariant-loop-at
invariant-loop-at l = spec.comment_end l.at (drop l.at l.text) ≡ spec.comment_end 2 (drop 2 l.text)
