use Rattle.std.proofs.Common.{◌≡◌, drop}
use Rattle.pi_syntax.specs.Tokens as spec
use Rattle.pi_lex.proofs.integers.digits_end.Given as goal

abbrev pub invariant-loop-at : goal.invariant-loop-at
invariant-loop-at l =
    spec.digits_end l.radix l.at (drop l.at l.text) ≡ spec.digits_end l.radix l.start (drop l.start l.text)
