use Rattle.std.proofs.Common.{◌≡◌, false, drop}
use Rattle.pi_syntax.specs.Tokens as spec
use Rattle.pi_lex.proofs.quoted.closing_place.Given as goal

abbrev pub invariant-loop-at : goal.invariant-loop-at
invariant-loop-at l =
    spec.closing_place l.quote l.behind_backslash l.at (drop l.at l.text) ≡ spec.closing_place l.quote false 1 (drop 1 l.text)
