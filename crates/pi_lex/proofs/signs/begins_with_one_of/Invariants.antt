use Rattle.std.proofs.Common.{◌≡◌, drop, map}
use Rattle.pi_syntax.specs.Tokens as spec
use Rattle.pi_lex.proofs.signs.begins_with_one_of.Given as goal

abbrev pub invariant-loop-sign : goal.invariant-loop-sign
invariant-loop-sign l =
    spec.begins_with_one_of (map (λ s. s.now) (drop l.sign-index l.signs)) l.text
    ≡ spec.begins_with_one_of (map (λ s. s.now) l.signs) l.text
