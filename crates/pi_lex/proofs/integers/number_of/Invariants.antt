use Rattle.std.proofs.Common.{◌≡◌, not, ◌==◌, ◌<◌, ◌^◌, drop, filter}
use Rattle.std.specs.Str.Parse.{digits_value_after}
use Rattle.pi_syntax.specs.Tokens.{number_of, underscore}
use Rattle.pi_lex.proofs.integers.number_of.Given as goal

abbrev pub invariant-loop-c : goal.invariant-loop-c
invariant-loop-c l =
    (l.number < 2 ^ 127)
    × (digits_value_after l.radix l.number (filter (λ c. not (c == underscore)) (drop l.c-index l.digits)) ≡ number_of l.radix l.digits)
