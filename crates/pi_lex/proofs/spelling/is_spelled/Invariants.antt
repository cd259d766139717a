use Rattle.std.specs.Str.Iter.{chars_rest}
use Rattle.pi_lex.proofs.SpellingLemmas.{IsLeft}
use Rattle.pi_lex.proofs.spelling.is_spelled.Given as goal

abbrev pub invariant-loop-c : goal.invariant-loop-c
invariant-loop-c l = IsLeft l.text l.spelling (chars_rest l.rest) l.c-index
