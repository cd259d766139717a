use Rattle.std.proofs.Common.{◌≡◌, false, drop, ◌++◌, string_bytes, string_len, ◌+◌, ◌*◌, ◌≤◌}
use Rattle.std.specs.Str.{encode_utf8_all}
use Rattle.pi_syntax.specs.Tokens.{unescaped}
use Rattle.pi_lex.proofs.quoted.push_unescaped.Given as goal

abbrev pub invariant-loop-c : goal.invariant-loop-c
invariant-loop-c l =
    (string_bytes l.buffer ++ encode_utf8_all (unescaped l.behind_backslash (drop l.c-index l.inside))
    ≡ string_bytes l.fn.buffer ++ encode_utf8_all (unescaped false l.inside))
    × (string_len l.buffer ≤ string_len l.fn.buffer + 4 * l.c-index)
