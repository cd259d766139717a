use Rattle.std.proofs.Common.{◌≡◌, drop, ◌++◌, string_bytes, string_len, ◌+◌, ◌*◌, ◌≤◌}
use Rattle.std.specs.Str.{encode_utf8_all}
use Rattle.pi_lex.proofs.spelling.push_all.Given as goal

abbrev pub invariant-loop-c : goal.invariant-loop-c
invariant-loop-c l =
    (string_bytes l.buffer ++ encode_utf8_all (drop l.c-index l.spelling) ≡ string_bytes l.fn.buffer ++ encode_utf8_all l.spelling)
    × (string_len l.buffer ≤ string_len l.fn.buffer + 4 * l.c-index)
