use Rattle.std.proofs.Common.{arith, ◌+◌, ◌≤◌, length, string_bytes}
use Rattle.std.proofs.lemmas.Str.{IsCharBoundary-from_take, IsUtf8-string_bytes}
use Rattle.pi_lex.proofs.store.Store.bytes.Goals as goal

pub range-requires-clause-start_boundary : goal.range-requires-clause-start_boundary
range-requires-clause-start_boundary c _ =
    let buffer = c.args.self.now.buffer in
    let within : c.args.span.from ≤ length (string_bytes buffer) = omega (arith, c.requires.within) in
    rw c.as_str.ensures.value (IsCharBoundary-from_take (string_bytes buffer) c.args.span.from (IsUtf8-string_bytes buffer) within c.requires.starts)

pub range-requires-clause-end_boundary : goal.range-requires-clause-end_boundary
range-requires-clause-end_boundary c =
    let buffer = c.args.self.now.buffer in
    rw c.as_str.ensures.value (IsCharBoundary-from_take (string_bytes buffer) (c.args.span.from + c.args.span.len) (IsUtf8-string_bytes buffer) c.requires.within c.requires.stops)
