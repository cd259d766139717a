use Rattle.std.proofs.Common.{◌≡◌, ◌∙◌, ap, slice_index, string_bytes}
use Rattle.std.proofs.lemmas.Str.{IsUtf8-string_bytes}
use Rattle.pi_lex.proofs.StoreLemmas.{counted_ends}
use Rattle.pi_lex.proofs.store.Store.spelled.Goals as goal

pub range-requires-clause-start_boundary : goal.range-requires-clause-start_boundary
range-requires-clause-start_boundary c _ =
    let bytes = string_bytes c.args.self.now.buffer in
    let reads : c.from-len.result ≡ slice_index bytes c.args.place =
    c.from-len.ensures ∙ ap (λ bs. slice_index bs c.args.place) (c.as_bytes.ensures.value ∙ c.as_str-buffer.ensures.value) in
    rw (c.as_str-buffer.ensures.value, reads) (counted_ends bytes c.args.place (IsUtf8-string_bytes c.args.self.now.buffer) c.requires).0

pub range-requires-clause-end_boundary : goal.range-requires-clause-end_boundary
range-requires-clause-end_boundary c =
    rw c.as_str-buffer.ensures.value (counted_ends (string_bytes c.args.self.now.buffer) c.args.place (IsUtf8-string_bytes c.args.self.now.buffer) c.requires).1
