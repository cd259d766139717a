use Rattle.std.proofs.Common.{rules, ◌≡◌, ◌-◌, ◌∙◌, ap, sym, subst, slice_index}
use Rattle.std.specs.Str.{IsCharBoundary}
use Rattle.pi_lex.proofs.StoreLemmas.{counted_between, counted_ends}
use Rattle.pi_lex.proofs.spelling.counted_at.Goals.{else-is_char_boundary-via-then-is_char_boundary+else-is_char_boundary-2, else-is_char_boundary-via-else-is_char_boundary}
use Rattle.pi_lex.proofs.spelling.counted_at.Goals as goal

pub returns-then-is_char_boundary-2-clause-some : goal.returns-then-is_char_boundary-2-clause-some
returns-then-is_char_boundary-2-clause-some c =
    let bytes = c.args.buffer.now in
    let reads : c.from-len.result ≡ slice_index bytes c.args.place = c.from-len.ensures ∙ ap (λ bs. slice_index bs c.args.place) c.as_bytes.ensures.value in
    let found = counted_between bytes c.args.place c.from-len.result c.utf8.buffer (search rules) reads (search rules) (search rules) (search rules) in
    (found.0, c.range.ensures.value ∙ found.1)

pub returns-else-is_char_boundary-clause-found : goal.returns-else-is_char_boundary-clause-found
returns-else-is_char_boundary-clause-found c = λ is.
    let bytes = c.args.buffer.now in
    let reads : c.from-len.result ≡ slice_index bytes c.args.place = c.from-len.ensures ∙ ap (λ bs. slice_index bs c.args.place) c.as_bytes.ensures.value in
    let ends = counted_ends bytes c.args.place c.utf8.buffer is in
    elim c.else-is_char_boundary.branch [ else-is_char_boundary-via-then-is_char_boundary+else-is_char_boundary-2 w ↦ sym w.if-is_char_boundary-2.false ∙ w.is_char_boundary-then-is_char_boundary.ensures.test.1 ends.1 | else-is_char_boundary-via-else-is_char_boundary w ↦ sym w.if-is_char_boundary.false ∙ c.is_char_boundary.ensures.test.1 (subst (λ n. IsCharBoundary bytes (c.args.place - n)) (sym reads) ends.0) ]
