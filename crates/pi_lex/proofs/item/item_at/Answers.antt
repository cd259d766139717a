use Rattle.std.proofs.Common.{◌≡◌, true, refl, sym, ◌∙◌, ap}
use Rattle.std.specs.Char.{is_ascii_digit}
use Rattle.pi_syntax.specs.Tokens.{is_white, is_name_part, percent, Blank}
use Rattle.pi_lex.proofs.ItemLemmas.{met, passed, same_character, other_character, of_first, item_at_first, behind_blanks, behind_names, behind_quotes, at_quoted_atom, at_quoted_text}
use Rattle.pi_lex.proofs.item.item_at.Goals as goal

pub variable-requires : goal.variable-requires
variable-requires c =
    of_first (λ x. is_name_part x ≡ true) c.args.text.now _ c.requires c.index-text-0.is (c.if-is_variable_start.ensures.goes_on refl)

pub atom_or_word-requires : goal.atom_or_word-requires
atom_or_word-requires c =
    of_first (λ x. is_name_part x ≡ true) c.args.text.now _ c.requires c.index-text-0.is (c.if-is_atom_start.ensures.goes_on refl)

pub quoted_atom-requires : goal.quoted_atom-requires
quoted_atom-requires c = c.requires

pub quoted_text-requires : goal.quoted_text-requires
quoted_text-requires c = c.requires

pub comment-requires : goal.comment-requires
comment-requires c = c.if-starts_comment.ensures.within refl

pub integer-requires : goal.integer-requires
integer-requires c =
    of_first (λ x. is_ascii_digit x ≡ true) c.args.text.now _ c.requires c.index-text-0.is (sym c.if-is_ascii_digit.ensures.value)

pub returns-then-is_white-clause-value : goal.returns-then-is_white-clause-value
returns-then-is_white-clause-value c =
    ap Blank c.white_len.ensures.value
    ∙ sym (item_at_first _ _ c.requires c.index-text-0.is ∙ met _ _ _ c.if-is_white.ensures)

pub returns-then-is_white-clause-within : goal.returns-then-is_white-clause-within
returns-then-is_white-clause-within c =
    let e = c.white_len.ensures in
    (e.some (of_first (λ x. is_white x ≡ true) c.args.text.now _ c.requires c.index-text-0.is (sym c.if-is_white.ensures)), e.within)

pub returns-then-first-eq37-clause-value : goal.returns-then-first-eq37-clause-value
returns-then-first-eq37-clause-value c =
    ap Blank c.line_comment_len.ensures.value
    ∙ sym (item_at_first _ _ c.requires c.index-text-0.is ∙ passed _ _ _ _ c.if-is_white.ensures (met _ _ _ (same_character _ _ c.if-first-eq37.true)))

pub returns-then-first-eq37-clause-within : goal.returns-then-first-eq37-clause-within
returns-then-first-eq37-clause-within c =
    let e = c.line_comment_len.ensures in
    (e.some (of_first (λ x. x ≡ percent) c.args.text.now _ c.requires c.index-text-0.is c.if-first-eq37.true), e.within)

pub returns-then-starts_comment-clause-value : goal.returns-then-starts_comment-clause-value
returns-then-starts_comment-clause-value c =
    c.comment.ensures.value
    ∙ sym (item_at_first _ _ c.requires c.index-text-0.is
    ∙ passed _ _ _ _ c.if-is_white.ensures (passed _ _ _ _ (other_character _ _ c.if-first-eq37.false) (met _ _ _ c.if-starts_comment.ensures.value)))

pub returns-then-starts_comment-clause-within : goal.returns-then-starts_comment-clause-within
returns-then-starts_comment-clause-within c = c.comment.ensures.within

pub returns-then-is_variable_start-clause-value : goal.returns-then-is_variable_start-clause-value
returns-then-is_variable_start-clause-value c =
    c.variable.ensures.value
    ∙ sym (item_at_first _ _ c.requires c.index-text-0.is
    ∙ behind_blanks c.index-text-0.result c.args.text.now c.if-is_white.ensures c.if-first-eq37.false c.if-starts_comment.ensures.value
    ∙ met _ _ _ c.if-is_variable_start.ensures.value)

pub returns-then-is_variable_start-clause-within : goal.returns-then-is_variable_start-clause-within
returns-then-is_variable_start-clause-within c = c.variable.ensures.within

pub returns-then-is_atom_start-clause-value : goal.returns-then-is_atom_start-clause-value
returns-then-is_atom_start-clause-value c =
    c.atom_or_word.ensures.value
    ∙ sym (item_at_first _ _ c.requires c.index-text-0.is
    ∙ behind_blanks c.index-text-0.result c.args.text.now c.if-is_white.ensures c.if-first-eq37.false c.if-starts_comment.ensures.value
    ∙ passed _ _ _ _ c.if-is_variable_start.ensures.value (met _ _ _ c.if-is_atom_start.ensures.value))

pub returns-then-is_atom_start-clause-within : goal.returns-then-is_atom_start-clause-within
returns-then-is_atom_start-clause-within c = c.atom_or_word.ensures.within

pub returns-then-first-eq39-clause-value : goal.returns-then-first-eq39-clause-value
returns-then-first-eq39-clause-value c =
    c.quoted_atom.ensures.value
    ∙ sym (item_at_first _ _ c.requires c.index-text-0.is
    ∙ behind_blanks c.index-text-0.result c.args.text.now c.if-is_white.ensures c.if-first-eq37.false c.if-starts_comment.ensures.value
    ∙ behind_names c.index-text-0.result c.args.text.now c.if-is_variable_start.ensures.value c.if-is_atom_start.ensures.value
    ∙ at_quoted_atom c.index-text-0.result c.args.text.now c.if-first-eq39.true)

pub returns-then-first-eq39-clause-within : goal.returns-then-first-eq39-clause-within
returns-then-first-eq39-clause-within c = c.quoted_atom.ensures.within

pub returns-then-first-eq34-clause-value : goal.returns-then-first-eq34-clause-value
returns-then-first-eq34-clause-value c =
    c.quoted_text.ensures.value
    ∙ sym (item_at_first _ _ c.requires c.index-text-0.is
    ∙ behind_blanks c.index-text-0.result c.args.text.now c.if-is_white.ensures c.if-first-eq37.false c.if-starts_comment.ensures.value
    ∙ behind_names c.index-text-0.result c.args.text.now c.if-is_variable_start.ensures.value c.if-is_atom_start.ensures.value
    ∙ at_quoted_text c.index-text-0.result c.args.text.now c.if-first-eq39.false c.if-first-eq34.true)

pub returns-then-first-eq34-clause-within : goal.returns-then-first-eq34-clause-within
returns-then-first-eq34-clause-within c = c.quoted_text.ensures.within

pub returns-then-is_ascii_digit-clause-value : goal.returns-then-is_ascii_digit-clause-value
returns-then-is_ascii_digit-clause-value c =
    c.integer.ensures.value
    ∙ sym (item_at_first _ _ c.requires c.index-text-0.is
    ∙ behind_blanks c.index-text-0.result c.args.text.now c.if-is_white.ensures c.if-first-eq37.false c.if-starts_comment.ensures.value
    ∙ behind_names c.index-text-0.result c.args.text.now c.if-is_variable_start.ensures.value c.if-is_atom_start.ensures.value
    ∙ behind_quotes c.index-text-0.result c.args.text.now c.if-first-eq39.false c.if-first-eq34.false
    ∙ met _ _ _ c.if-is_ascii_digit.ensures.value)

pub returns-then-is_ascii_digit-clause-within : goal.returns-then-is_ascii_digit-clause-within
returns-then-is_ascii_digit-clause-within c = c.integer.ensures.within

pub returns-then-is_end_point-clause-value : goal.returns-then-is_end_point-clause-value
returns-then-is_end_point-clause-value c =
    sym (item_at_first _ _ c.requires c.index-text-0.is
    ∙ behind_blanks c.index-text-0.result c.args.text.now c.if-is_white.ensures c.if-first-eq37.false c.if-starts_comment.ensures.value
    ∙ behind_names c.index-text-0.result c.args.text.now c.if-is_variable_start.ensures.value c.if-is_atom_start.ensures.value
    ∙ behind_quotes c.index-text-0.result c.args.text.now c.if-first-eq39.false c.if-first-eq34.false
    ∙ passed _ _ _ _ c.if-is_ascii_digit.ensures.value (met _ _ _ c.if-is_end_point.ensures))

pub returns-then-is_end_point-clause-within : goal.returns-then-is_end_point-clause-within
returns-then-is_end_point-clause-within c = c.requires

pub returns-else-is_end_point-clause-value : goal.returns-else-is_end_point-clause-value
returns-else-is_end_point-clause-value c =
    c.sign.ensures.value
    ∙ sym (item_at_first _ _ c.requires c.index-text-0.is
    ∙ behind_blanks c.index-text-0.result c.args.text.now c.if-is_white.ensures c.if-first-eq37.false c.if-starts_comment.ensures.value
    ∙ behind_names c.index-text-0.result c.args.text.now c.if-is_variable_start.ensures.value c.if-is_atom_start.ensures.value
    ∙ behind_quotes c.index-text-0.result c.args.text.now c.if-first-eq39.false c.if-first-eq34.false
    ∙ passed _ _ _ _ c.if-is_ascii_digit.ensures.value (passed _ _ _ _ c.if-is_end_point.ensures refl))

pub returns-else-is_end_point-clause-within : goal.returns-else-is_end_point-clause-within
returns-else-is_end_point-clause-within c = c.sign.ensures.within
