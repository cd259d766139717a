use Rattle.std.proofs.Common.{◌∙◌, sym}
use Rattle.std.proofs.lemmas.Bool.{ne_eqb}
use Rattle.pi_lex.proofs.LexLemmas.{goes_on-digit, goes_on-behind, goes_on-other}
use Rattle.pi_lex.proofs.integers.goes_on.Goals as goal

pub returns-then-is_digit : goal.returns-then-is_digit
returns-then-is_digit c =
    c.if-is_digit.true ∙ sym (goes_on-digit _ _ c.args.text.now _ c.requires.within c.index-text-at.is c.if-is_digit.ensures.value)

pub returns-then-text-at-eq95 : goal.returns-then-text-at-eq95
returns-then-text-at-eq95 c =
    c.is_digit-then-text-at-eq95.ensures.value
    ∙ sym (goes_on-behind _ _ c.args.text.now _ _ _ c.requires.within c.index-text-at.is c.index-text-at-else-is_digit.is c.if-is_digit.ensures.value c.if-text-at-eq95.true c.char_at.ensures)

pub returns-else-text-at-eq95 : goal.returns-else-text-at-eq95
returns-else-text-at-eq95 c =
    ne_eqb _ _ c.if-text-at-eq95.false
    ∙ sym (goes_on-other _ _ c.args.text.now _ _ c.requires.within c.index-text-at.is c.index-text-at-else-is_digit.is c.if-is_digit.ensures.value c.if-text-at-eq95.false)
