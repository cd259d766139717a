use Rattle.std.proofs.Common.{◌∙◌, arith, inr}
use Rattle.pi_lex.proofs.LexLemmas.{radix_of-plain, radix_of-marked, marked-x, marked-o, marked-b, unmarked-x, unmarked-o, unmarked-b, unmarked, third_digit}
use Rattle.pi_lex.proofs.integers.radix_of.Goals as goal
use Rattle.pi_lex.proofs.integers.radix_of.Goals.{in-x, in-o, in-b, in_default}

pub returns-then-char_at-ne48-clause-value : goal.returns-then-char_at-ne48-clause-value
returns-then-char_at-ne48-clause-value c = radix_of-plain c.args.text.now _ c.char_at.ensures c.if-char_at-ne48.true

pub returns-then-is_digit-clause-value : goal.returns-then-is_digit-clause-value
returns-then-is_digit-clause-value c =
    let whole = radix_of-marked c.args.text.now _ _ _ c.char_at.ensures c.if-char_at-ne48.false c.char_at-2.ensures c.char_at-3.ensures in
    elim c.match-char_at.branch [
      | in-x w ↦ marked-x c.char_at-2.result c.char_at-3.result _ w.in-x.is w.radix-is c.if-is_digit.ensures.value ∙ whole
      | in-o w ↦ marked-o c.char_at-2.result c.char_at-3.result _ w.in-o.is w.radix-is c.if-is_digit.ensures.value ∙ whole
      | in-b w ↦ marked-b c.char_at-2.result c.char_at-3.result _ w.in-b.is w.radix-is c.if-is_digit.ensures.value ∙ whole
      | in_default w ↦ w.radix-is ∙ unmarked c.char_at-2.result c.char_at-3.result (omega arith) (omega arith) (omega arith) ∙ whole
    ]

pub returns-else-is_digit-clause-value : goal.returns-else-is_digit-clause-value
returns-else-is_digit-clause-value c =
    let whole = radix_of-marked c.args.text.now _ _ _ c.char_at.ensures c.if-char_at-ne48.false c.char_at-2.ensures c.char_at-3.ensures in
    elim c.match-char_at.branch [
      | in-x w ↦ unmarked-x c.char_at-2.result c.char_at-3.result _ w.in-x.is w.radix-is c.if-is_digit.ensures.value ∙ whole
      | in-o w ↦ unmarked-o c.char_at-2.result c.char_at-3.result _ w.in-o.is w.radix-is c.if-is_digit.ensures.value ∙ whole
      | in-b w ↦ unmarked-b c.char_at-2.result c.char_at-3.result _ w.in-b.is w.radix-is c.if-is_digit.ensures.value ∙ whole
      | in_default w ↦ unmarked c.char_at-2.result c.char_at-3.result (omega arith) (omega arith) (omega arith) ∙ whole
    ]

pub is_digit-requires-clause-lower_bound : goal.is_digit-requires-clause-lower_bound
is_digit-requires-clause-lower_bound c =
    elim c.match-char_at.branch [
      | in-x w ↦ omega (arith, w.radix-is)
      | in-o w ↦ omega (arith, w.radix-is)
      | in-b w ↦ omega (arith, w.radix-is)
      | in_default w ↦ omega (arith, w.radix-is)
    ]

pub is_digit-requires-clause-upper_bound : goal.is_digit-requires-clause-upper_bound
is_digit-requires-clause-upper_bound c =
    elim c.match-char_at.branch [
      | in-x w ↦ omega (arith, w.radix-is)
      | in-o w ↦ omega (arith, w.radix-is)
      | in-b w ↦ omega (arith, w.radix-is)
      | in_default w ↦ omega (arith, w.radix-is)
    ]

pub returns-then-is_digit-clause-low : goal.returns-then-is_digit-clause-low
returns-then-is_digit-clause-low c =
    elim c.match-char_at.branch [
      | in-x w ↦ omega (arith, w.radix-is)
      | in-o w ↦ omega (arith, w.radix-is)
      | in-b w ↦ omega (arith, w.radix-is)
      | in_default w ↦ omega (arith, w.radix-is)
    ]

pub returns-then-is_digit-clause-high : goal.returns-then-is_digit-clause-high
returns-then-is_digit-clause-high c =
    elim c.match-char_at.branch [
      | in-x w ↦ omega (arith, w.radix-is)
      | in-o w ↦ omega (arith, w.radix-is)
      | in-b w ↦ omega (arith, w.radix-is)
      | in_default w ↦ omega (arith, w.radix-is)
    ]

pub returns-then-is_digit-clause-prefix : goal.returns-then-is_digit-clause-prefix
returns-then-is_digit-clause-prefix c =
    inr (third_digit c.args.text.now _ c.match-char_at.radix (returns-then-is_digit-clause-high c) c.char_at-3.ensures c.if-is_digit.ensures.value)
