use Rattle.std.proofs.Common.{◌∙◌, ◌+◌, sym, arith}
use Rattle.pi_lex.proofs.LexLemmas.{comment-other, comment-star, comment-found, read_within}
use Rattle.pi_lex.proofs.blanks.comment_end.Goals as goal
use Rattle.pi_lex.proofs.blanks.comment_end.Goals.{else-text-at-eq42-via-then-text-at-eq42+else-char_at-eq47, else-text-at-eq42-via-else-text-at-eq42}

pub loop-at-preserved : goal.loop-at-preserved
loop-at-preserved c =
    let text = c.args.text.now in
    elim c.else-text-at-eq42.branch [
      | else-text-at-eq42-via-then-text-at-eq42+else-char_at-eq47 w ↦
          sym (comment-star c.loop-at.at text _ c.index-text-at.result w.char_at.result c.loop-at-test.true c.index-text-at.is w.char_at.ensures w.if-char_at-eq47.false)
          ∙ c.loop-at.invariant
      | else-text-at-eq42-via-else-text-at-eq42 w ↦
          sym (comment-other c.loop-at.at text _ c.index-text-at.result c.loop-at-test.true c.index-text-at.is w.if-text-at-eq42.false)
          ∙ c.loop-at.invariant
    ]

pub returns-then-char_at-eq47-clause-place : goal.returns-then-char_at-eq47-clause-place
returns-then-char_at-eq47-clause-place c =
    sym (comment-found c.loop-at.at c.args.text.now _ c.index-text-at.result c.char_at.result c.loop-at-test.true c.index-text-at.is c.char_at.ensures c.if-text-at-eq42.true c.if-char_at-eq47.true)
    ∙ c.loop-at.invariant

pub returns-then-char_at-eq47-clause-within : goal.returns-then-char_at-eq47-clause-within
returns-then-char_at-eq47-clause-within c =
    (omega arith, omega (arith, read_within c.args.text.now (c.loop-at.at + 1) c.char_at.result c.char_at.ensures (omega (arith, c.if-char_at-eq47.true))))
