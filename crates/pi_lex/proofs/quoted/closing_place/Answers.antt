use Rattle.std.proofs.Common.{◌∙◌, ◌+◌, sym, ap, is_some, drop}
use Rattle.pi_syntax.specs.Tokens.{closing_place}
use Rattle.pi_lex.proofs.LexLemmas.{closing_place-drop, closing-escape, closing-bad_escape, closing-quote, closing-break, closing-plain, closing-first}
use Rattle.pi_lex.proofs.quoted.closing_place.Goals as goal
use Rattle.pi_lex.proofs.quoted.closing_place.Goals.{then-behind_backslash+else-is_none, else-behind_backslash+else-c-quote+else-c-eq10}

pub returns-then-is_none-clause-place : goal.returns-then-is_none-clause-place
returns-then-is_none-clause-place c =
    closing-first c.args.text.now c.index-text-0.result _ c.requires c.index-text-0.is
    (sym c.loop-at.invariant
    ∙ closing_place-drop c.index-text-0.result _ c.loop-at.behind_backslash c.args.text.now _ c.index-text-at.result c.loop-at-test.true c.index-text-at.is
    ∙ closing-bad_escape c.index-text-0.result c.loop-at.at _ c.index-text-at.result (drop (c.loop-at.at + 1) c.args.text.now) c.if-behind_backslash.true (ap is_some (sym c.escaped.ensures) ∙ c.if-is_none.ensures))

pub returns-then-c-quote-clause-place : goal.returns-then-c-quote-clause-place
returns-then-c-quote-clause-place c =
    closing-first c.args.text.now c.index-text-0.result _ c.requires c.index-text-0.is
    (sym c.loop-at.invariant
    ∙ closing_place-drop c.index-text-0.result _ c.loop-at.behind_backslash c.args.text.now _ c.index-text-at.result c.loop-at-test.true c.index-text-at.is
    ∙ closing-quote c.index-text-0.result c.loop-at.at _ c.index-text-at.result (drop (c.loop-at.at + 1) c.args.text.now) c.if-behind_backslash.false c.if-c-quote.true)

pub returns-then-c-eq10-clause-place : goal.returns-then-c-eq10-clause-place
returns-then-c-eq10-clause-place c =
    closing-first c.args.text.now c.index-text-0.result _ c.requires c.index-text-0.is
    (sym c.loop-at.invariant
    ∙ closing_place-drop c.index-text-0.result _ c.loop-at.behind_backslash c.args.text.now _ c.index-text-at.result c.loop-at-test.true c.index-text-at.is
    ∙ closing-break c.index-text-0.result c.loop-at.at _ c.index-text-at.result (drop (c.loop-at.at + 1) c.args.text.now) c.if-behind_backslash.false c.if-c-quote.false c.if-c-eq10.true)

pub loop-at-preserved : goal.loop-at-preserved
loop-at-preserved c =
    let text = c.args.text.now in
    let quote = c.index-text-0.result in
    let at = c.loop-at.at in
    let read = closing_place-drop quote at c.loop-at.behind_backslash text at c.index-text-at.result c.loop-at-test.true c.index-text-at.is in
    elim c.if-behind_backslash.branch [
      | then-behind_backslash+else-is_none w ↦
          ap (λ behind. closing_place quote behind (at + 1) (drop (at + 1) text)) w.behind_backslash-is
          ∙ sym (read ∙ closing-escape quote at _ _ (drop (at + 1) text) w.if-behind_backslash.true (ap is_some (sym w.escaped.ensures) ∙ w.if-is_none.ensures))
          ∙ c.loop-at.invariant
      | else-behind_backslash+else-c-quote+else-c-eq10 w ↦
          ap (λ behind. closing_place quote behind (at + 1) (drop (at + 1) text)) w.behind_backslash-is
          ∙ sym (read ∙ closing-plain quote at _ _ (drop (at + 1) text) w.if-behind_backslash.false w.if-c-quote.false w.if-c-eq10.false)
          ∙ c.loop-at.invariant
    ]
