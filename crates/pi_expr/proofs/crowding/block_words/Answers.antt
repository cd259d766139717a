use Rattle.std.proofs.Common.{refl, ap, ◌∙◌, ◌+◌, arith}
use Rattle.pi_lex.specs.Kinds.{kinds}
use Rattle.pi_syntax.specs.Crowding.{is_block_word}
use Rattle.pi_expr.proofs.CrowdLemmas.{stretch_step, words_on, one_if-le}
use Rattle.pi_expr.specs.Crowds.{one_if}
use Rattle.pi_expr.proofs.crowding.block_words.Goals as goal

pub loop-i-preserved : goal.loop-i-preserved
loop-i-preserved c = record { counts = words_on is_block_word _ _ _ _ _ _ (stretch_step (kinds c.args.tokens.now) c.loop-i.i (c.loop-i.i + 1) c.args.to _ refl c.kind-token.ensures.token c.loop-i-test.true) (c.count_if-words.ensures ∙ ap (λ b. c.loop-i.words + one_if b) c.is_block_word-is_word.ensures) c.loop-i.invariant.counts; few = omega (arith, c.loop-i.invariant.few, c.count_if-words.ensures, one_if-le c.is_block_word-is_word.result) }
