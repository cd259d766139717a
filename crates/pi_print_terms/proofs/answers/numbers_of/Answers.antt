use Rattle.std.proofs.Common.{◌∙◌}
use Rattle.pi_print_terms.proofs.AnswerLemmas.{noted_variables, noted_item, noted_end, front, past}
use Rattle.pi_print_terms.proofs.answers.numbers_of.Goals as goal

pub loop-named-init : goal.loop-named-init
loop-named-init c = rw c.new-numbers.ensures (noted_variables _)

pub loop-named-preserved : goal.loop-named-preserved
loop-named-preserved c =
    noted_item _ _ c.named-item.result _ _ c.in_ok-meet_term.ensures.ok (front c.args.values.now c.loop-named.named-index c.named-item.result c.loop-named-test.true c.named-item.is)
    ∙ c.loop-named.invariant

pub returns : goal.returns
returns c = record { ok = noted_end _ _ (past c.loop-named.named-index c.args.values.now c.loop-named-test.false) ∙ c.loop-named.invariant }
