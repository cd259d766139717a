use Rattle.pi_print_terms.proofs.AnswerLemmas.{lines_are}
use Rattle.pi_print_terms.proofs.answers.answer_text.Goals as goal

pub returns : goal.returns
returns c = record {
  ok = lines_are c.args.a.now _ _ _ _ _ _ _ _ c.new-lines.ensures c.as_slice-values.ensures c.as_slice.ensures c.in_ok-numbers_of.ensures.ok
      c.in_ok-write_values.ensures.ok c.in_ok-write_domains.ensures.ok c.in_ok-new.ensures.ok c.in_ok-push.ensures.ok;
}
