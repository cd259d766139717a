use Rattle.std.proofs.Common.{◌++◌, ap, ◌∙◌}
use Rattle.pi_terms.specs.Variables.{occurrences}
use Rattle.pi_syntax.specs.PrintTerm.{written}
use Rattle.pi_print_terms.specs.Numbers.{noted_all}
use Rattle.pi_print_terms.proofs.AnswerLemmas.{noted_variables}
use Rattle.pi_print_terms.proofs.term_text.Goals as goal

pub returns : goal.returns
returns c = record {
  ok =
      c.in_ok-text.ensures.ok
      ∙ (c.in_ok-term.ensures.ok
      ∙ (ap (λ r. r ++ written c.args.quoted c.meet_term.new.numbers c.args.t.now) c.new-out.ensures.bytes
      ∙ ap (λ vs. written c.args.quoted vs c.args.t.now) (c.in_ok-meet_term.ensures.ok
      ∙ (ap (λ vs. noted_all vs (occurrences c.args.t.now)) c.new-numbers.ensures ∙ noted_variables (occurrences c.args.t.now)))));
}
