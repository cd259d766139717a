use Rattle.std.proofs.Common.{◌++◌, ◌≡◌, ◌∷◌, ◌+◌, drop, get_or, ap, ◌∙◌}
use Rattle.std.specs.Prelude.{option_copied}
use Rattle.pi_print_terms.specs.PrintAnswer.{domain_of, domain_line_if}
use Rattle.pi_print_terms.proofs.AnswerLemmas.{front_number, past, line_item, line_end}
use Rattle.pi_print_terms.proofs.answers.write_domains.Goals as goal

pub loop-var-preserved : goal.loop-var-preserved
loop-var-preserved c =
    let n = get_or c.as_slice-var-items.result.now c.loop-var.var-index 0 in
    let e : drop c.loop-var.var-index c.args.printer.now.numbers ≡ n ∷ drop (c.loop-var.var-index + 1) c.args.printer.now.numbers =
    rw (← c.as_slice-var-items.ensures) (front_number c.as_slice-var-items.result.now c.loop-var.var-index c.loop-var-test.true) in
    let d : option_copied c.copied.result ≡ domain_of c.args.domains.now n =
    ap option_copied (c.copied.ensures ∙ c.get.ensures.value) ∙ c.in_ok-by_var.ensures.ok.domain n in
    line_item c.loop-var.lines c.write_domain.new.lines (λ m. domain_line_if c.args.printer.now.numbers m (domain_of c.args.domains.now m)) n _ _
    (c.in_ok-write_domain.ensures.ok ∙ ap (λ o. c.loop-var.lines ++ domain_line_if c.args.printer.now.numbers n o) d) e
    ∙ c.loop-var.invariant

pub returns : goal.returns
returns c = record {
  ok =
      line_end c.loop-var.lines (λ m. domain_line_if c.args.printer.now.numbers m (domain_of c.args.domains.now m)) (drop c.loop-var.var-index c.args.printer.now.numbers)
      (rw (← c.as_slice-var-items.ensures) (past c.loop-var.var-index c.as_slice-var-items.result.now c.loop-var-test.false))
      ∙ c.loop-var.invariant;
}
